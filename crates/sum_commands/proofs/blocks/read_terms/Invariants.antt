-- The terms so far, followed by those that are left, are all terms.
use Rattle.std.proofs.Common.{◌≡◌, ◌-◌}
use Rattle.text_document_definitions.specs.Blocks.{terms_at}
use Rattle.ray_decompose.specs.Sums.{terms_of}
use Rattle.text_document_definitions.proofs.EachLine.{with_fronts}
use Rattle.sum_commands.proofs.blocks.read_terms.Given as goal

abbrev pub invariant-loop-number : goal.invariant-loop-number
invariant-loop-number l = with_fronts (terms_of l.terms.items) (terms_at (l.count - l._number) l.lexer) ≡ terms_at l.count l.fn.lexer
