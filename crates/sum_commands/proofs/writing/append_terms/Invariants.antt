-- The text so far has the lines of the terms so far.
use Rattle.std.proofs.Common.{◌≡◌, ◌++◌, take}
use Rattle.std.specs.List.{flat_map}
use Rattle.text_document_definitions.specs.Blocks.{term_text}
use Rattle.sum_commands.proofs.writing.append_terms.Given as goal

abbrev pub invariant-loop-term : goal.invariant-loop-term
invariant-loop-term l = l.out.items ≡ l.fn.out.items ++ flat_map term_text (take l.term-index l.terms)
