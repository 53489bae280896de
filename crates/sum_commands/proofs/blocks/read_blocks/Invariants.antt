-- The blocks so far, followed by those that are left, are those of the input.
use Rattle.std.proofs.Common.{◌≡◌, length}
use Rattle.text_document_definitions.specs.Blocks.{blocks_from}
use Rattle.text_document_definitions.proofs.EachLine.{with_fronts}
use Rattle.sum_commands.specs.Blocks.{blocks_of}
use Rattle.sum_commands.proofs.blocks.read_blocks.Given as goal

abbrev pub invariant-loop-alloc : goal.invariant-loop-alloc
invariant-loop-alloc l = with_fronts (blocks_of l.blocks) (blocks_from l.lexer.later l.lexer) ≡ blocks_from l.fn.lexer.later l.fn.lexer

abbrev pub decreases-loop-alloc : goal.decreases-loop-alloc
decreases-loop-alloc l = length l.lexer.later
