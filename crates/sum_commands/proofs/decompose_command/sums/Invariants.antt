-- The text so far is the table and the blocks of the vectors so far.
use Rattle.std.proofs.Common.{take}
use Rattle.command_answers.specs.Reads.{all_entries}
use Rattle.sum_commands.specs.Telling.{AreSummedIn}
use Rattle.sum_commands.proofs.decompose_command.sums.Given as goal

abbrev pub invariant-loop-vector : goal.invariant-loop-vector
invariant-loop-vector l = AreSummedIn l.limit.number l.list l.table (all_entries (take l.vector l.vectors)) l.text.items
