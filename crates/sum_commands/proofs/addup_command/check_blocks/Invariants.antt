-- The blocks so far are accepted.
use Rattle.std.proofs.Common.{take, Ok}
use Rattle.std.specs.List.{All}
use Rattle.outcome_definitions.specs.Sums.{IsAddedUp}
use Rattle.sum_commands.specs.Blocks.{all_blocks}
use Rattle.sum_commands.proofs.addup_command.check_blocks.Given as goal

abbrev pub invariant-loop-number : goal.invariant-loop-number
invariant-loop-number l = All (λ block. IsAddedUp l.equations.coords l.equations.table.now l.equations.system.now.rows block (Ok tt)) (all_blocks (take l.number l.blocks))
