-- The vectors so far are admissible solutions.
use Rattle.std.proofs.Common.{take, Ok}
use Rattle.std.specs.List.{All}
use Rattle.outcome_definitions.specs.Sums.{IsVerdict}
use Rattle.command_answers.specs.Reads.{all_entries}
use Rattle.sum_commands.proofs.checks.check_vectors.Given as goal

abbrev pub invariant-loop-number : goal.invariant-loop-number
invariant-loop-number l = All (λ x. IsVerdict l.equations.coords l.equations.table.now l.equations.system.now.rows x (Ok tt)) (all_entries (take l.number l.vectors))
