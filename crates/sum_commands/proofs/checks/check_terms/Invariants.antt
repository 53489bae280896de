-- The terms so far are admissible solutions.
use Rattle.std.proofs.Common.{take, Ok}
use Rattle.std.specs.List.{All}
use Rattle.outcome_definitions.specs.Sums.{IsTermVerdict}
use Rattle.ray_decompose.specs.Sums.{terms_of}
use Rattle.sum_commands.proofs.checks.check_terms.Given as goal

abbrev pub invariant-loop-number : goal.invariant-loop-number
invariant-loop-number l = All (λ term. IsTermVerdict l.equations.coords l.equations.table.now l.equations.system.now.rows term (Ok tt)) (terms_of (take l.number l.terms))
