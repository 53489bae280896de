use Rattle.ray_decompose.specs.Fractions.{IsLeastColumn}
use Rattle.ray_decompose.proofs.fraction.limiting_column.Given as goal

abbrev pub invariant-loop-column : goal.invariant-loop-column
invariant-loop-column l = IsLeastColumn l.division.rest.now l.division.ray.now l.column l.least
