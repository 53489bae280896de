use Rattle.cone_definitions.specs.HoldingRows.{HoldWithinBefore}
use Rattle.cone_arithmetic.specs.declared.numbers.TheConstants.{MAX_ENTRY}
use Rattle.cone_arithmetic.proofs.system.is_solution.Given as goal

abbrev pub invariant-loop-row : goal.invariant-loop-row
invariant-loop-row l = HoldWithinBefore MAX_ENTRY l.system.rows l.x l.row
