-- The row at the index has no coefficient 1 or -1 at the column, or is the first that has one.
use Rattle.std.proofs.Common.{rules, subst, w32, FitsSigned}
use Rattle.std.proofs.lemmas.Int.{to_z-of_z}
use Rattle.row_reduction.specs.Eliminating.{IsPivotBelow}
use Rattle.row_reduction.proofs.CoefficientLemmas.{abs_of_unit, unit_from_abs}
use Rattle.row_reduction.proofs.EliminatingLemmas.{pivot_stays, pivot_first}
use Rattle.row_reduction.proofs.blocks.better_place.Goals as goal

pub returns-then-unsigned_abs-ne1 : goal.returns-then-unsigned_abs-ne1
returns-then-unsigned_abs-ne1 c =
    let f : FitsSigned w32 c.coefficient_at.result = search rules in
    pivot_stays c.args.column c.args.rows.now c.args.place c.args.best c.requires.best (λ unit. c.if-unsigned_abs-ne1.true
    (abs_of_unit c.args.rows.now c.args.place c.index-rows-place.result c.args.column c.coefficient_at.result c.unsigned_abs.result c.requires.within c.index-rows-place.is
    c.coefficient_at.ensures.unit (simp to_z-of_z at c.unsigned_abs.ensures.value) unit))

pub returns-in-None : goal.returns-in-None
returns-in-None c =
    let f : FitsSigned w32 c.coefficient_at.result = search rules in
    pivot_first c.args.column c.args.rows.now c.args.place (subst (IsPivotBelow c.args.column c.args.rows.now c.args.place) c.in-None.is c.requires.best)
    (unit_from_abs c.args.rows.now c.args.place c.index-rows-place.result c.args.column c.coefficient_at.result c.unsigned_abs.result c.requires.within c.index-rows-place.is
    c.coefficient_at.ensures.found (simp to_z-of_z at c.unsigned_abs.ensures.value) c.if-unsigned_abs-ne1.false)
