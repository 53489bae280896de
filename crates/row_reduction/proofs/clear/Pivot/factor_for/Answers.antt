-- The coefficient is that of a term, unless it is 0.
use Rattle.std.proofs.Common.{rules, ap, subst, w32, FitsSigned}
use Rattle.std.proofs.lemmas.Int.{to_z-of_z}
use Rattle.row_reduction.specs.Eliminating.{PivotData, HasNoTerm, CancelsAt}
use Rattle.row_reduction.proofs.CoefficientLemmas.{cancels_by, none_left}
use Rattle.row_reduction.proofs.clear.Pivot.factor_for.Goals as goal

pub returns-then-coefficient-eq0-clause-none : goal.returns-then-coefficient-eq0-clause-none
returns-then-coefficient-eq0-clause-none c none =
    let f : FitsSigned w32 c.coefficient_at-coefficient.result = search rules in
    subst (HasNoTerm c.args.row.now) (ap (λ (p : PivotData). p.column) c.self.view_is)
    (none_left c.args.row.now c.self.inside.column c.coefficient_at-coefficient.result f c.coefficient_at-coefficient.ensures.none c.if-coefficient-eq0.true)

pub returns-clause-cancels : goal.returns-clause-cancels
returns-clause-cancels c =
    let row = c.args.row.now in
    let coefficient = c.coefficient_at-coefficient.result in
    let factor = c.clearing_factor.result in
    let f : FitsSigned w32 coefficient = search rules in
    let g : FitsSigned w32 factor = search rules in
    let h : FitsSigned w32 c.self.inside.unit = search rules in
    rw (to_z-of_z w32 factor g) (subst (λ (p : PivotData). CancelsAt p.column row factor p.row) c.self.view_is
    (cancels_by row coefficient factor c.self.inside.row c.self.inside.column c.self.inside.unit c.coefficient_at-coefficient.ensures.found c.if-coefficient-eq0.false
    c.self.invariant.0 c.self.invariant.1 (simp to_z-of_z at c.clearing_factor.ensures)))
