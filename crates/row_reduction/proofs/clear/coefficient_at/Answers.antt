-- The terms before the index are of columns before this one, and those after it of later columns.
use Rattle.std.proofs.Common.{rules, ◌≤◌, length, subst, sym, arith, w32, FitsSigned}
use Rattle.std.proofs.lemmas.Int.{to_z-of_z}
use Rattle.cone_arithmetic.specs.Sparse.{IsSparse}
use Rattle.row_reduction.specs.Clearing.{IsUnitAt}
use Rattle.row_reduction.specs.Eliminating.{HasNoTerm}
use Rattle.row_reduction.specs.Merging.{term_at}
use Rattle.row_reduction.proofs.CoefficientLemmas.{unit_at, no_unit, no_term, some_term}
use Rattle.row_reduction.proofs.clear.coefficient_at.Goals as goal

pub returns-then-place-column-clause-unit : goal.returns-then-place-column-clause-unit
returns-then-place-column-clause-unit c u =
    let entries = c.entries-place-items.result.now in
    let is = sym c.entries-place-items.ensures.entries in
    let f : FitsSigned w32 (term_at entries c.loop-place.place-index).1 = search rules in
    rw (to_z-of_z w32 (term_at entries c.loop-place.place-index).1 f) (unit_at entries c.loop-place.place-index c.args.column (subst IsSparse is c.entries-place-items.ensures.sparse)
    c.loop-place-test.true c.if-place-column.true (subst (IsUnitAt c.args.column) is u))

pub returns-then-place-column-2-clause-unit : goal.returns-then-place-column-2-clause-unit
returns-then-place-column-2-clause-unit c u =
    let entries = c.entries-place-items.result.now in
    let is = sym c.entries-place-items.ensures.entries in
    absurd (no_unit entries c.loop-place.place-index c.args.column (subst IsSparse is c.entries-place-items.ensures.sparse) c.loop-place.invariant (λ within. c.if-place-column-2.true)
    (subst (IsUnitAt c.args.column) is u))

pub returns-clause-unit : goal.returns-clause-unit
returns-clause-unit c u =
    let entries = c.entries-place-items.result.now in
    let is = sym c.entries-place-items.ensures.entries in
    let exceeded : length entries ≤ c.loop-place.place-index = search rules in
    absurd (no_unit entries c.loop-place.place-index c.args.column (subst IsSparse is c.entries-place-items.ensures.sparse) c.loop-place.invariant (λ within. absurd (omega (arith, within, exceeded)))
    (subst (IsUnitAt c.args.column) is u))

pub returns-then-place-column-clause-none : goal.returns-then-place-column-clause-none
returns-then-place-column-clause-none c zero_now =
    let entries = c.entries-place-items.result.now in
    let is = sym c.entries-place-items.ensures.entries in
    let f : FitsSigned w32 (term_at entries c.loop-place.place-index).1 = search rules in
    absurd (some_term entries c.loop-place.place-index (subst IsSparse is c.entries-place-items.ensures.sparse) c.loop-place-test.true (simp to_z-of_z at zero_now))

pub returns-then-place-column-2-clause-none : goal.returns-then-place-column-2-clause-none
returns-then-place-column-2-clause-none c zero_now =
    let entries = c.entries-place-items.result.now in
    let is = sym c.entries-place-items.ensures.entries in
    subst (λ r. HasNoTerm r c.args.column) (sym is) (no_term entries c.loop-place.place-index c.args.column (subst IsSparse is c.entries-place-items.ensures.sparse) c.loop-place.invariant
    (λ within. c.if-place-column-2.true))

pub returns-clause-none : goal.returns-clause-none
returns-clause-none c zero_now =
    let entries = c.entries-place-items.result.now in
    let is = sym c.entries-place-items.ensures.entries in
    let exceeded : length entries ≤ c.loop-place.place-index = search rules in
    subst (λ r. HasNoTerm r c.args.column) (sym is) (no_term entries c.loop-place.place-index c.args.column (subst IsSparse is c.entries-place-items.ensures.sparse) c.loop-place.invariant
    (λ within. absurd (omega (arith, within, exceeded))))
