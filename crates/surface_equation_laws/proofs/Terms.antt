-- The terms of an equation's row add up to at most what its entries do.
use Rattle.std.proofs.Common.{◌≡◌, ℕ, ◌≤◌, Bool, true, false, ℤ, List, length, Contains, Option, Some, None, sym, ap, subst, arith}
use Rattle.std.specs.Prelude.{◌==◌, if◌then◌else◌, sum_by}
use Rattle.table_definitions.specs.Lists.{below, times_in}
use Rattle.table_definitions.specs.Table.{Row, IsTable}
use Rattle.table_definitions.proofs.TableLaws.{Among}
use Rattle.table_definitions.proofs.Listed.{below-among, map-among, among_contains}
use Rattle.skeleton_definitions.specs.Corners.{internal_edges}
use Rattle.cone_definitions.specs.Rows.{Row as EquationRow, positive_coefficient, negative_coefficient}
use Rattle.surface_definitions.specs.Coordinates.{columns}
use Rattle.surface_definitions.specs.declared.Coords.{Coords}
use Rattle.surface_definitions.specs.declared.Coords.TheVariants.{Standard, Quad, Octagon}
use Rattle.surface_definitions.specs.Equations.{Equation, coefficient, term_of, row_of, matching_equations, matching_rows}
use Rattle.surface_definitions.specs.QuadEquations.{quad_equation, IsQuadRow, AreEquations}
use Rattle.surface_equation_laws.specs.Entries.{entry}
use Rattle.surface_equation_laws.specs.MatchingSums.{AreAtMost}
use Rattle.surface_equation_laws.specs.EquationSums.{row_bound, HasTermsAtMost}
use Rattle.surface_equation_laws.proofs.Entries.{entry_row}
use Rattle.surface_equation_laws.proofs.Chosen.{sum_by_less}
use Rattle.surface_equation_laws.proofs.FaceSums.{over, sum_by-filter_map}
use Rattle.surface_equation_laws.proofs.QuadColumns.{below_once}
use Rattle.surface_equation_laws.proofs.QuadRows.{zip-among}
use Rattle.surface_equation_laws.proofs.EquationSums.{moved, equation_rows}

term_less : (F : ℤ → ℕ) (e : Equation) (c : ℕ) → over (λ (t : ℕ × ℤ). F t.1) (term_of e c) ≤ F (coefficient e c)
term_less F e c = go (times_in e.left c == times_in e.right c)
  where
    go : (b : Bool) → over (λ (t : ℕ × ℤ). F t.1) (let p : Option (ℕ × ℤ) = if b then None else Some (c, coefficient e c) in p) ≤ F (coefficient e c)
    go true = omega arith
    go false = omega arith

terms_most : (F : ℤ → ℕ) (n : ℕ) (e : Equation) → sum_by (λ (t : ℕ × ℤ). F t.1) (row_of n e) ≤ sum_by (λ c. F (entry (row_of n e) c)) (below n)
terms_most F n e =
    let a : sum_by (λ (t : ℕ × ℤ). F t.1) (row_of n e) ≡ sum_by (λ c. over (λ (t : ℕ × ℤ). F t.1) (term_of e c)) (below n) = sum_by-filter_map {B = ℕ × ℤ} (λ (t : ℕ × ℤ). F t.1) (term_of e) (below n) in
    let b : sum_by (λ c. over (λ (t : ℕ × ℤ). F t.1) (term_of e c)) (below n) ≤ sum_by (λ c. F (entry (row_of n e) c)) (below n) =
    sum_by_less (λ c. over (λ (t : ℕ × ℤ). F t.1) (term_of e c)) (λ c. F (entry (row_of n e) c)) (below n)
    (λ c m. subst (λ k. over (λ (t : ℕ × ℤ). F t.1) (term_of e c) ≤ k) (ap F (sym (entry_row n e c (below-among c n m)))) (term_less F e c)) in
    subst (λ k. k ≤ sum_by (λ c. F (entry (row_of n e) c)) (below n)) (sym a) b

-- each equation's row is that of an equation
pub row_made : (coords : Coords) (rows : List Row) (equations : List EquationRow) (row : EquationRow) → AreEquations coords rows equations → Contains equations row
    → (e : Equation) × (row ≡ row_of (columns coords (length rows)) e)
row_made Standard rows equations row e h =
    let m : (d : Equation) × Among d (matching_equations Standard rows) × (row ≡ row_of (columns Standard (length rows)) d) =
    map-among (row_of (columns Standard (length rows))) row (matching_equations Standard rows) (among_contains row (matching_rows Standard rows) (moved e h)) in
    (m.0, m.2)
row_made Quad rows equations row e h =
    let m : (r : ℕ) × Among r (internal_edges rows e.classes e.count) × IsQuadRow rows e.classes r row =
    zip-among (IsQuadRow rows e.classes) row (internal_edges rows e.classes e.count) equations e.each (among_contains row equations h) in
    (quad_equation m.2.0, m.2.2)
row_made Octagon rows equations row e h =
    let m : (d : Equation) × Among d (matching_equations Octagon rows) × (row ≡ row_of (columns Octagon (length rows)) d) =
    map-among (row_of (columns Octagon (length rows))) row (matching_equations Octagon rows) (among_contains row (matching_rows Octagon rows) (moved e h)) in
    (m.0, m.2)

pub equation_terms : (coords : Coords) (rows : List Row) (equations : List EquationRow) (row : EquationRow) → IsTable rows → AreEquations coords rows equations
    → Contains equations row → HasTermsAtMost row (row_bound coords (length rows))
equation_terms coords rows equations row table q h =
    let n : ℕ = columns coords (length rows) in
    let m : (e : Equation) × (row ≡ row_of n e) = row_made coords rows equations row q h in
    let a : AreAtMost row (below n) (row_bound coords (length rows)) = equation_rows coords rows equations row (below n) table q h (below_once n) in
    let b : AreAtMost (row_of n m.0) (below n) (row_bound coords (length rows)) = subst (λ (w : EquationRow). AreAtMost w (below n) (row_bound coords (length rows))) m.1 a in
    let p = terms_most positive_coefficient n m.0 in
    let s = terms_most negative_coefficient n m.0 in
    let bp = b.plus in
    let bm = b.minus in
    subst (λ (w : EquationRow). HasTermsAtMost w (row_bound coords (length rows))) (sym m.1) (record { plus = omega arith; minus = omega arith })
