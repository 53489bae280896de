-- The magnitudes of all quad equations in a column.
use Rattle.std.proofs.Common.{◌≡◌, ℕ, zero, suc, ◌+◌, ◌*◌, ◌/◌, ◌%◌, ◌<◌, ◌≤◌, not, List, [], ◌∷◌, length, inl, inr, refl, sym, ap, subst, arith}
use Rattle.std.specs.Prelude.{◌==◌, slice_index, sum_by}
use Rattle.std.specs.List.{AllZip}
use Rattle.std.proofs.lemmas.Bool.{cases_lt, eq-eqb, ne_eqb}
use Rattle.std.proofs.lemmas.List.Sums.{sum_by-cons}
use Rattle.table_definitions.specs.Lists.{below, times_in}
use Rattle.table_definitions.specs.Permutation.{image}
use Rattle.table_definitions.specs.Table.{Row, IsTable}
use Rattle.table_definitions.specs.Places.{edge_number, SameEdge, is_boundary_edge}
use Rattle.table_definitions.specs.Classes.{IsNumbering}
use Rattle.table_definitions.proofs.TableLaws.{Among}
use Rattle.table_definitions.proofs.Listed.{filter-among, below-among}
use Rattle.table_definitions.proofs.Bijections.{flips}
use Rattle.skeleton_definitions.specs.Corners.{internal_edges}
use Rattle.cone_definitions.specs.Rows.{Row as EquationRow}
use Rattle.surface_definitions.specs.Coordinates.{columns}
use Rattle.surface_definitions.specs.declared.Coords.TheVariants.{Quad}
use Rattle.surface_definitions.specs.QuadEquations.{quad_equation, IsQuadRow, AreQuadEquations}
use Rattle.surface_laws.proofs.Counting.{sum_swap, sum_by_same, sum_by-none, one_term}
use Rattle.cone_bound_laws.specs.Caps.{magnitude}
use Rattle.surface_definitions.proofs.ColumnCounts.{index_below}
use Rattle.surface_equation_laws.specs.Entries.{entry, column_sum, IsOnce}
use Rattle.surface_equation_laws.proofs.Entries.{magnitude_most}
use Rattle.surface_equation_laws.proofs.Chosen.{sum_by_less, passing_less}
use Rattle.surface_equation_laws.proofs.CornerCounts.{halves, side, times_at, hits, hits_few}
use Rattle.basic_lemmas.proofs.Truths.{one_if}

-- the edges that quad q meets
abbrev pub meeting : ℕ → List ℕ
meeting zero = 1 ∷ 2 ∷ 3 ∷ 4 ∷ []
meeting (suc zero) = 0 ∷ 2 ∷ 3 ∷ 5 ∷ []
meeting (suc (suc q)) = 0 ∷ 1 ∷ 4 ∷ 5 ∷ []

module _ (N : List ℕ → ℕ) (m : ℕ → ℕ) (limited : (w : List ℕ) (e : ℕ) → edge_number (image w 0) (image w 1) ≡ e → edge_number (image w 1) (image w 0) ≡ e → N w ≤ m e) where
  -- each edge that a quad meets has one word in `halves` with the quad on a given side
  on_third : (q : ℕ) → q < 3 → sum_by (λ w. one_if (side 2 w == q) * N w) halves ≤ sum_by m (meeting q)
  on_third zero l = omega (arith, limited (0 ∷ 2 ∷ 1 ∷ 3 ∷ []) 1 refl refl, limited (0 ∷ 3 ∷ 1 ∷ 2 ∷ []) 2 refl refl, limited (1 ∷ 2 ∷ 0 ∷ 3 ∷ []) 3 refl refl, limited (1 ∷ 3 ∷ 0 ∷ 2 ∷ []) 4 refl refl)
  on_third (suc zero) l = omega (arith, limited (0 ∷ 1 ∷ 2 ∷ 3 ∷ []) 0 refl refl, limited (0 ∷ 3 ∷ 2 ∷ 1 ∷ []) 2 refl refl, limited (1 ∷ 2 ∷ 3 ∷ 0 ∷ []) 3 refl refl, limited (2 ∷ 3 ∷ 0 ∷ 1 ∷ []) 5 refl refl)
  on_third (suc (suc zero)) l = omega (arith, limited (0 ∷ 1 ∷ 3 ∷ 2 ∷ []) 0 refl refl, limited (0 ∷ 2 ∷ 3 ∷ 1 ∷ []) 1 refl refl, limited (1 ∷ 3 ∷ 2 ∷ 0 ∷ []) 4 refl refl, limited (2 ∷ 3 ∷ 1 ∷ 0 ∷ []) 5 refl refl)
  on_third (suc (suc (suc q))) l = absurd (omega arith)

  on_fourth : (q : ℕ) → q < 3 → sum_by (λ w. one_if (side 3 w == q) * N w) halves ≤ sum_by m (meeting q)
  on_fourth zero l = omega (arith, limited (0 ∷ 2 ∷ 3 ∷ 1 ∷ []) 1 refl refl, limited (0 ∷ 3 ∷ 2 ∷ 1 ∷ []) 2 refl refl, limited (1 ∷ 2 ∷ 3 ∷ 0 ∷ []) 3 refl refl, limited (1 ∷ 3 ∷ 2 ∷ 0 ∷ []) 4 refl refl)
  on_fourth (suc zero) l = omega (arith, limited (0 ∷ 1 ∷ 3 ∷ 2 ∷ []) 0 refl refl, limited (0 ∷ 3 ∷ 1 ∷ 2 ∷ []) 2 refl refl, limited (1 ∷ 2 ∷ 0 ∷ 3 ∷ []) 3 refl refl, limited (2 ∷ 3 ∷ 1 ∷ 0 ∷ []) 5 refl refl)
  on_fourth (suc (suc zero)) l = omega (arith, limited (0 ∷ 1 ∷ 2 ∷ 3 ∷ []) 0 refl refl, limited (0 ∷ 2 ∷ 1 ∷ 3 ∷ []) 1 refl refl, limited (1 ∷ 3 ∷ 0 ∷ 2 ∷ []) 4 refl refl, limited (2 ∷ 3 ∷ 0 ∷ 1 ∷ []) 5 refl refl)
  on_fourth (suc (suc (suc q))) l = absurd (omega arith)

-- the number of edges of class r that the quad of a column meets
abbrev pub met : List ℕ → ℕ → ℕ → ℕ
met classes c r = sum_by (λ e. one_if (slice_index classes (6 * (c / 3) + e) == r)) (meeting (c % 3))

-- sums over lists whose items are related one by one
zip_few : {A B : Type 0} (P : A → B → Type 0) (F : B → ℕ) (G : A → ℕ) (xs : List A) (ys : List B) → AllZip P xs ys → ((x : A) (y : B) → Among x xs → P x y → F y ≤ G x) → sum_by F ys ≤ sum_by G xs
zip_few P F G [] [] z h = omega arith
zip_few P F G [] (y ∷ ys) z h = absurd z
zip_few P F G (x ∷ xs) [] z h = absurd z
zip_few P F G (x ∷ xs) (y ∷ ys) z h =
    let more : sum_by F ys ≤ sum_by G xs = zip_few P F G xs ys z.1 (λ a b m. h a b (inr m)) in
    let here : F y ≤ G x = h x y (inl refl) z.0 in
    omega (arith, sum_by-cons F y ys, sum_by-cons G x xs)

pub below_once : (n : ℕ) → IsOnce (below n)
below_once n c = elim (cases_lt c n) [
  | inl l ↦ (let e : times_in (below n) c ≡ one_if (c == c) = one_term (λ k. one_if (k == c)) c n (λ k off. ap one_if (ne_eqb k c off)) l in
      let s : one_if (c == c) ≡ 1 = ap one_if (eq-eqb c c refl) in omega arith)
  | inr out ↦ (let e : times_in (below n) c ≡ 0 = sum_by-none (λ k. one_if (k == c)) (below n) (λ k a. ap one_if (ne_eqb k c (λ s. let l = below-among k n a in omega arith))) in omega arith)
]

four_met : (q : ℕ) → q < 3 → sum_by (λ (e : ℕ). 1) (meeting q) ≡ 4
four_met zero l = refl
four_met (suc zero) l = refl
four_met (suc (suc zero)) l = refl
four_met (suc (suc (suc q))) l = absurd (omega arith)

module _ (rows : List Row) (table : IsTable rows) (classes : List ℕ) (count : ℕ) (numbered : IsNumbering (6 * length rows) (SameEdge rows) classes count) where
  row_few : (c r : ℕ) (row : EquationRow) → r < count → IsQuadRow rows classes r row → magnitude (entry row c) ≤ met classes c r
  row_few c r row l h =
      let N : List ℕ → ℕ = λ w. sum_by (λ k. one_if (hits (c / 3) w k)) h.0 in
      let m : ℕ → ℕ = λ e. one_if (slice_index classes (6 * (c / 3) + e) == r) in
      let limited : (w : List ℕ) (e : ℕ) → edge_number (image w 0) (image w 1) ≡ e → edge_number (image w 1) (image w 0) ≡ e → N w ≤ m e =
      hits_few rows classes count table numbered r l h.0 h.1 (c / 3) in
      let left : times_in (quad_equation h.0).left c ≤ met classes c r =
      subst (λ k. k ≤ met classes c r) (sym (times_at rows classes count table numbered r l h.0 h.1 2 c (inl refl))) (on_third N m limited (c % 3) (index_below Quad c)) in
      let right : times_in (quad_equation h.0).right c ≤ met classes c r =
      subst (λ k. k ≤ met classes c r) (sym (times_at rows classes count table numbered r l h.0 h.1 3 c (inr refl))) (on_fourth N m limited (c % 3) (index_below Quad c)) in
      subst (λ (w : EquationRow). magnitude (entry w c) ≤ met classes c r) (sym h.2) (magnitude_most (columns Quad (length rows)) (quad_equation h.0) c (met classes c r) left right)

  -- each edge is of one class
  one_class : (x : ℕ) → sum_by (λ r. one_if (x == r)) (internal_edges rows classes count) ≤ 1
  one_class x =
      let e : sum_by (λ r. one_if (x == r)) (internal_edges rows classes count) ≡ times_in (internal_edges rows classes count) x =
      sum_by_same (λ r. one_if (x == r)) (λ r. one_if (r == x)) (internal_edges rows classes count) (λ r a. ap one_if (flips x r)) in
      let l = passing_less (λ c. not (is_boundary_edge rows classes c)) x (below count) in
      let o = below_once count x in
      omega arith

  pub quad_column_few : (quad_rows : List EquationRow) (c : ℕ) → AllZip (IsQuadRow rows classes) (internal_edges rows classes count) quad_rows → column_sum quad_rows c ≤ 4
  quad_column_few quad_rows c each =
      let inner : List ℕ = internal_edges rows classes count in
      let a : column_sum quad_rows c ≤ sum_by (met classes c) inner =
      zip_few (IsQuadRow rows classes) (λ row. magnitude (entry row c)) (met classes c) inner quad_rows each
      (λ r row m h. row_few c r row (below-among r count (filter-among (λ d. not (is_boundary_edge rows classes d)) r (below count) m).0) h) in
      let b : sum_by (met classes c) inner ≡ sum_by (λ e. sum_by (λ r. one_if (slice_index classes (6 * (c / 3) + e) == r)) inner) (meeting (c % 3)) =
      sum_swap (λ r e. one_if (slice_index classes (6 * (c / 3) + e) == r)) inner (meeting (c % 3)) in
      let d : sum_by (λ e. sum_by (λ r. one_if (slice_index classes (6 * (c / 3) + e) == r)) inner) (meeting (c % 3)) ≤ sum_by (λ (e : ℕ). 1) (meeting (c % 3)) =
      sum_by_less (λ e. sum_by (λ r. one_if (slice_index classes (6 * (c / 3) + e) == r)) inner) (λ (e : ℕ). 1) (meeting (c % 3)) (λ e m. one_class (slice_index classes (6 * (c / 3) + e))) in
      let f : sum_by (λ (e : ℕ). 1) (meeting (c % 3)) ≡ 4 = four_met (c % 3) (index_below Quad c) in
      omega arith

pub quad_columns_are_few : (rows : List Row) (quad_rows : List EquationRow) (c : ℕ) → IsTable rows → AreQuadEquations rows quad_rows → column_sum quad_rows c ≤ 4
quad_columns_are_few rows quad_rows c table q = quad_column_few rows table q.classes q.count q.numbered quad_rows c q.each
