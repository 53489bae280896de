-- The sums of a quad equation: the positive and the negative coefficients have the same sum, at most half of all
-- magnitudes.
use Rattle.std.proofs.Common.{◌≡◌, ℕ, zero, suc, ◌+◌, ◌*◌, ◌<◌, ◌≤◌, ℤ, pos, negsuc, ◌-ℤ◌, List, [], ◌∷◌, length, map, ◌⊎◌, inl, inr, refl, sym, ap, ◌∙◌, subst, arith, Contains}
use Rattle.std.specs.Prelude.{sum_by, not, ◌==◌}
use Rattle.std.specs.List.{AllZip, range_with_len}
use Rattle.std.proofs.lemmas.Int.{ints}
use Rattle.std.proofs.lemmas.List.{length-map}
use Rattle.std.proofs.lemmas.List.Sums.{sum_by-cons}
use Rattle.std.proofs.lemmas.Bool.{eq-eqb, ne_eqb}
use Rattle.table_definitions.specs.Lists.{below, times_in}
use Rattle.table_definitions.specs.Table.{Row, IsTable}
use Rattle.table_definitions.specs.Places.{is_boundary_edge}
use Rattle.table_definitions.proofs.TableLaws.{Among}
use Rattle.table_definitions.proofs.Listed.{filter-among, below-among, among_contains, map-among}
use Rattle.skeleton_definitions.specs.Corners.{Corner, internal_edges}
use Rattle.cone_definitions.specs.Rows.{Row as EquationRow, positive_coefficient, negative_coefficient}
use Rattle.surface_definitions.specs.Coordinates.{columns, quad_column}
use Rattle.surface_definitions.specs.declared.Coords.TheVariants.{Quad}
use Rattle.surface_definitions.specs.Equations.{Equation, row_of}
use Rattle.surface_definitions.specs.QuadEquations.{quad_equation, IsQuadRow, AreQuadEquations}
use Rattle.surface_laws.proofs.Counting.{sum_by_same, one_term}
use Rattle.surface_laws.proofs.Sums.{sum_by_plus}
use Rattle.cone_bound_laws.specs.Caps.{magnitude}
use Rattle.surface_equation_laws.specs.Entries.{entry, IsOnce, plus_over, minus_over}
use Rattle.surface_equation_laws.specs.MatchingSums.{AreAtMost}
use Rattle.surface_equation_laws.proofs.Entries.{entry_row, entry_outside}
use Rattle.surface_equation_laws.proofs.Chosen.{sum_by_less, times_swap, plus_at_most, minus_at_most, sum_by-ones}
use Rattle.surface_equation_laws.proofs.Selected.{selected}
use Rattle.surface_equation_laws.proofs.CornerSteps.{IsCorner}
use Rattle.surface_equation_laws.proofs.CornerCounts.{side, side_below, is_corner}
use Rattle.surface_equation_laws.proofs.QuadColumns.{quad_columns_are_few}
use Rattle.basic_lemmas.proofs.Truths.{one_if}
use Rattle.skeleton_class_laws.specs.Rounds.{corner_word}

-- the positive and negative parts of a difference a - b
balanced : (z : ℤ) (a b : ℕ) → z ≡ pos a -ℤ pos b → positive_coefficient z + b ≡ negative_coefficient z + a
balanced (pos k) a b e = omega (arith, ints)
balanced (negsuc k) a b e = omega (arith, ints)

-- columns below n are counted once each
all_times : (n : ℕ) (ls : List ℕ) → ((l : ℕ) → Among l ls → l < n) → sum_by (times_in ls) (below n) ≡ length ls
all_times n ls low = times_swap (below n) ls ∙ sum_by_same (times_in (below n)) (λ (l : ℕ). 1) ls (λ l a. once l (low l a)) ∙ sum_by-ones ls
  where
    once : (l : ℕ) → l < n → times_in (below n) l ≡ 1
    once l h = one_term (λ k. one_if (k == l)) l n (λ k off. ap one_if (ne_eqb k l off)) h ∙ ap one_if (eq-eqb l l refl)

-- if both sides have equally many columns, all in range, the positive and the negative coefficients have the same sum
same_sums : (n : ℕ) (e : Equation) → ((l : ℕ) → Among l e.left → l < n) → ((l : ℕ) → Among l e.right → l < n) → length e.left ≡ length e.right → plus_over (row_of n e) (below n) ≡ minus_over (row_of n e) (below n)
same_sums n e low_left low_right same =
    let plus : ℕ → ℕ = λ c. positive_coefficient (entry (row_of n e) c) in
    let minus : ℕ → ℕ = λ c. negative_coefficient (entry (row_of n e) c) in
    let a : sum_by (λ c. plus c + times_in e.right c) (below n) ≡ sum_by (λ c. minus c + times_in e.left c) (below n) =
    sum_by_same (λ c. plus c + times_in e.right c) (λ c. minus c + times_in e.left c) (below n) (λ c m. balanced (entry (row_of n e) c) (times_in e.left c) (times_in e.right c) (entry_row n e c (below-among c n m))) in
    let b : sum_by (λ c. plus c + times_in e.right c) (below n) ≡ sum_by plus (below n) + sum_by (times_in e.right) (below n) = sum_by_plus plus (times_in e.right) (λ c. plus c + times_in e.right c) (λ c. refl) (below n) in
    let d : sum_by (λ c. minus c + times_in e.left c) (below n) ≡ sum_by minus (below n) + sum_by (times_in e.left) (below n) = sum_by_plus minus (times_in e.left) (λ c. minus c + times_in e.left c) (λ c. refl) (below n) in
    let l : sum_by (times_in e.left) (below n) ≡ length e.left = all_times n e.left low_left in
    let r : sum_by (times_in e.right) (below n) ≡ length e.right = all_times n e.right low_right in
    omega arith

among_le : {A : Type 0} (f : A → ℕ) (x : A) (xs : List A) → Among x xs → f x ≤ sum_by f xs
among_le f x [] h = absurd h
among_le f x (y ∷ ys) (inl e) = let s : f x ≡ f y = ap f e in omega (arith, sum_by-cons f y ys)
among_le f x (y ∷ ys) (inr h) = let more : f x ≤ sum_by f ys = among_le f x ys h in omega (arith, sum_by-cons f y ys)

pub zip-among : {A B : Type 0} (P : A → B → Type 0) (y : B) (xs : List A) (ys : List B) → AllZip P xs ys → Among y ys → (x : A) × Among x xs × P x y
zip-among P y [] [] z h = absurd h
zip-among P y [] (b ∷ bs) z h = absurd z
zip-among P y (a ∷ rest) [] z h = absurd z
zip-among P y (a ∷ rest) (b ∷ bs) z (inl e) = (a, inl refl, subst (P a) (sym e) z.0)
zip-among P y (a ∷ rest) (b ∷ bs) z (inr h) = let m = zip-among P y rest bs z.1 h in (m.0, inr m.1, m.2)

fours : (n : ℕ) → sum_by (λ (c : ℕ). 4) (below n) ≡ 4 * n
fours n = go 0 n
  where
    go : (a k : ℕ) → sum_by (λ (c : ℕ). 4) (range_with_len a k) ≡ 4 * k
    go a zero = refl
    go a (suc k) = let more : sum_by (λ (c : ℕ). 4) (range_with_len (a + 1) k) ≡ 4 * k = go (a + 1) k in omega (arith, sum_by-cons (λ (c : ℕ). 4) a (range_with_len (a + 1) k))

module _ (rows : List Row) (quad_rows : List EquationRow) (table : IsTable rows) (q : AreQuadEquations rows quad_rows) where
  -- all columns of an equation are in range
  side_in_range : (s : ℕ) → (s ≡ 2) ⊎ (s ≡ 3) → (corners : List Corner) → ((k : Corner) → Among k corners → IsCorner rows k)
      → (l : ℕ) → Among l (map (λ (k : Corner). quad_column Quad k.tet (side s (corner_word k))) corners) → l < columns Quad (length rows)
  side_in_range s which corners good l h =
      let m : (k : Corner) × Among k corners × (l ≡ quad_column Quad k.tet (side s (corner_word k))) = map-among (λ (k : Corner). quad_column Quad k.tet (side s (corner_word k))) l corners h in
      let g : IsCorner rows m.0 = good m.0 m.1 in
      let t = g.tet in
      let b = side_below s which (corner_word m.0) g.permutes in
      let e = m.2 in
      omega arith

  -- the equation that a row represents
  record IsEquationRow (row : EquationRow) : Type 0 where
    equation : Equation
    low_left : (l : ℕ) → Among l equation.left → l < columns Quad (length rows)
    low_right : (l : ℕ) → Among l equation.right → l < columns Quad (length rows)
    same : length equation.left ≡ length equation.right
    is : row ≡ row_of (columns Quad (length rows)) equation

  equation_of : (row : EquationRow) → Contains quad_rows row → IsEquationRow row
  equation_of row c =
      let m : (r : ℕ) × Among r (internal_edges rows q.classes q.count) × IsQuadRow rows q.classes r row =
      zip-among (IsQuadRow rows q.classes) row (internal_edges rows q.classes q.count) quad_rows q.each (among_contains row quad_rows c) in
      let low : m.0 < q.count = below-among m.0 q.count (filter-among (λ d. not (is_boundary_edge rows q.classes d)) m.0 (below q.count) m.1).0 in
      let corners : List Corner = m.2.0 in
      let good : (k : Corner) → Among k corners → IsCorner rows k = is_corner rows q.classes q.count table q.numbered m.0 low corners m.2.1 in
      record {
        equation = quad_equation corners;
        low_left = side_in_range 2 (inl refl) corners good;
        low_right = side_in_range 3 (inr refl) corners good;
        same = length-map corners (λ (k : Corner). quad_column Quad k.tet (side 2 (corner_word k))) ∙ sym (length-map corners (λ (k : Corner). quad_column Quad k.tet (side 3 (corner_word k))));
        is = m.2.2;
      }

  row_balanced : (row : EquationRow) → IsEquationRow row → plus_over row (below (columns Quad (length rows))) ≡ minus_over row (below (columns Quad (length rows)))
  row_balanced row h =
      subst (λ (w : EquationRow). plus_over w (below (columns Quad (length rows))) ≡ minus_over w (below (columns Quad (length rows)))) (sym h.is)
      (same_sums (columns Quad (length rows)) h.equation h.low_left h.low_right h.same)

  row_outside : (row : EquationRow) → IsEquationRow row → (c : ℕ) → columns Quad (length rows) ≤ c → entry row c ≡ pos 0
  row_outside row h c out = ap (λ (w : EquationRow). entry w c) h.is ∙ entry_outside (columns Quad (length rows)) h.equation c out

  row_magnitudes : (row : EquationRow) → Contains quad_rows row → sum_by (λ c. magnitude (entry row c)) (below (columns Quad (length rows))) ≤ 4 * columns Quad (length rows)
  row_magnitudes row h =
      let n : ℕ = columns Quad (length rows) in
      let l : sum_by (λ c. magnitude (entry row c)) (below n) ≤ sum_by (λ (c : ℕ). 4) (below n) = sum_by_less (λ c. magnitude (entry row c)) (λ (c : ℕ). 4) (below n)
      (λ c a. let one = among_le (λ (w : EquationRow). magnitude (entry w c)) row quad_rows (among_contains row quad_rows h) in let all = quad_columns_are_few rows quad_rows c table q in omega arith) in
      let e = fours n in
      omega arith

  pub quad_rows_are_few : (row : EquationRow) (cs : List ℕ) → Contains quad_rows row → IsOnce cs → AreAtMost row cs (6 * length rows)
  quad_rows_are_few row cs h once =
      let n : ℕ = columns Quad (length rows) in
      let e : IsEquationRow row = equation_of row h in
      let plus : ℕ → ℕ = λ c. positive_coefficient (entry row c) in
      let minus : ℕ → ℕ = λ c. negative_coefficient (entry row c) in
      let balance : sum_by plus (below n) ≡ sum_by minus (below n) = row_balanced row e in
      let both : sum_by (λ c. magnitude (entry row c)) (below n) ≡ sum_by plus (below n) + sum_by minus (below n) = sum_by_plus plus minus (λ c. magnitude (entry row c)) (λ c. refl) (below n) in
      let most : sum_by (λ c. magnitude (entry row c)) (below n) ≤ 4 * n = row_magnitudes row h in
      let p : sum_by plus cs ≤ sum_by plus (below n) = selected plus n (λ c out. ap positive_coefficient (row_outside row e c out)) cs once in
      let m : sum_by minus cs ≤ sum_by minus (below n) = selected minus n (λ c out. ap negative_coefficient (row_outside row e c out)) cs once in
      record { plus = omega arith; minus = omega arith }

-- a side has a column for each corner
pub walks_are_most : (n : ℕ) (corners : List Corner) (cs : List ℕ) → IsOnce cs → AreAtMost (row_of n (quad_equation corners)) cs (length corners)
walks_are_most n corners cs once =
    let a = plus_at_most n (quad_equation corners) cs once in
    let b = minus_at_most n (quad_equation corners) cs once in
    let l : length (quad_equation corners).left ≡ length corners = length-map corners (λ (k : Corner). quad_column Quad k.tet (side 2 (corner_word k))) in
    let r : length (quad_equation corners).right ≡ length corners = length-map corners (λ (k : Corner). quad_column Quad k.tet (side 3 (corner_word k))) in
    record { plus = omega arith; minus = omega arith }
