-- The magnitudes of all matching rows in the column of a quad or an octagon.
use Rattle.std.proofs.Common.{◌≡◌, ℕ, ◌+◌, ◌*◌, ◌/◌, ◌%◌, ◌<◌, ◌≤◌, Bool, true, false, cond, List, [], ◌∷◌, length, map, refl, sym, ap, ◌∙◌, subst, arith}
use Rattle.std.specs.Prelude.{◌==◌, ◌&&◌, sum_by, if◌then◌else◌}
use Rattle.std.proofs.lemmas.Bool.{agree_below_at, eqb-true}
use Rattle.std.proofs.lemmas.List.Sums.{sum_by-cons}
use Rattle.std.proofs.Math.Nat.{mul-add, mul-le-mul_left}
use Rattle.table_definitions.specs.Lists.{times_in}
use Rattle.table_definitions.specs.Permutation.{four, image, others}
use Rattle.table_definitions.specs.Table.{Gluing, Row, Face, same_face, other_side, IsTable}
use Rattle.table_definitions.proofs.PermutationLaws.{image_below, images_apart}
use Rattle.table_definitions.proofs.Faces.{face_at}
use Rattle.cone_definitions.specs.Rows.{Row as EquationRow}
use Rattle.surface_definitions.specs.Coordinates.{columns, columns_each, arc_columns, is_quad_or_octagon, is_octagon}
use Rattle.surface_definitions.specs.declared.Coords.{Coords}
use Rattle.surface_definitions.specs.Equations.{Equation, row_of, glued_pairs, matching, matching_equations, matching_rows}
use Rattle.surface_laws.specs.MatchingLaws.{HasTriangles}
use Rattle.surface_laws.proofs.Counting.{sum_swap, sum_by_same, sum_by-none, sum_by-map, sum_by-flat_map}
use Rattle.surface_laws.proofs.Sums.{sum_by_plus}
use Rattle.surface_laws.proofs.Glued.{IsGlued, glued_is}
use Rattle.surface_laws.proofs.Matched.{pair_glued}
use Rattle.surface_laws.proofs.Solved.{other_is}
use Rattle.cone_bound_laws.specs.Caps.{magnitude}
use Rattle.surface_definitions.proofs.ColumnCounts.{index_below}
use Rattle.surface_equation_laws.specs.Entries.{entry, column_sum}
use Rattle.surface_equation_laws.specs.Weights.{weight}
use Rattle.surface_equation_laws.proofs.Entries.{magnitude_entry}
use Rattle.surface_equation_laws.proofs.LocalArcs.{local_arcs, arcs_placed, times_placed}
use Rattle.surface_equation_laws.proofs.FaceArcs.{IsArc, is_arc, arc_weight, face_times, turned_times, few_in_face, few_across}
use Rattle.surface_equation_laws.proofs.Chosen.{sum_by_less}
use Rattle.surface_equation_laws.proofs.Sides.{occurs, sides_once}

pub sum_by_times : {A : Type 0} (m : ℕ) (f : A → ℕ) (xs : List A) → sum_by (λ x. m * f x) xs ≡ m * sum_by f xs
sum_by_times m f [] = omega arith
sum_by_times m f (x ∷ xs) = sum_by-cons (λ x. m * f x) x xs ∙ ap (λ k. m * f x + k) (sum_by_times m f xs) ∙ sym (mul-add m (f x) (sum_by f xs)) ∙ ap (λ k. m * k) (sym (sum_by-cons f x xs))

-- a test outside a sum
outside : {A : Type 0} (b : Bool) (f : A → ℕ) (xs : List A) → sum_by (λ x. cond b (f x) 0) xs ≡ cond b (sum_by f xs) 0
outside true f xs = refl
outside {A} false f xs = sum_by-none (λ (x : A). 0) xs (λ x a. refl)

cond_less : (b : Bool) (k m : ℕ) → k ≤ m → cond b k 0 ≤ m * cond b 1 0
cond_less true k m h = omega arith
cond_less false k m h = omega arith

-- a face of a tetrahedron is one of four
face_found : ℕ → Bool
face_found v = sum_by (λ f. cond (v == f) 1 0) four == 1

one_of_four : (x : Face) (t : ℕ) → x.face < 4 → cond (x.tet == t) 1 0 ≡ sum_by (λ f. cond (same_face x (face_at t f)) 1 0) four
unfolding face_found
one_of_four x t l = go (x.tet == t)
  where
    go : (b : Bool) → cond b 1 0 ≡ sum_by (λ f. cond (b && (x.face == f)) 1 0) four
    go true = sym (eqb-true (sum_by (λ f. cond (x.face == f) 1 0) four) 1 (agree_below_at face_found (λ v. true) 4 x.face refl l))
    go false = refl

module _ (coords : Coords) (rows : List Row) (c : ℕ) (triangles : HasTriangles coords) (table : IsTable rows) where
  abbrev t0 : ℕ
  t0 = c / columns_each coords

  abbrev place : ℕ
  place = c % columns_each coords

  abbrev left_times : Face × Gluing → ℕ → ℕ
  left_times y v = times_in (arc_columns coords (y.0).tet (y.0).face v) c

  abbrev right_times : Face × Gluing → ℕ → ℕ
  right_times y v = times_in (arc_columns coords (y.1).tet (image (y.1).perm (y.0).face) (image (y.1).perm v)) c

  times_local : (t f v : ℕ) → IsArc coords f v → times_in (arc_columns coords t f v) c ≡ cond (t == t0) (times_in (local_arcs coords f v) place) 0
  times_local t f v a = ap (λ ks. times_in ks c) (arcs_placed coords t f v triangles) ∙ times_placed coords t c (local_arcs coords f v) a.places

  left_bounded : (y : Face × Gluing) → IsGlued rows y.0 y.1 → sum_by (left_times y) (others (y.0).face) ≤ arc_weight coords place * cond ((y.0).tet == t0) 1 0
  left_bounded y g =
      let e : sum_by (left_times y) (others (y.0).face) ≡ cond ((y.0).tet == t0) (face_times coords (y.0).face place) 0 =
      sum_by_same (left_times y) (λ v. cond ((y.0).tet == t0) (times_in (local_arcs coords (y.0).face v) place) 0) (others (y.0).face)
      (λ v a. let o : (v < 4) × (v ≡ (y.0).face → ⊥) = other_is (y.0).face v a in times_local (y.0).tet (y.0).face v (is_arc coords (y.0).face v g.face o.0 o.1))
      ∙ outside ((y.0).tet == t0) (λ v. times_in (local_arcs coords (y.0).face v) place) (others (y.0).face) in
      subst (λ k. k ≤ arc_weight coords place * cond ((y.0).tet == t0) 1 0) (sym e)
      (cond_less ((y.0).tet == t0) (face_times coords (y.0).face place) (arc_weight coords place) (few_in_face coords (y.0).face place g.face (index_below coords c)))

  right_bounded : (y : Face × Gluing) → IsGlued rows y.0 y.1 → sum_by (right_times y) (others (y.0).face) ≤ arc_weight coords place * cond ((y.1).tet == t0) 1 0
  right_bounded y g =
      let p : List ℕ = (y.1).perm in
      let f : ℕ = (y.0).face in
      let e : sum_by (right_times y) (others f) ≡ cond ((y.1).tet == t0) (turned_times coords p f place) 0 =
      sum_by_same (right_times y) (λ v. cond ((y.1).tet == t0) (times_in (local_arcs coords (image p f) (image p v)) place) 0) (others f)
      (λ v a. let o : (v < 4) × (v ≡ f → ⊥) = other_is f v a in
      times_local (y.1).tet (image p f) (image p v) (is_arc coords (image p f) (image p v) g.other_face (image_below p v g.permutes o.0) (images_apart p v f g.permutes o.0 g.face o.1)))
      ∙ outside ((y.1).tet == t0) (λ v. times_in (local_arcs coords (image p f) (image p v)) place) (others f) in
      subst (λ k. k ≤ arc_weight coords place * cond ((y.1).tet == t0) 1 0) (sym e)
      (cond_less ((y.1).tet == t0) (turned_times coords p f place) (arc_weight coords place) (few_across coords p f place g.permutes g.face (index_below coords c)))

  -- a pair counts once for each of its sides that is a face of the tetrahedron
  abbrev at_pair : Face × Gluing → ℕ
  at_pair y = cond ((y.0).tet == t0) 1 0 + cond ((y.1).tet == t0) 1 0

  pair_stands : (y : Face × Gluing) → IsGlued rows y.0 y.1 → at_pair y ≡ sum_by (λ f. occurs (face_at t0 f) y) four
  pair_stands y g =
      (λ i. one_of_four y.0 t0 g.face i + one_of_four (other_side y.0 y.1) t0 g.other_face i)
      ∙ sym (sum_by_plus (λ f. cond (same_face y.0 (face_at t0 f)) 1 0) (λ f. cond (same_face (other_side y.0 y.1) (face_at t0 f)) 1 0) (λ f. occurs (face_at t0 f) y) (λ f. refl) four)

  pairs_few : sum_by at_pair (glued_pairs rows) ≤ 4
  pairs_few =
      let e : sum_by at_pair (glued_pairs rows) ≡ sum_by (λ f. sum_by (occurs (face_at t0 f)) (glued_pairs rows)) four =
      sum_by_same at_pair (λ y. sum_by (λ f. occurs (face_at t0 f) y) four) (glued_pairs rows) (λ y a. pair_stands y (glued_is rows y.0 y.1 table (pair_glued rows y a)))
      ∙ sum_swap (λ (y : Face × Gluing) f. occurs (face_at t0 f) y) (glued_pairs rows) four in
      let l : sum_by (λ f. sum_by (occurs (face_at t0 f)) (glued_pairs rows)) four ≤ sum_by (λ (f : ℕ). 1) four =
      sum_by_less (λ f. sum_by (occurs (face_at t0 f)) (glued_pairs rows)) (λ (f : ℕ). 1) four (λ f a. sides_once rows table (face_at t0 f)) in
      let s : sum_by (λ (f : ℕ). 1) four ≡ 4 = refl in
      subst (λ k. k ≤ 4) (sym e) l

  -- each pair adds at most its sides
  abbrev of_equation : Equation → ℕ
  of_equation e = times_in e.left c + times_in e.right c

  abbrev of_pair : Face × Gluing → ℕ
  of_pair y = sum_by of_equation (map (matching coords y.0 y.1) (others (y.0).face))

  pair_few : (y : Face × Gluing) → IsGlued rows y.0 y.1 → of_pair y ≤ arc_weight coords place * at_pair y
  pair_few y g =
      let e : of_pair y ≡ sum_by (left_times y) (others (y.0).face) + sum_by (right_times y) (others (y.0).face) =
      sum_by-map of_equation (matching coords y.0 y.1) (others (y.0).face) ∙ sum_by_plus (left_times y) (right_times y) (λ v. of_equation (matching coords y.0 y.1 v)) (λ v. refl) (others (y.0).face) in
      let l = left_bounded y g in
      let r = right_bounded y g in
      let d : arc_weight coords place * at_pair y ≡ arc_weight coords place * cond ((y.0).tet == t0) 1 0 + arc_weight coords place * cond ((y.1).tet == t0) 1 0 =
      mul-add (arc_weight coords place) (cond ((y.0).tet == t0) 1 0) (cond ((y.1).tet == t0) 1 0) in
      omega arith

  pub column_few : column_sum (matching_rows coords rows) c ≤ arc_weight coords place * 4
  unfolding matching_equations
  column_few =
      let n : ℕ = columns coords (length rows) in
      let es : List Equation = matching_equations coords rows in
      let a : column_sum (matching_rows coords rows) c ≡ sum_by (λ e. magnitude (entry (row_of n e) c)) es = sum_by-map (λ (row : EquationRow). magnitude (entry row c)) (row_of n) es in
      let b : sum_by (λ e. magnitude (entry (row_of n e) c)) es ≤ sum_by of_equation es = sum_by_less (λ e. magnitude (entry (row_of n e) c)) of_equation es (λ e m. magnitude_entry n e c) in
      let d : sum_by of_equation es ≡ sum_by of_pair (glued_pairs rows) = sum_by-flat_map of_equation (λ (y : Face × Gluing). map (matching coords y.0 y.1) (others (y.0).face)) (glued_pairs rows) in
      let f : sum_by of_pair (glued_pairs rows) ≤ sum_by (λ y. arc_weight coords place * at_pair y) (glued_pairs rows) =
      sum_by_less of_pair (λ y. arc_weight coords place * at_pair y) (glued_pairs rows) (λ y m. pair_few y (glued_is rows y.0 y.1 table (pair_glued rows y m))) in
      let g : sum_by (λ y. arc_weight coords place * at_pair y) (glued_pairs rows) ≡ arc_weight coords place * sum_by at_pair (glued_pairs rows) = sum_by_times (arc_weight coords place) at_pair (glued_pairs rows) in
      let h : arc_weight coords place * sum_by at_pair (glued_pairs rows) ≤ arc_weight coords place * 4 = mul-le-mul_left (arc_weight coords place) pairs_few in
      omega arith

-- four faces' arcs are at most the weight
within_weight : (octagon bounded : Bool) → bounded ≡ true → (if octagon then 2 else 1) * 4 ≤ (if octagon then 8 else (if bounded then 4 else 1))
within_weight true bounded h = omega arith
within_weight false true h = omega arith
within_weight false false h = cc

pub columns_are_few : (coords : Coords) (rows : List Row) (c : ℕ) → HasTriangles coords → IsTable rows → is_quad_or_octagon coords c ≡ true
    → column_sum (matching_rows coords rows) c ≤ weight coords c
columns_are_few coords rows c triangles table bounded =
    let a : column_sum (matching_rows coords rows) c ≤ arc_weight coords (c % columns_each coords) * 4 = column_few coords rows c triangles table in
    let b : arc_weight coords (c % columns_each coords) * 4 ≤ weight coords c = within_weight (is_octagon coords c) (is_quad_or_octagon coords c) bounded in
    omega arith
