-- Orientable tables have no invalid edges.
use Rattle.std.proofs.Common.{◌≡◌, ℕ, zero, suc, ◌*◌, ◌/◌, ◌%◌, ◌<◌, List, length, filter, Some, inl, inr, refl, sym, ap, ◌∙◌, arith}
use Rattle.std.specs.Prelude.{not, reverse, slice_index}
use Rattle.table_definitions.specs.Classes.{least}
use Rattle.table_definitions.specs.Lists.{has}
use Rattle.table_definitions.specs.Permutation.{four, is_permutation}
use Rattle.table_definitions.specs.Table.{Row, IsTable}
use Rattle.table_definitions.specs.Places.{Place, ends, edge, backwards, SameEdge, along}
use Rattle.skeleton_definitions.specs.Corners.{Corner, corner_of, first_corner}
use Rattle.skeleton_class_laws.proofs.EdgeCorners.{least_in_range}
use Rattle.skeleton_orientation_laws.specs.Laws.{OrientableEdgesAreValid, OrientableClassesAreValid}
use Rattle.skeleton_orientation_laws.proofs.Chains.{edge_of, followed, AreOnTour}
use Rattle.skeleton_orientation_laws.proofs.Parities.{one_reversed}
use Rattle.skeleton_orientation_laws.proofs.Reversed.{IsCorner, reversed, never_reversed}

abbrev corner_in : ℕ → ℕ → Corner
corner_in t e = corner_of t (ends e) (filter (λ v. not (has (ends e) v)) four)

-- the corner at which the tour around an edge begins
record IsFirst (n t e : ℕ) : Type 0 where
  corner : IsCorner n (corner_in t e)
  edge : edge_of (corner_in t e) ≡ record { tet = t; vertices = ends e }
  reverse : (k : Corner) → edge_of k ≡ record { tet = t; vertices = reverse (ends e) } → (k.tet ≡ t) × (k.a ≡ (corner_in t e).b) × (k.b ≡ (corner_in t e).a)

first_in : (n t e : ℕ) → t < n → e < 6 → IsFirst n t e
unfolding is_permutation
first_in n t zero l m = record { corner = record { tet = l; four = refl }; edge = refl; reverse = λ k s. (ap (λ p. p.tet) s, ap (λ p. slice_index p.vertices 0) s, ap (λ p. slice_index p.vertices 1) s) }
first_in n t (suc zero) l m = record { corner = record { tet = l; four = refl }; edge = refl; reverse = λ k s. (ap (λ p. p.tet) s, ap (λ p. slice_index p.vertices 0) s, ap (λ p. slice_index p.vertices 1) s) }
first_in n t (suc (suc zero)) l m = record { corner = record { tet = l; four = refl }; edge = refl; reverse = λ k s. (ap (λ p. p.tet) s, ap (λ p. slice_index p.vertices 0) s, ap (λ p. slice_index p.vertices 1) s) }
first_in n t (suc (suc (suc zero))) l m = record { corner = record { tet = l; four = refl }; edge = refl; reverse = λ k s. (ap (λ p. p.tet) s, ap (λ p. slice_index p.vertices 0) s, ap (λ p. slice_index p.vertices 1) s) }
first_in n t (suc (suc (suc (suc zero)))) l m = record { corner = record { tet = l; four = refl }; edge = refl; reverse = λ k s. (ap (λ p. p.tet) s, ap (λ p. slice_index p.vertices 0) s, ap (λ p. slice_index p.vertices 1) s) }
first_in n t (suc (suc (suc (suc (suc zero))))) l m = record { corner = record { tet = l; four = refl }; edge = refl; reverse = λ k s. (ap (λ p. p.tet) s, ap (λ p. slice_index p.vertices 0) s, ap (λ p. slice_index p.vertices 1) s) }
first_in n t (suc (suc (suc (suc (suc (suc e)))))) l m = absurd (omega arith)

-- a corner and its reverse are not on one tour
never_both : (rows : List Row) → IsTable rows → (k l : Corner) → IsCorner (length rows) k → IsCorner (length rows) l → l ≡ reversed k → AreOnTour rows k l → ⊥
never_both rows table k l hk hl same (n, inl s) = never_reversed rows table n k hk (s ∙ ap Some same)
never_both rows table k l hk hl same (n, inr s) = never_reversed rows table n l hl (s ∙ ap (λ m. Some (reversed m)) (sym same))

pub edges_valid : OrientableEdgesAreValid
edges_valid rows table (signs, are) i l (fs, chain) =
    let f = first_in (length rows) (i / 6) (i % 6) (omega arith) (omega arith) in
    let w = followed rows table signs are fs (first_corner i) (backwards (edge i)) f.corner (ap (λ (p : Place). along rows p fs) f.edge ∙ chain) in
    let r = f.reverse w.l w.edge in
    never_both rows table (first_corner i) w.l f.corner w.corner (one_reversed (length rows) signs (first_corner i) w.l f.corner w.corner r.0 r.1 r.2 w.turning) w.on_tour

pub classes_valid : OrientableClassesAreValid
classes_valid s skeleton orientable c l =
    edges_valid s.rows skeleton.table orientable (least s.edges.classes c) (least_in_range (6 * length s.rows) (SameEdge s.rows) s.edges.classes s.edges.count c skeleton.edges l)
