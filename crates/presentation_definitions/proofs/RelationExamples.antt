-- A table of the examples fulfils the relations of trees.
use Rattle.std.proofs.Common.{◌≡◌, ℕ, ◌≤◌, false, List, [], ◌∷◌, length, Some, refl, ap, arith}
use Rattle.table_definitions.specs.Table.{Face, is_face_before}
use Rattle.table_definitions.specs.Places.{Place, whole}
use Rattle.table_definitions.proofs.Tables.{figure_eight}
use Rattle.skeleton_definitions.proofs.Computed.{computed}
use Rattle.presentation_definitions.specs.Trees.{IsPathTo, IsDistance, IsTreeFace, IsTreePath, evens}

-- the figure eight: tetrahedron 0 has distance 0, tetrahedron 1 has distance 1, and its tree face is face 0 of
-- tetrahedron 0
near : IsDistance figure_eight 0 0
near = record { crossed = []; led = refl; long = refl; least = λ other led. omega arith }

zero_one : (◌≡◌ {A = ℕ} 0 1) → ⊥
zero_one e = omega arith

not_there : (other : List ℕ) → IsPathTo figure_eight other 1 → 1 ≤ length other
not_there [] e = let z : Some (whole 0) ≡ Some (whole 1) = e in let same : whole 0 ≡ whole 1 = cc in absurd (zero_one (ap (λ (p : Place). p.tet) same))
not_there (f ∷ fs) e = omega arith

far : IsDistance figure_eight 1 1
far = record { crossed = 0 ∷ []; led = refl; long = refl; least = not_there }

first : Face
first = record { tet = 0; face = 0 }

none_before : (x : Face) → is_face_before x first ≡ false
unfolding first
none_before x = grind arith

tree_face : IsTreeFace figure_eight 1 first
unfolding computed first none_before
tree_face = record { leads = record { gluing = record { tet = 1; perm = 0 ∷ 1 ∷ 2 ∷ 3 ∷ [] }; glued = refl; to = refl; distance = 0; here = near; there = far }; least = λ other h. none_before other }

-- its path has one even gluing
path : IsTreePath figure_eight 1 (first ∷ []) × (evens figure_eight (first ∷ []) ≡ 1)
unfolding computed first tree_face
path = ((tree_face, refl), refl)
