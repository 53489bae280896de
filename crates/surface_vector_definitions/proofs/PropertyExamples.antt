-- Properties, computed.
use Rattle.surface_definitions.proofs.Computed.{computed}
use Rattle.std.proofs.Common.{◌≡◌, ℕ, pos, true, false, List, [], ◌∷◌, Result, Ok, Err, refl}
use Rattle.text_definitions.specs.Written.{limit}
use Rattle.table_definitions.proofs.Tables.{sphere, table_jj, row, free}
use Rattle.surface_definitions.specs.declared.Coords.TheVariants.{Standard, Octagon}
use Rattle.surface_vector_definitions.specs.declared.Properties.{Properties}
use Rattle.surface_vector_definitions.specs.declared.SurfaceSum.TheVariants.{Points, PointsAndPieces}
use Rattle.surface_vector_definitions.specs.declared.PropertyFault.{PropertyFault}
use Rattle.surface_vector_definitions.specs.declared.PropertyFault.TheVariants.{Large}
use Rattle.surface_vector_definitions.proofs.Evaluators.{skeleton_of, answer}

of_jj : List ℕ → Result Properties PropertyFault
of_jj xs = answer limit (skeleton_of table_jj) Standard xs

jj : (of_jj (0 ∷ 0 ∷ 0 ∷ 0 ∷ 0 ∷ 1 ∷ 0 ∷ []) ≡ Ok (record { points = 1; arcs = 2; pieces = 1; euler = pos 0; linking = false; boundary = false }))
    × (of_jj (0 ∷ 0 ∷ 0 ∷ 0 ∷ 0 ∷ 2 ∷ 0 ∷ []) ≡ Ok (record { points = 2; arcs = 4; pieces = 2; euler = pos 0; linking = false; boundary = false }))
    × (of_jj (1 ∷ 1 ∷ 1 ∷ 1 ∷ 0 ∷ 0 ∷ 0 ∷ []) ≡ Ok (record { points = 4; arcs = 6; pieces = 4; euler = pos 2; linking = true; boundary = false }))
unfolding computed of_jj
jj = (refl, refl, refl)

of_sphere : List ℕ → Result Properties PropertyFault
of_sphere xs = answer limit (skeleton_of sphere) Standard xs

-- four times the limit of triangles: the points exceed the limit, and so would the other sums
on_sphere : (of_sphere (1 ∷ 1 ∷ 0 ∷ 0 ∷ 1 ∷ 0 ∷ 0 ∷ []) ≡ Ok (record { points = 2; arcs = 5; pieces = 3; euler = pos 0; linking = false; boundary = false }))
    × (of_sphere (limit ∷ limit ∷ limit ∷ limit ∷ 0 ∷ 0 ∷ 0 ∷ []) ≡ Err (Large Points))
    × (answer limit (skeleton_of sphere) Octagon (0 ∷ 0 ∷ 1 ∷ 1 ∷ 0 ∷ 0 ∷ 0 ∷ 1 ∷ 0 ∷ 0 ∷ []) ≡ Ok (record { points = 6; arcs = 7; pieces = 3; euler = pos 2; linking = false; boundary = false }))
unfolding computed of_sphere
on_sphere = (refl, refl, refl)

-- one tetrahedron without gluings: the zero vector, a triangle, and a limit that only a later sum exceeds
of_one : ℕ → List ℕ → Result Properties PropertyFault
of_one max xs = answer max (skeleton_of (row free free free free ∷ [])) Standard xs

alone : (of_one limit (0 ∷ 0 ∷ 0 ∷ 0 ∷ 0 ∷ 0 ∷ 0 ∷ []) ≡ Ok (record { points = 0; arcs = 0; pieces = 0; euler = pos 0; linking = true; boundary = false }))
    × (of_one limit (1 ∷ 0 ∷ 0 ∷ 0 ∷ 0 ∷ 0 ∷ 0 ∷ []) ≡ Ok (record { points = 3; arcs = 3; pieces = 1; euler = pos 1; linking = true; boundary = true }))
    × (of_one 3 (1 ∷ 0 ∷ 0 ∷ 0 ∷ 0 ∷ 0 ∷ 0 ∷ []) ≡ Err (Large PointsAndPieces)) × (of_one 2 (1 ∷ 0 ∷ 0 ∷ 0 ∷ 0 ∷ 0 ∷ 0 ∷ []) ≡ Err (Large Points))
unfolding computed of_one
alone = (refl, refl, refl, refl)
