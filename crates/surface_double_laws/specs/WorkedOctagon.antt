-- An octagonal sphere in a triangulation of the 3-sphere, `bkaagj`.
use Rattle.std.specs.Prelude.{◌≡◌, ℕ, false, List, [], ◌∷◌, Some}
use Rattle.table_definitions.specs.Table.{Row}
use Rattle.skeleton_definitions.specs.Skeleton.{Skeleton}
use Rattle.surface_definitions.specs.Characteristic.{meets_boundary}
use Rattle.surface_definitions.specs.declared.Coords.TheVariants.{Octagon}
use Rattle.surface_definitions.specs.Pieces.{IsOrientableComponent}
use Rattle.surface_efficiency_laws.specs.Laws.{IsConnectedSurface}

abbrev pub one_tetrahedron : List Row
one_tetrahedron =
    (Some (record { tet = 0; perm = 1 ∷ 0 ∷ 2 ∷ 3 ∷ [] }) ∷ Some (record { tet = 0; perm = 1 ∷ 0 ∷ 2 ∷ 3 ∷ [] })
    ∷ Some (record { tet = 0; perm = 1 ∷ 2 ∷ 3 ∷ 0 ∷ [] }) ∷ Some (record { tet = 0; perm = 3 ∷ 0 ∷ 1 ∷ 2 ∷ [] }) ∷ [])
    ∷ []

-- two triangles and an octagon
abbrev pub octagonal_sphere : List ℕ
octagonal_sphere = 0 ∷ 0 ∷ 1 ∷ 1 ∷ 0 ∷ 0 ∷ 0 ∷ 1 ∷ 0 ∷ 0 ∷ []

-- they are a connected orientable surface that does not meet the boundary
abbrev pub OctagonIsOrientable : Type 0
OctagonIsOrientable =
    (s : Skeleton) → s.rows ≡ one_tetrahedron → (c : IsConnectedSurface s Octagon octagonal_sphere) × (meets_boundary s.rows Octagon octagonal_sphere ≡ false)
    × IsOrientableComponent s.rows Octagon octagonal_sphere c.components 0
