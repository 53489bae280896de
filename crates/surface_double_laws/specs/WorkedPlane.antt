-- A projective plane in a triangulation of projective space, `cMcabbgqw`, and its double.
use Rattle.std.specs.Prelude.{◌≡◌, ℕ, List, [], ◌∷◌, Some}
use Rattle.table_definitions.specs.Table.{Row}
use Rattle.skeleton_definitions.specs.Skeleton.{Skeleton}
use Rattle.surface_definitions.specs.declared.Coords.TheVariants.{Standard}
use Rattle.surface_definitions.specs.Pieces.{IsTwoSided}
use Rattle.surface_efficiency_laws.specs.Laws.{IsConnectedSurface}

abbrev pub projective_space : List Row
projective_space =
    (Some (record { tet = 1; perm = 3 ∷ 1 ∷ 2 ∷ 0 ∷ [] }) ∷ Some (record { tet = 1; perm = 0 ∷ 2 ∷ 1 ∷ 3 ∷ [] })
    ∷ Some (record { tet = 0; perm = 0 ∷ 1 ∷ 3 ∷ 2 ∷ [] }) ∷ Some (record { tet = 0; perm = 0 ∷ 1 ∷ 3 ∷ 2 ∷ [] }) ∷ [])
    ∷ (Some (record { tet = 1; perm = 1 ∷ 2 ∷ 3 ∷ 0 ∷ [] }) ∷ Some (record { tet = 1; perm = 3 ∷ 0 ∷ 1 ∷ 2 ∷ [] })
    ∷ Some (record { tet = 0; perm = 0 ∷ 2 ∷ 1 ∷ 3 ∷ [] }) ∷ Some (record { tet = 0; perm = 3 ∷ 1 ∷ 2 ∷ 0 ∷ [] }) ∷ [])
    ∷ []

-- two triangles and a quad
abbrev pub projective_plane : List ℕ
projective_plane = 1 ∷ 1 ∷ 0 ∷ 0 ∷ 0 ∷ 0 ∷ 0 ∷ 0 ∷ 0 ∷ 0 ∷ 0 ∷ 0 ∷ 1 ∷ 0 ∷ []

-- the two triangles and the quad are a connected one-sided surface
abbrev pub PlaneIsOneSided : Type 0
PlaneIsOneSided =
    (s : Skeleton) → s.rows ≡ projective_space → (c : IsConnectedSurface s Standard projective_plane) × ¬ IsTwoSided s.rows Standard projective_plane c.components 0

-- two of each of these discs are a connected surface too
abbrev pub PlaneHasConnectedDouble : Type 0
PlaneHasConnectedDouble = (s : Skeleton) → s.rows ≡ projective_space → IsConnectedSurface s Standard (2 ∷ 2 ∷ 0 ∷ 0 ∷ 0 ∷ 0 ∷ 0 ∷ 0 ∷ 0 ∷ 0 ∷ 0 ∷ 0 ∷ 2 ∷ 0 ∷ [])
