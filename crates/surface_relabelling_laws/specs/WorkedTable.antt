-- One tetrahedron with two faces folded together, a relabelling of it, and the standard surface lists of both.
use Rattle.std.specs.Prelude.{◌≡◌, ℕ, List, [], ◌∷◌, Some, None, map}
use Rattle.cone_definitions.specs.Surfaces.{IsSurfaceList}
use Rattle.table_definitions.specs.Table.{Row, IsTable}
use Rattle.table_definitions.specs.Relabelling.{Relabelling}
use Rattle.signature_definitions.specs.Labellings.{Relabels}
use Rattle.surface_definitions.specs.Coordinates.{columns, clash_list}
use Rattle.surface_definitions.specs.declared.Coords.TheVariants.{Standard}
use Rattle.surface_definitions.specs.Equations.{matching_rows}
use Rattle.surface_relabelling_laws.specs.Vectors.{relabelled_vector}

-- faces 2 and 3 are glued, with vertices 0 and 1 fixed
abbrev pub folded : List Row
folded = (None ∷ None ∷ Some (record { tet = 0; perm = 0 ∷ 1 ∷ 3 ∷ 2 ∷ [] }) ∷ Some (record { tet = 0; perm = 0 ∷ 1 ∷ 3 ∷ 2 ∷ [] }) ∷ []) ∷ []

-- vertices 0, 1, 2, 3 become 2, 3, 1, 0
abbrev pub renamed : Relabelling
renamed = record { images = 0 ∷ []; perms = (2 ∷ 3 ∷ 1 ∷ 0 ∷ []) ∷ [] }

-- faces 0 and 1 are glued, with vertices 2 and 3 fixed
abbrev pub refolded : List Row
refolded = (Some (record { tet = 0; perm = 1 ∷ 0 ∷ 2 ∷ 3 ∷ [] }) ∷ Some (record { tet = 0; perm = 1 ∷ 0 ∷ 2 ∷ 3 ∷ [] }) ∷ None ∷ None ∷ []) ∷ []

-- a quad, the two triangles that the fold joins, and the other triangles
abbrev pub folded_list : List (List ℕ)
folded_list =
    (0 ∷ 0 ∷ 0 ∷ 0 ∷ 1 ∷ 0 ∷ 0 ∷ []) ∷ (0 ∷ 0 ∷ 1 ∷ 1 ∷ 0 ∷ 0 ∷ 0 ∷ []) ∷ (0 ∷ 1 ∷ 0 ∷ 0 ∷ 0 ∷ 0 ∷ 0 ∷ []) ∷ (1 ∷ 0 ∷ 0 ∷ 0 ∷ 0 ∷ 0 ∷ 0 ∷ []) ∷ []

abbrev pub refolded_list : List (List ℕ)
refolded_list =
    (0 ∷ 0 ∷ 0 ∷ 0 ∷ 1 ∷ 0 ∷ 0 ∷ []) ∷ (0 ∷ 0 ∷ 0 ∷ 1 ∷ 0 ∷ 0 ∷ 0 ∷ []) ∷ (0 ∷ 0 ∷ 1 ∷ 0 ∷ 0 ∷ 0 ∷ 0 ∷ []) ∷ (1 ∷ 1 ∷ 0 ∷ 0 ∷ 0 ∷ 0 ∷ 0 ∷ []) ∷ []

-- the relabelling carries the one table to the other
abbrev pub FoldedIsRenamed : Type 0
FoldedIsRenamed = IsTable folded × Relabels folded refolded renamed

-- the surface lists of both tables
abbrev pub FoldedLists : Type 0
FoldedLists =
    IsSurfaceList (columns Standard 1) (matching_rows Standard folded) (clash_list Standard 1) folded_list
    × IsSurfaceList (columns Standard 1) (matching_rows Standard refolded) (clash_list Standard 1) refolded_list

-- the relabelled vectors are those of the second list, in another order
abbrev pub FoldedVectorsAreRenamed : Type 0
FoldedVectorsAreRenamed =
    map (relabelled_vector Standard renamed) folded_list
    ≡ (0 ∷ 0 ∷ 0 ∷ 0 ∷ 1 ∷ 0 ∷ 0 ∷ []) ∷ (1 ∷ 1 ∷ 0 ∷ 0 ∷ 0 ∷ 0 ∷ 0 ∷ []) ∷ (0 ∷ 0 ∷ 0 ∷ 1 ∷ 0 ∷ 0 ∷ 0 ∷ []) ∷ (0 ∷ 0 ∷ 1 ∷ 0 ∷ 0 ∷ 0 ∷ 0 ∷ []) ∷ []
