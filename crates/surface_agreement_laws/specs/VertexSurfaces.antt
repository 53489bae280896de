-- The vertex surfaces of a table in standard, quad and octagon coordinates, and their lists.
use Rattle.std.specs.Prelude.{ℕ, ◌&&◌, Bool, not, nat_lt, List, [], ◌∷◌, ◌++◌, length, map, slice_index}
use Rattle.std.specs.List.{flat_map, list_all}
use Rattle.cone_definitions.specs.Rows.{Row as EquationRow}
use Rattle.cone_definitions.specs.Surfaces.{IsVertexSurface, IsSurfaceList}
use Rattle.table_definitions.specs.Lists.{below}
use Rattle.table_definitions.specs.Permutation.{four}
use Rattle.skeleton_definitions.specs.Skeleton.{Skeleton}
use Rattle.surface_definitions.specs.Coordinates.{columns, clash_list, tri_column, quad_column, three, is_octagon}
use Rattle.surface_definitions.specs.declared.Coords.{Coords}
use Rattle.surface_definitions.specs.declared.Coords.TheVariants.{Standard, Octagon}
use Rattle.surface_definitions.specs.Equations.{matching_rows}

-- the vertex surfaces of given equations of a table, and their list
abbrev pub IsVertexSurfaceBy : Skeleton → Coords → List EquationRow → List ℕ → Type 0
IsVertexSurfaceBy s coords equations xs = IsVertexSurface (columns coords (length s.rows)) equations (clash_list coords (length s.rows)) xs

abbrev pub IsSurfaceListBy : Skeleton → Coords → List EquationRow → List (List ℕ) → Type 0
IsSurfaceListBy s coords equations list = IsSurfaceList (columns coords (length s.rows)) equations (clash_list coords (length s.rows)) list

-- those of its matching equations, in standard and in octagon coordinates
abbrev pub IsVertexSurfaceOf : Skeleton → Coords → List ℕ → Type 0
IsVertexSurfaceOf s coords xs = IsVertexSurfaceBy s coords (matching_rows coords s.rows) xs

abbrev pub IsSurfaceListOf : Skeleton → Coords → List (List ℕ) → Type 0
IsSurfaceListOf s coords list = IsSurfaceListBy s coords (matching_rows coords s.rows) list

-- a standard vector in octagon coordinates: the triangles and quads of each tetrahedron, and no octagon
abbrev pub in_octagons : ℕ → List ℕ → List ℕ
in_octagons n ys =
    flat_map (λ t. map (λ v. slice_index ys (tri_column Standard t v)) four ++ map (λ k. slice_index ys (quad_column Standard t k)) three ++ 0 ∷ 0 ∷ 0 ∷ []) (below n)

-- whether each octagon is 0
abbrev pub has_no_octagon : List ℕ → Bool
has_no_octagon xs = list_all (λ c. not (is_octagon Octagon c && nat_lt 0 (slice_index xs c))) (below (length xs))
