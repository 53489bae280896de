-- The list of vertex surfaces in independent parts: faces of the solution cone, by the types of the quads and octagons
-- in chosen tetrahedra.
use Rattle.std.specs.Prelude.{◌≡◌, ◌≢◌, ◌==◌, ◌↔◌, ℕ, ◌^◌, ◌<◌, Bool, true, not, List, [], ◌∷◌, ◌++◌, filter, length, map}
use Rattle.std.specs.List.{All, Contains, flat_map}
use Rattle.cone_definitions.specs.Rows.{Row as EquationRow}
use Rattle.cone_definitions.specs.Surfaces.{IsVertexSurface, IsSurfaceList}
use Rattle.cone_ray_laws.specs.Faces.{face_rows, IsZeroOn}
use Rattle.table_definitions.specs.Table.{Row}
use Rattle.surface_definitions.specs.Coordinates.{columns, clash_list, quad_column, oct_column, octagon_types, three}
use Rattle.surface_definitions.specs.declared.Coords.{Coords}
use Rattle.surface_sum_laws.specs.Laws.{IsListOfTable}

-- tetrahedra, each with a type of quads and octagons: 0 for 01/23, 1 for 02/13, 2 for 03/12
abbrev pub Choice : Type 0
Choice = List (ℕ × ℕ)

-- all choices of one type in each of these tetrahedra
abbrev pub choices : List ℕ → List Choice
choices [] = [] ∷ []
choices (t ∷ tets) = flat_map (λ k. map (λ choice. (t, k) ∷ choice) (choices tets)) three

-- the columns of the quads and octagons of tetrahedron t whose types pass the test
abbrev pub disc_columns : Coords → ℕ → (ℕ → Bool) → List ℕ
disc_columns coords t test = map (quad_column coords t) (filter test three) ++ map (oct_column coords t) (filter test (octagon_types coords))

-- the columns of the quads and octagons of the choice's tetrahedra whose types are not the chosen ones
abbrev pub other_columns : Coords → Choice → List ℕ
other_columns coords choice = flat_map (λ place. disc_columns coords place.0 (λ k. not (k == place.1))) choice

-- the equations of the face on which these columns are 0
abbrev pub part_equations : Coords → List EquationRow → Choice → List EquationRow
part_equations coords equations choice = face_rows equations (other_columns coords choice)

-- the vertex surfaces of a part, for n tetrahedra, and their list
abbrev pub IsVertexSurfaceOfPart : Coords → ℕ → List EquationRow → Choice → List ℕ → Type 0
IsVertexSurfaceOfPart coords n equations choice x = IsVertexSurface (columns coords n) (part_equations coords equations choice) (clash_list coords n) x

abbrev pub IsListOfPart : Coords → ℕ → List EquationRow → Choice → List (List ℕ) → Type 0
IsListOfPart coords n equations choice surfaces = IsSurfaceList (columns coords n) (part_equations coords equations choice) (clash_list coords n) surfaces

-- Theorem: a vector is a vertex surface if and only if it is one of the part of some choice for the tetrahedra
abbrev pub VertexSurfacesAreInParts : Type 0
VertexSurfacesAreInParts =
    (coords : Coords) (n : ℕ) (equations : List EquationRow) (tets x : List ℕ) → All (λ t. t < n) tets
    → IsVertexSurface (columns coords n) equations (clash_list coords n) x
    ↔ ((choice : Choice) × Contains (choices tets) choice × IsVertexSurfaceOfPart coords n equations choice x)

-- Theorem: the surface list of a table is the union of the lists of the parts
abbrev pub ListsAreUnionsOfParts : Type 0
ListsAreUnionsOfParts =
    (rows : List Row) (coords : Coords) (equations : List EquationRow) (surfaces : List (List ℕ)) (tets : List ℕ) (parts : Choice → List (List ℕ)) (x : List ℕ)
    → IsListOfTable rows coords equations surfaces → All (λ t. t < length rows) tets
    → ((choice : Choice) → Contains (choices tets) choice → IsListOfPart coords (length rows) equations choice (parts choice))
    → Contains surfaces x ↔ Contains (flat_map parts (choices tets)) x

-- Theorem: each part has a list
abbrev pub PartsHaveLists : Type 0
PartsHaveLists = (coords : Coords) (n : ℕ) (equations : List EquationRow) (choice : Choice) → (surfaces : List (List ℕ)) × IsListOfPart coords n equations choice surfaces

-- Theorem: there are 3^k choices for k tetrahedra
abbrev pub ChoicesAreCounted : Type 0
ChoicesAreCounted = (tets : List ℕ) → length (choices tets) ≡ 3 ^ length tets

-- Theorem: let two choices differ in the type of tetrahedron t alone; a vector is a vertex surface of both parts if and
-- only if it is one of the part of the choice without t, and has no quads and octagons in t
abbrev pub CommonSurfacesHaveNoDisc : Type 0
CommonSurfacesHaveNoDisc =
    (coords : Coords) (n : ℕ) (equations : List EquationRow) (front back : Choice) (t j k : ℕ) (x : List ℕ) → j ≢ k
    → (IsVertexSurfaceOfPart coords n equations (front ++ (t, j) ∷ back) x × IsVertexSurfaceOfPart coords n equations (front ++ (t, k) ∷ back) x)
    ↔ (IsVertexSurfaceOfPart coords n equations (front ++ back) x × IsZeroOn (disc_columns coords t (λ _. true)) x)
