-- Isomorphic tables have corresponding solutions, vertex surfaces and surface lists, with equal Euler characteristics.
use Rattle.std.specs.Prelude.{◌≡◌, ℕ, ◌↔◌, List, length, map}
use Rattle.std.specs.List.Sorted.{IsPermutation}
use Rattle.cone_definitions.specs.Rows.{Row as EquationRow, IsSolution}
use Rattle.cone_definitions.specs.Surfaces.{IsAdmissible, IsVertexSurface, IsSurfaceList}
use Rattle.cone_definitions.specs.Listings.{IsListed}
use Rattle.cone_definitions.specs.declared.Order.{Order}
use Rattle.table_definitions.specs.Table.{Row, IsTable}
use Rattle.table_definitions.specs.Relabelling.{Relabelling, AreIsomorphic}
use Rattle.signature_definitions.specs.Labellings.{Relabels}
use Rattle.signature_definitions.specs.Spelling.{IsSignature}
use Rattle.component_definitions.specs.ComponentSignature.{IsComponentSignature}
use Rattle.skeleton_definitions.specs.Skeleton.{Skeleton, IsSkeleton}
use Rattle.surface_definitions.specs.Coordinates.{columns, clash_list}
use Rattle.surface_definitions.specs.declared.Coords.{Coords}
use Rattle.surface_definitions.specs.declared.Coords.TheVariants.{Standard, Quad}
use Rattle.surface_definitions.specs.Pieces.{AreComponents, IsTwoSided, IsOrientableComponent}
use Rattle.surface_definitions.specs.QuadEquations.{AreEquations}
use Rattle.surface_definitions.specs.TableSurfaces.{table_enumeration}
use Rattle.surface_vector_definitions.specs.Properties.{characteristic, AreProperties}
use Rattle.surface_vector_definitions.specs.declared.Properties.{Properties}
use Rattle.surface_laws.specs.LiftLaws.{IsLiftOf}
use Rattle.surface_laws.specs.MatchingLaws.{HasTriangles}
use Rattle.surface_laws.specs.PieceLaws.{IsSurface}
use Rattle.surface_agreement_laws.specs.VertexSurfaces.{IsSurfaceListOf}
use Rattle.surface_efficiency_laws.specs.Laws.{IsConnectedSurface, PositiveAreLinks, IsZeroEfficient}
use Rattle.surface_relabelling_laws.specs.Vectors.{relabelled_vector}

-- the relabelling carries the table `rows` to `new`, and the equations are those of the two tables
pub record AreRelabelled (coords : Coords) (rows new : List Row) (by : Relabelling) (equations others : List EquationRow) : Type 0 where
  pub table : IsTable rows
  pub relabels : Relabels rows new by
  pub of_rows : AreEquations coords rows equations
  pub of_new : AreEquations coords new others

-- Theorem: a vector solves the equations of a table if and only if the relabelled vector solves those of the relabelled
-- table
abbrev pub SolutionsAreRelabelled : Type 0
SolutionsAreRelabelled =
    (coords : Coords) (rows new : List Row) (by : Relabelling) (equations others : List EquationRow) (xs : List ℕ) → AreRelabelled coords rows new by equations others
    → IsSolution (columns coords (length rows)) equations xs ↔ IsSolution (columns coords (length new)) others (relabelled_vector coords by xs)

-- Theorem: a vector of a table is admissible if and only if the relabelled vector is
abbrev pub AdmissibleAreRelabelled : Type 0
AdmissibleAreRelabelled =
    (coords : Coords) (rows new : List Row) (by : Relabelling) (xs : List ℕ) → Relabels rows new by → length xs ≡ columns coords (length rows)
    → IsAdmissible (clash_list coords (length rows)) xs ↔ IsAdmissible (clash_list coords (length new)) (relabelled_vector coords by xs)

-- xs is the only vector of a table with n tetrahedra whose relabelled vector is ys
pub record IsOneSource (coords : Coords) (n : ℕ) (by : Relabelling) (ys xs : List ℕ) : Type 0 where
  pub width : length xs ≡ columns coords n
  pub relabelled : relabelled_vector coords by xs ≡ ys
  pub only : (zs : List ℕ) → length zs ≡ columns coords n → relabelled_vector coords by zs ≡ ys → zs ≡ xs

-- Theorem: each vector of the relabelled table is the relabelled vector of exactly one vector
abbrev pub VectorsAreRelabelled : Type 0
VectorsAreRelabelled =
    (coords : Coords) (rows new : List Row) (by : Relabelling) (ys : List ℕ) → Relabels rows new by → length ys ≡ columns coords (length new)
    → (xs : List ℕ) × IsOneSource coords (length rows) by ys xs

-- Theorem: a vector is a vertex surface of a table if and only if the relabelled vector is one of the relabelled table
abbrev pub VertexSurfacesAreRelabelled : Type 0
VertexSurfacesAreRelabelled =
    (coords : Coords) (rows new : List Row) (by : Relabelling) (equations others : List EquationRow) (xs : List ℕ) → AreRelabelled coords rows new by equations others
    → IsVertexSurface (columns coords (length rows)) equations (clash_list coords (length rows)) xs
    ↔ IsVertexSurface (columns coords (length new)) others (clash_list coords (length new)) (relabelled_vector coords by xs)

-- Theorem: the surface list of the relabelled table is a permutation of the relabelled vectors of the surface list
abbrev pub SurfaceListsAreRelabelled : Type 0
SurfaceListsAreRelabelled =
    (coords : Coords) (rows new : List Row) (by : Relabelling) (equations others : List EquationRow) (list listed : List (List ℕ)) → AreRelabelled coords rows new by equations others
    → IsSurfaceList (columns coords (length rows)) equations (clash_list coords (length rows)) list
    → IsSurfaceList (columns coords (length new)) others (clash_list coords (length new)) listed
    → IsPermutation (map (relabelled_vector coords by) list) listed

-- Theorem: isomorphic tables have surface lists of the same length
abbrev pub IsomorphicHaveAsMany : Type 0
IsomorphicHaveAsMany =
    (coords : Coords) (rows new : List Row) (equations others : List EquationRow) (list listed : List (List ℕ)) → IsTable rows → AreIsomorphic rows new
    → AreEquations coords rows equations → AreEquations coords new others
    → IsSurfaceList (columns coords (length rows)) equations (clash_list coords (length rows)) list
    → IsSurfaceList (columns coords (length new)) others (clash_list coords (length new)) listed → length list ≡ length listed

-- Theorem: tables with the same signature have surface lists of the same length
abbrev pub SameSignatureHaveAsMany : Type 0
SameSignatureHaveAsMany =
    (coords : Coords) (first second : List Row) (text : List ℕ) (equations others : List EquationRow) (list listed : List (List ℕ)) → IsTable first → IsTable second
    → IsSignature first text → IsSignature second text → AreEquations coords first equations → AreEquations coords second others
    → IsSurfaceList (columns coords (length first)) equations (clash_list coords (length first)) list
    → IsSurfaceList (columns coords (length second)) others (clash_list coords (length second)) listed → length list ≡ length listed

-- Theorem: tables with the same component signature have surface lists of the same length
abbrev pub SameComponentSignatureHaveAsMany : Type 0
SameComponentSignatureHaveAsMany =
    (coords : Coords) (first second : List Row) (text : List ℕ) (equations others : List EquationRow) (list listed : List (List ℕ)) → IsTable first → IsTable second
    → IsComponentSignature first text → IsComponentSignature second text → AreEquations coords first equations → AreEquations coords second others
    → IsSurfaceList (columns coords (length first)) equations (clash_list coords (length first)) list
    → IsSurfaceList (columns coords (length second)) others (clash_list coords (length second)) listed → length list ≡ length listed

-- Theorem: two enumerations of the vertex surfaces of isomorphic tables that do not exceed their limits list equally
-- many, in whichever orders they take the equations
abbrev pub EnumerationsListAsMany : Type 0
EnumerationsListAsMany =
    (coords : Coords) (rows new : List Row) (equations others : List EquationRow) (order another : Order) (limit bound : ℕ) (taken used : List ℕ) (list listed : List (List ℕ)) → IsTable rows
    → AreIsomorphic rows new → AreEquations coords rows equations → AreEquations coords new others → IsListed (table_enumeration coords order limit rows equations) taken list
    → IsListed (table_enumeration coords another bound new others) used listed → length list ≡ length listed

-- Theorem: the relabelled vector of a surface is a surface of the relabelled table
abbrev pub SurfacesAreRelabelled : Type 0
SurfacesAreRelabelled =
    (coords : Coords) (rows new : List Row) (by : Relabelling) (xs : List ℕ) → Relabels rows new by → IsSurface rows coords xs → IsSurface new coords (relabelled_vector coords by xs)

-- Theorem: the relabelled vector of a surface has the Euler characteristic of the surface
abbrev pub CharacteristicsAreKept : Type 0
CharacteristicsAreKept =
    (s other : Skeleton) (coords : Coords) (by : Relabelling) (xs : List ℕ) → IsSkeleton s → IsSkeleton other → Relabels s.rows other.rows by → IsSurface s.rows coords xs
    → characteristic other coords (relabelled_vector coords by xs) ≡ characteristic s coords xs

-- Theorem: the relabelled vector of a surface has the properties of the surface: points, arcs, discs, Euler
-- characteristic, whether it consists of triangles alone, and whether it meets the boundary
abbrev pub PropertiesAreKept : Type 0
PropertiesAreKept =
    (s other : Skeleton) (coords : Coords) (by : Relabelling) (xs : List ℕ) (p : Properties) → IsSkeleton s → IsSkeleton other → Relabels s.rows other.rows by → IsSurface s.rows coords xs
    → AreProperties s coords xs p → AreProperties other coords (relabelled_vector coords by xs) p

-- Theorem: a surface is connected if and only if its relabelled vector is a connected surface
abbrev pub ConnectedAreRelabelled : Type 0
ConnectedAreRelabelled =
    (s other : Skeleton) (coords : Coords) (by : Relabelling) (xs : List ℕ) → Relabels s.rows other.rows by → IsSurface s.rows coords xs
    → IsConnectedSurface s coords xs ↔ IsConnectedSurface other coords (relabelled_vector coords by xs)

-- the components of a surface with one component and those of its relabelled vector
pub record AreBothConnected (coords : Coords) (rows new : List Row) (by : Relabelling) (xs components others : List ℕ) : Type 0 where
  pub relabels : Relabels rows new by
  pub surface : IsSurface rows coords xs
  pub one : AreComponents rows coords xs components 1
  pub other : AreComponents new coords (relabelled_vector coords by xs) others 1

-- Theorem: a connected surface is two-sided if and only if its relabelled vector is
abbrev pub SidesAreKept : Type 0
SidesAreKept =
    (coords : Coords) (rows new : List Row) (by : Relabelling) (xs components others : List ℕ) → AreBothConnected coords rows new by xs components others
    → IsTwoSided rows coords xs components 0 ↔ IsTwoSided new coords (relabelled_vector coords by xs) others 0

-- Theorem: a connected surface is orientable if and only if its relabelled vector is
abbrev pub OrientationIsKept : Type 0
OrientationIsKept =
    (coords : Coords) (rows new : List Row) (by : Relabelling) (xs components others : List ℕ) → AreBothConnected coords rows new by xs components others
    → IsOrientableComponent rows coords xs components 0 ↔ IsOrientableComponent new coords (relabelled_vector coords by xs) others 0

-- Theorem: the relabelled vector of the lift of a quad vector is the lift of the relabelled quad vector
abbrev pub LiftsAreRelabelled : Type 0
LiftsAreRelabelled =
    (s other : Skeleton) (by : Relabelling) (xs lift : List ℕ) → IsSkeleton s → IsSkeleton other → Relabels s.rows other.rows by → length xs ≡ columns Quad (length s.rows)
    → IsLiftOf s xs lift → IsLiftOf other (relabelled_vector Quad by xs) (relabelled_vector Standard by lift)

-- Theorem: the lifts of an admissible quad vector and of its relabelled vector have the same Euler characteristic
abbrev pub LiftCharacteristicsAreKept : Type 0
LiftCharacteristicsAreKept =
    (s other : Skeleton) (by : Relabelling) (xs lift lifted : List ℕ) → IsSkeleton s → IsSkeleton other → Relabels s.rows other.rows by → length xs ≡ columns Quad (length s.rows)
    → IsAdmissible (clash_list Quad (length s.rows)) xs → IsLiftOf s xs lift → IsLiftOf other (relabelled_vector Quad by xs) lifted
    → characteristic other Standard lifted ≡ characteristic s Standard lift

-- Theorem: isomorphic tables list equally many surfaces of each Euler characteristic
abbrev pub CharacteristicsPermute : Type 0
CharacteristicsPermute =
    (s other : Skeleton) (coords : Coords) (list listed : List (List ℕ)) → IsSkeleton s → IsSkeleton other → HasTriangles coords → AreIsomorphic s.rows other.rows
    → IsSurfaceListOf s coords list → IsSurfaceListOf other coords listed → IsPermutation (map (characteristic s coords) list) (map (characteristic other coords) listed)

-- Theorem: if two tables are isomorphic, each connected surface of positive Euler characteristic of the one is a vertex
-- link if and only if each of the other is. In standard coordinates this is 0-efficiency by the tables' numbers.
abbrev pub EfficiencyIsKept : Type 0
EfficiencyIsKept =
    (s other : Skeleton) (coords : Coords) → IsSkeleton s → IsSkeleton other → HasTriangles coords → AreIsomorphic s.rows other.rows → PositiveAreLinks s coords ↔ PositiveAreLinks other coords

-- Theorem: if two tables have the same signature, one is 0-efficient by its numbers if and only if the other is
abbrev pub SameSignatureSameEfficiency : Type 0
SameSignatureSameEfficiency =
    (s other : Skeleton) (text : List ℕ) → IsSkeleton s → IsSkeleton other → IsSignature s.rows text → IsSignature other.rows text → IsZeroEfficient s ↔ IsZeroEfficient other

-- Theorem: tables with the same signature list equally many surfaces of each Euler characteristic
abbrev pub SameSignatureSameCharacteristics : Type 0
SameSignatureSameCharacteristics =
    (s other : Skeleton) (coords : Coords) (text : List ℕ) (list listed : List (List ℕ)) → IsSkeleton s → IsSkeleton other → HasTriangles coords → IsSignature s.rows text → IsSignature other.rows text
    → IsSurfaceListOf s coords list → IsSurfaceListOf other coords listed → IsPermutation (map (characteristic s coords) list) (map (characteristic other coords) listed)
