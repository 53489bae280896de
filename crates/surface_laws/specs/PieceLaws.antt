-- Laws of pieces, of the arcs in which they meet, and of components.
use Rattle.std.specs.Prelude.{◌≡◌, ◌≢◌, ℕ, ◌+◌, ◌*◌, ◌<◌, ◌↔◌, List, length, take, Contains, Result, sum_by, sum, slice_index, ◌-◌, Bool, if◌then◌else◌, nat_lt}
use Rattle.std.specs.List.{slice_index_or, position_or_len}
use Rattle.cone_definitions.specs.Rows.{IsSolution}
use Rattle.cone_definitions.specs.Surfaces.{IsAdmissible}
use Rattle.table_definitions.specs.Lists.{below}
use Rattle.table_definitions.specs.Table.{Gluing, Row, Face, inverse_gluing, IsTable}
use Rattle.surface_definitions.specs.Coordinates.{columns, clash_list}
use Rattle.surface_definitions.specs.declared.Coords.{Coords}
use Rattle.surface_definitions.specs.Equations.{matching_rows}
use Rattle.surface_definitions.specs.Pieces.{NormalDisc, discs_of, disc_number, Arc, arc_across, disc_of, Meets, SamePiece, AreComponents, component_vector}
use Rattle.surface_vector_definitions.specs.Components.{Component, IsPiecesAnswer}
use Rattle.surface_vector_definitions.specs.declared.ManyPieces.{ManyPieces}
use Rattle.table_walk_laws.specs.Joined.{IsJoined, IsSymmetric, HasNeighboursBelow}
use Rattle.surface_laws.specs.MatchingLaws.{HasTriangles}

-- an admissible solution of the equations of a table, in coordinates with triangles
pub record IsSurface (rows : List Row) (coords : Coords) (xs : List ℕ) : Type 0 where
  pub table : IsTable rows
  pub triangles : HasTriangles coords
  pub solves : IsSolution (columns coords (length rows)) (matching_rows coords rows) xs
  pub admissible : IsAdmissible (clash_list coords (length rows)) xs

-- the face that contains an arc
abbrev pub face_of_arc : Arc → Face
face_of_arc a = record { tet = a.tet; face = a.face }

-- the arc across a gluing meets the first one, across the gluing that leads back
pub record MeetsBack (rows : List Row) (coords : Coords) (xs : List ℕ) (a : Arc) (g : Gluing) : Type 0 where
  pub meets : Meets rows coords xs (arc_across g a) (inverse_gluing (face_of_arc a) g)
  pub same : arc_across (inverse_gluing (face_of_arc a) g) (arc_across g a) ≡ a

abbrev pub ArcsMeetBack : Type 0
ArcsMeetBack = (rows : List Row) (coords : Coords) (xs : List ℕ) (a : Arc) (g : Gluing) → IsSurface rows coords xs → Meets rows coords xs a g → MeetsBack rows coords xs a g

-- a piece of component i has two classes with either sign, so it is not joined to itself with the other sign
abbrev pub IsFreePiece : List ℕ → List ℕ → ℕ → ℕ → Type 0
IsFreePiece classes components i p = slice_index components p ≡ i → slice_index classes (2 * p) ≢ slice_index classes (2 * p + 1)

-- sign 0 or 1, or the other
abbrev pub reversed_if : Bool → ℕ → ℕ
reversed_if b k = if b then k else 1 - k

-- the vectors of the components add up to the vector, column by column
abbrev pub ComponentsAddUp : Type 0
ComponentsAddUp =
    (rows : List Row) (coords : Coords) (xs components : List ℕ) (count : ℕ) → AreComponents rows coords xs components count
    → (c : ℕ) → sum_by (λ i. slice_index (component_vector xs components i) c) (below count) ≡ slice_index xs c

-- and each is an admissible solution too
abbrev pub ComponentsAreSurfaces : Type 0
ComponentsAreSurfaces =
    (rows : List Row) (coords : Coords) (xs components : List ℕ) (count i : ℕ) → IsSurface rows coords xs → AreComponents rows coords xs components count
    → IsSurface rows coords (component_vector xs components i)

-- Theorem: discs are numbered column by column: those of a column come after those of the columns before it
pub record ArePieceNumbers (xs : List ℕ) : Type 0 where
  pub count : length (discs_of xs) ≡ sum xs
  pub there : (c j : ℕ) (d : NormalDisc) → c < length xs → j < slice_index xs c → slice_index_or (discs_of xs) (sum (take c xs) + j) d ≡ record { column = c; number = j }
  pub number : (c j : ℕ) → c < length xs → j < slice_index xs c → disc_number xs (record { column = c; number = j }) ≡ sum (take c xs) + j

abbrev pub PiecesAreNumbered : Type 0
PiecesAreNumbered = (xs : List ℕ) → ArePieceNumbers xs

-- the piece of an arc is one of the vector's
pub record IsPieceOf (xs : List ℕ) (p : NormalDisc) : Type 0 where
  pub column : p.column < length xs
  pub number : p.number < slice_index xs p.column

abbrev pub ArcsArePieces : Type 0
ArcsArePieces = (rows : List Row) (coords : Coords) (xs : List ℕ) (a : Arc) (g : Gluing) → IsSurface rows coords xs → Meets rows coords xs a g → IsPieceOf xs (disc_of coords xs a)

-- to be in one component is an equivalence
pub record ChainsOfArcs (rows : List Row) (coords : Coords) (xs : List ℕ) : Type 0 where
  pub itself : (i : ℕ) → SamePiece rows coords xs i i
  pub further : (i j k : ℕ) → SamePiece rows coords xs i j → SamePiece rows coords xs j k → SamePiece rows coords xs i k
  pub back : (i j : ℕ) → SamePiece rows coords xs i j → SamePiece rows coords xs j i

abbrev pub ChainsOfArcsJoin : Type 0
ChainsOfArcsJoin = (rows : List Row) (coords : Coords) (xs : List ℕ) → IsSurface rows coords xs → ChainsOfArcs rows coords xs

-- an arc of piece i meets one of piece j
pub record PiecesMeet (rows : List Row) (coords : Coords) (xs : List ℕ) (i j : ℕ) : Type 0 where
  pub arc : Arc
  pub gluing : Gluing
  pub meets : Meets rows coords xs arc gluing
  pub one : disc_number xs (disc_of coords xs arc) ≡ i
  pub other : disc_number xs (disc_of coords xs (arc_across gluing arc)) ≡ j

-- the neighbours of each piece are those that it meets
abbrev pub AreMeetingPieces : List Row → Coords → List ℕ → (ℕ → List ℕ) → Type 0
AreMeetingPieces rows coords xs neighbours = (i j : ℕ) → Contains (neighbours i) j ↔ PiecesMeet rows coords xs i j

-- so they are numbers of pieces, each is a neighbour of its neighbours, and they join what is one component
pub record JoinComponents (rows : List Row) (coords : Coords) (xs : List ℕ) (neighbours : ℕ → List ℕ) : Type 0 where
  pub below : HasNeighboursBelow (length (discs_of xs)) neighbours
  pub symmetric : IsSymmetric neighbours
  pub joined : (i j : ℕ) → i < length (discs_of xs) → j < length (discs_of xs) → IsJoined neighbours i j ↔ SamePiece rows coords xs i j

abbrev pub MeetingPiecesJoin : Type 0
MeetingPiecesJoin =
    (rows : List Row) (coords : Coords) (xs : List ℕ) (neighbours : ℕ → List ℕ) → IsSurface rows coords xs → AreMeetingPieces rows coords xs neighbours
    → JoinComponents rows coords xs neighbours

-- the pieces of a surface have components
pub record HasComponents (rows : List Row) (coords : Coords) (xs : List ℕ) : Type 0 where
  pub components : List ℕ
  pub count : ℕ
  pub are : AreComponents rows coords xs components count

abbrev pub ComponentsExist : Type 0
ComponentsExist = (rows : List Row) (coords : Coords) (xs : List ℕ) → IsSurface rows coords xs → HasComponents rows coords xs

-- Theorem: the discs of each surface have an answer
abbrev pub PiecesAnswersExist : Type 0
PiecesAnswersExist = (rows : List Row) (coords : Coords) (xs : List ℕ) → IsSurface rows coords xs → (a : Result (List Component) ManyPieces) × IsPiecesAnswer rows coords xs a

-- the first of these columns that is not 0, or else q
abbrev pub first_nonzero : List ℕ → List ℕ → ℕ → ℕ
first_nonzero xs os q = slice_index_or os (position_or_len (λ c. nat_lt 0 (slice_index xs c)) os) q
