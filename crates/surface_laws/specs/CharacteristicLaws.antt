-- Points, arcs, pieces and Euler characteristics of a sum of vectors.
use Rattle.std.specs.Prelude.{◌≡◌, ℕ, ◌+◌, ◌<◌, ◌↔◌, true, ◌+ℤ◌, List, length, None, sum, sum_by, slice_index}
use Rattle.cone_definitions.specs.Vectors.{sum_of}
use Rattle.table_definitions.specs.Lists.{below}
use Rattle.table_definitions.specs.Table.{Row, Face, glue}
use Rattle.skeleton_definitions.specs.Skeleton.{Skeleton}
use Rattle.surface_definitions.specs.Coordinates.{is_quad_or_octagon}
use Rattle.surface_definitions.specs.declared.Coords.{Coords}
use Rattle.surface_definitions.specs.Characteristic.{points, arcs, arcs_in, is_linking, meets_boundary}
use Rattle.surface_definitions.specs.Pieces.{AreComponents, component_vector}
use Rattle.surface_vector_definitions.specs.Properties.{AreProperties}
use Rattle.surface_vector_definitions.specs.declared.Properties.{Properties}

-- the sums of x and y add up to those of their sum
pub record AddUp (rows : List Row) (coords : Coords) (classes : List ℕ) (count : ℕ) (x y : List ℕ) : Type 0 where
  pub points : points coords (sum_of x y) classes count ≡ points coords x classes count + points coords y classes count
  pub arcs : arcs rows coords (sum_of x y) ≡ arcs rows coords x + arcs rows coords y
  pub pieces : sum (sum_of x y) ≡ sum x + sum y

abbrev pub SumsAddUp : Type 0
SumsAddUp = (rows : List Row) (coords : Coords) (classes : List ℕ) (count : ℕ) (x y : List ℕ) → length x ≡ length y → AddUp rows coords classes count x y

-- so do the Euler characteristics
abbrev pub CharacteristicsAddUp : Type 0
CharacteristicsAddUp =
    (s : Skeleton) (coords : Coords) (x y : List ℕ) (p q r : Properties) → length x ≡ length y
    → AreProperties s coords x p → AreProperties s coords y q → AreProperties s coords (sum_of x y) r → r.euler ≡ p.euler +ℤ q.euler

-- the sums of the components of a surface add up to its own
pub record ComponentSumsAre (s : Skeleton) (coords : Coords) (xs components : List ℕ) (count : ℕ) : Type 0 where
  pub points : sum_by (λ i. points coords (component_vector xs components i) s.edges.classes s.edges.count) (below count) ≡ points coords xs s.edges.classes s.edges.count
  pub arcs : sum_by (λ i. arcs s.rows coords (component_vector xs components i)) (below count) ≡ arcs s.rows coords xs
  pub pieces : sum_by (λ i. sum (component_vector xs components i)) (below count) ≡ sum xs

abbrev pub ComponentSumsAddUp : Type 0
ComponentSumsAddUp =
    (s : Skeleton) (coords : Coords) (xs components : List ℕ) (count : ℕ) → AreComponents s.rows coords xs components count → ComponentSumsAre s coords xs components count

-- a vector is linking if and only if each quad and each octagon is 0
abbrev pub LinkingHasNoQuads : Type 0
LinkingHasNoQuads =
    (coords : Coords) (xs : List ℕ) → (is_linking coords xs ≡ true) ↔ ((c : ℕ) → c < length xs → is_quad_or_octagon coords c ≡ true → slice_index xs c ≡ 0)

-- a boundary face with an arc
pub record HasBoundaryArc (rows : List Row) (coords : Coords) (xs : List ℕ) : Type 0 where
  pub face : Face
  pub tet : face.tet < length rows
  pub one_of_four : face.face < 4
  pub free : glue rows face ≡ None
  pub some : 0 < arcs_in coords xs face

abbrev pub BoundaryHasArcs : Type 0
BoundaryHasArcs = (rows : List Row) (coords : Coords) (xs : List ℕ) → (meets_boundary rows coords xs ≡ true) ↔ HasBoundaryArc rows coords xs
