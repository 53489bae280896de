-- The components of a surface with the answer for each, or the number of discs if there are too many. Coordinates are
-- standard or octagon.
use Rattle.std.specs.Prelude.{◌≡◌, ℕ, ◌<◌, ◌≤◌, ◌↔◌, Bool, List, Result, Ok, Err, IsTrue, sum}
use Rattle.std.specs.List.{AllZip}
use Rattle.table_definitions.specs.Lists.{below}
use Rattle.table_definitions.specs.Table.{Row}
use Rattle.surface_definitions.specs.declared.Coords.{Coords}
use Rattle.surface_vector_definitions.specs.declared.ManyPieces.{ManyPieces}
use Rattle.surface_definitions.specs.Pieces.{AreComponents, component_vector, IsTwoSided, IsOrientableComponent}

-- the greatest number of discs for which components are computed
abbrev pub most_pieces : ℕ
most_pieces = 100000

pub record Component : Type 0 where
  pub vector : List ℕ
  pub two_sided : Bool
  pub orientable : Bool

-- the result for component i, by the component of each disc
pub record IsComponent (rows : List Row) (coords : Coords) (xs classes : List ℕ) (i : ℕ) (c : Component) : Type 0 where
  pub vector : c.vector ≡ component_vector xs classes i
  pub two_sided : IsTrue c.two_sided ↔ IsTwoSided rows coords xs classes i
  pub orientable : IsTrue c.orientable ↔ IsOrientableComponent rows coords xs classes i

-- the components of a vector, numbered by their least pieces
pub record AreListedComponents (rows : List Row) (coords : Coords) (xs : List ℕ) (listed : List Component) : Type 0 where
  pub classes : List ℕ
  pub count : ℕ
  pub numbered : AreComponents rows coords xs classes count
  pub each : AllZip (IsComponent rows coords xs classes) (below count) listed

-- the result for a vector: its components, or the number of discs if there are too many
abbrev pub IsPiecesAnswer : List Row → Coords → List ℕ → Result (List Component) ManyPieces → Type 0
IsPiecesAnswer rows coords xs (Ok listed) = (sum xs ≤ most_pieces) × AreListedComponents rows coords xs listed
IsPiecesAnswer rows coords xs (Err many) = (most_pieces < sum xs) × (many.count ≡ sum xs)
