-- Paths in the maximal tree, and the even gluings on them.
use Rattle.std.specs.Prelude.{◌≡◌, ℕ, Bool, List, Option}
use Rattle.table_definitions.specs.Table.{Row, Face}
use Rattle.presentation_definitions.specs.Trees.{IsTreePath, evens, is_odd_number}
use Rattle.presentation_definitions.specs.Groups.{IsTree}
use Rattle.edge_group.specs.Searches.{AreDistances}

-- the tree faces, with the distances
pub record IsTreeWith (rows : List Row) (faces : List (Option Face)) (marks : List (Option ℕ)) : Type 0 where
  pub tree : IsTree rows faces
  pub distances : AreDistances rows marks

-- whether the path in the tree to t has an odd number of even gluings
pub record IsPathOdd (rows : List Row) (t : ℕ) (odd : Bool) : Type 0 where
  pub path : List Face
  pub is_path : IsTreePath rows t path
  pub reported : odd ≡ is_odd_number (evens rows path)
