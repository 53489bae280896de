-- The rows of a crushed table, one after another.
use Rattle.std.specs.Prelude.{◌≡◌, ℕ, ◌<◌, not, List, [], length, None, Option, option_map, IsTrue}
use Rattle.std.specs.List.{slice_index_or}
use Rattle.table_definitions.specs.Table.{Gluing, Row}
use Rattle.surface_definitions.specs.Crushing.{is_removed, number_kept, CrushesTo, renumbered}

-- the row of a retained tetrahedron
pub record IsCrushedRow (rows : List Row) (xs : List ℕ) (t : ℕ) (row : Row) : Type 0 where
  pub four_faces : length row ≡ 4
  pub glued : (f : ℕ) (end : Option Gluing) → f < 4 → CrushesTo rows xs (record { tet = t; face = f }) end → slice_index_or row f None ≡ option_map (renumbered xs) end

-- the crushed rows of the tetrahedra before t
pub record AreCrushedBefore (rows : List Row) (xs : List ℕ) (t : ℕ) (new : List Row) : Type 0 where
  pub length_is : length new ≡ number_kept xs t
  pub each : (u : ℕ) → u < t → IsTrue (not (is_removed xs u)) → IsCrushedRow rows xs u (slice_index_or new (number_kept xs u) [])

-- the numbers in the crushed table
pub record AreNewNumbers (xs numbers : List ℕ) (n : ℕ) : Type 0 where
  pub length_is : length numbers ≡ n
  pub each : (t : ℕ) → t < n → slice_index_or numbers t 0 ≡ number_kept xs t
