-- The negative rays of a step, and which of them cannot be adjacent to a positive ray.
use Rattle.std.specs.Prelude.{◌≡◌, ℕ, ◌<◌, ◌≤◌, ◌⊎◌, ◌↔◌, List, Bool, true, false, [], length, slice_index_or}
use Rattle.support_bits.specs.Columns.{Meets}
use Rattle.support_table.specs.Counts.{columns_in_either}
use Rattle.ray_steps.specs.declared.negatives.Negatives.{Negatives}
use Rattle.ray_steps.specs.declared.signs.Sign.{Sign}
use Rattle.ray_steps.specs.declared.signs.Sign.TheVariants.{Zero}
use Rattle.ray_steps.specs.Signs.{AreNegativePlaces, IsNegative}
use Rattle.ray_steps.specs.CompatibleLists.{HasSupportsOf}

-- the indices of all negative rays, ascending, with their supports
pub record AreNegatives (rays : List (List ℕ)) (signs : List Sign) (columns : ℕ) (negatives : Negatives) : Type 0 where
  pub places : AreNegativePlaces signs (length signs) negatives.places.items
  pub table : HasSupportsOf rays columns negatives.places.items negatives.table

-- which of the first n signs are negative
pub record AreNegativeFlags (signs : List Sign) (n : ℕ) (flags : List Bool) : Type 0 where
  pub count : length flags ≡ n
  pub each : (k : ℕ) → k < n → IsNegative (slice_index_or signs k Zero) ↔ (slice_index_or flags k false ≡ true)

-- the support contains a joined column, or its union with a has more than `most` columns
abbrev pub IsRuledOut : List Bool → List Bool → ℕ → List Bool → Type 0
IsRuledOut a joined most support = Meets support joined ⊎ (most < columns_in_either a support)

-- the least index from start on whose support is not far, or else the number of supports
pub record IsFirstNotRuledOut (a joined : List Bool) (most : ℕ) (supports : List (List Bool)) (start place : ℕ) : Type 0 where
  pub least : start ≤ place
  pub within : place ≤ length supports
  pub near : place < length supports → ¬ IsRuledOut a joined most (slice_index_or supports place [])
  pub earlier : (k : ℕ) → start ≤ k → k < place → IsRuledOut a joined most (slice_index_or supports k [])
