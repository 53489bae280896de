-- If all numbers are bounded, a surface list that was found in any way is the answer in each order of the rows.
use Rattle.std.specs.Prelude.{◌≢◌, ℕ, ◌*◌, ◌≤◌, Bool, List, length}
use Rattle.std.specs.List.{range_with_len}
use Rattle.std.specs.List.Sorted.{IsPermutation}
use Rattle.cone_definitions.specs.Surfaces.{IsSurfaceList}
use Rattle.cone_definitions.specs.Elimination.{Named}
use Rattle.cone_definitions.specs.Orders.{AreNamed}
use Rattle.cone_definitions.specs.Listings.{Enumeration, IsListed, ExceedsLimit}
use Rattle.cone_definitions.specs.declared.Order.TheVariants.{Free}
use Rattle.cone_bound_laws.specs.Caps.{HasCaps, caps_product}

-- the equations bound all numbers by the limit
pub record IsBounded (e : Enumeration) (free : ℕ → Bool) (group cap : ℕ → ℕ) (groups size : ℕ) : Type 0 where
  pub caps : HasCaps e.system.columns e.system.rows e.pairs free group cap groups size
  pub most : size * (caps_product cap groups * caps_product cap groups) ≤ e.limit

-- so a surface list is what the enumeration gives
abbrev pub ListsOfBoundedAreListed : Type 0
ListsOfBoundedAreListed = (e : Enumeration) (free : ℕ → Bool) (group cap : ℕ → ℕ) (groups size : ℕ) → IsBounded e free group cap groups size →
    (taken : List ℕ) (list : List (List ℕ)) → IsPermutation (range_with_len 0 (length e.system.rows)) taken → AreNamed e.order e.system taken →
    IsSurfaceList e.system.columns e.system.rows e.pairs list → IsListed e taken list

-- and nothing exceeds the limit, where the order names its rows
abbrev pub BoundedDoesNotExceed : Type 0
BoundedDoesNotExceed = (e : Enumeration) (free : ℕ → Bool) (group cap : ℕ → ℕ) (groups size : ℕ) → IsBounded e free group cap groups size → e.order ≢ Free →
    (all taken : List ℕ) (list : List (List ℕ)) (kind : Named) → IsPermutation (range_with_len 0 (length e.system.rows)) all → AreNamed e.order e.system all →
    IsSurfaceList e.system.columns e.system.rows e.pairs list → ¬ ExceedsLimit e taken kind
