-- What an enumeration is of, and what it gives: the surface list, or the first step at which a number exceeds the
-- limit.
use Rattle.std.specs.Prelude.{◌≡◌, ℕ, ◌+◌, ◌<◌, List, [], length}
use Rattle.std.specs.List.{range_with_len}
use Rattle.std.specs.List.Sorted.{IsPermutation}
use Rattle.cone_definitions.specs.Surfaces.{Clash, IsSurfaceList}
use Rattle.cone_definitions.specs.Elimination.{in_order, step_at, IsWithin, Named, IsLarge}
use Rattle.cone_definitions.specs.Systems.{System}
use Rattle.cone_definitions.specs.Orders.{AreNamed}
use Rattle.cone_definitions.specs.declared.Order.{Order}

-- no number of a step of the rows in this order exceeds the limit
abbrev pub AreWithin : ℕ → System → List Clash → List ℕ → Type 0
AreWithin limit system pairs taken = (k : ℕ) → k < length taken → IsWithin limit (step_at system.columns (in_order system.rows taken) pairs k)

-- what an enumeration is of: the rows, the clashing pairs, the order in which the rows are taken, and the greatest
-- number
pub record Enumeration : Type 0 where
  pub system : System
  pub pairs : List Clash
  pub order : Order
  pub limit : ℕ

-- an enumeration with no clashing pairs, which is one of all rays
abbrev pub without_pairs : System → Order → ℕ → Enumeration
without_pairs system order limit = record { system = system; pairs = []; order = order; limit = limit }

-- the surface list, if no number of a step exceeds the limit when the rows are taken in the named order
pub record IsListed (e : Enumeration) (taken : List ℕ) (list : List (List ℕ)) : Type 0 where
  pub surfaces : IsSurfaceList e.system.columns e.system.rows e.pairs list
  pub all : IsPermutation (range_with_len 0 (length e.system.rows)) taken
  pub named : AreNamed e.order e.system taken
  pub within : AreWithin e.limit e.system e.pairs taken

-- in the order's own order of the rows, the last row taken is that of the first step at which a number exceeds the
-- limit
pub record ExceedsLimit (e : Enumeration) (taken : List ℕ) (kind : Named) : Type 0 where
  pub step : ℕ
  pub count : length taken ≡ step + 1
  pub named : AreNamed e.order e.system taken
  pub large : IsLarge e.limit e.system.columns (in_order e.system.rows taken) e.pairs step kind
