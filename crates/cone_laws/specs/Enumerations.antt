-- Each enumeration ends: with a list, or with a number that exceeds the limit.
use Rattle.std.specs.Prelude.{ℕ, List, length, ◌⊎◌}
use Rattle.std.specs.List.{range_with_len}
use Rattle.std.specs.List.Sorted.{IsPermutation}
use Rattle.cone_definitions.specs.Surfaces.{PairsAreOfTwoColumns}
use Rattle.cone_definitions.specs.Elimination.{Named}
use Rattle.cone_definitions.specs.Systems.{System}
use Rattle.cone_definitions.specs.Orders.{AreNamed}
use Rattle.cone_definitions.specs.Listings.{Enumeration, IsListed, ExceedsLimit}
use Rattle.cone_definitions.specs.declared.Order.{Order}

-- all rows can be taken, each as the order names it
abbrev pub RowsAreTaken : Type 0
RowsAreTaken = (order : Order) (system : System) → (taken : List ℕ) × IsPermutation (range_with_len 0 (length system.rows)) taken × AreNamed order system taken

-- where each pair is of two different columns, there is a list, or a number exceeds the limit
abbrev pub EnumerationsEnd : Type 0
EnumerationsEnd = (e : Enumeration) → PairsAreOfTwoColumns e.pairs →
    ((taken : List ℕ) × (list : List (List ℕ)) × IsListed e taken list) ⊎ ((taken : List ℕ) × (kind : Named) × ExceedsLimit e taken kind)
