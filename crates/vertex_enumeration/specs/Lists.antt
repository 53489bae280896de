-- The list of an enumeration, that it is the only one, and why there is none.
use Rattle.std.specs.Prelude.{◌≡◌, ℕ, List, length}
use Rattle.std.specs.List.{range_with_len}
use Rattle.std.specs.List.Sorted.{IsPermutation}
use Rattle.out_of_memory.specs.declared.Failure.{Failure}
use Rattle.out_of_memory.specs.Failures.{IfFault}
use Rattle.cone_definitions.specs.Surfaces.{Clash, IsSurfaceList}
use Rattle.cone_definitions.specs.Systems.{System}
use Rattle.cone_definitions.specs.Listings.{Enumeration, IsListed, ExceedsLimit, AreWithin}
use Rattle.cone_definitions.specs.declared.Order.{Order}
use Rattle.double_description.specs.declared.engine.LargeStep.{LargeStep}

-- the enumeration of a system, clashing pairs, an order and a limit
abbrev pub enumeration_of : System → List Clash → Order → ℕ → Enumeration
enumeration_of system pairs order limit = record { system = system; pairs = pairs; order = order; limit = limit }

-- in no order of all rows does a number of a step exceed the limit
abbrev pub AreAlwaysWithin : ℕ → System → List Clash → Type 0
AreAlwaysWithin limit system pairs = (taken : List ℕ) → IsPermutation (range_with_len 0 (length system.rows)) taken → AreWithin limit system pairs taken

-- the surface list, which is the only one, with the rows processed in the order of the enumeration
pub record IsOnlyListing (e : Enumeration) (list : List (List ℕ)) : Type 0 where
  pub taken : List ℕ
  pub listed : IsListed e taken list
  pub only : (others : List (List ℕ)) → IsSurfaceList e.system.columns e.system.rows e.pairs others → others ≡ list

-- a number exceeds the limit, or memory runs out
abbrev pub AreRefused : Enumeration → Failure LargeStep → Type 0
AreRefused e failure = IfFault failure (λ step. ExceedsLimit e step.order.items step.kind)
