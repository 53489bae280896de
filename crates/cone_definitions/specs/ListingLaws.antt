-- A named order of the rows is one, and so is what exceeds the limit in it.
use Rattle.std.specs.Prelude.{◌≡◌, ◌≢◌, ℕ, ◌≤◌, List, length, take}
use Rattle.cone_definitions.specs.Elimination.{Named}
use Rattle.cone_definitions.specs.Systems.{System}
use Rattle.cone_definitions.specs.Orders.{AreNamed}
use Rattle.cone_definitions.specs.Listings.{Enumeration, IsListed, ExceedsLimit}
use Rattle.cone_definitions.specs.declared.Order.{Order}
use Rattle.cone_definitions.specs.declared.Order.TheVariants.{Free}

-- two lists of rows that an order names agree as far as both go
abbrev pub OneNamedOrder : Type 0
OneNamedOrder = (order : Order) (system : System) (xs ys : List ℕ) → order ≢ Free → AreNamed order system xs → AreNamed order system ys →
    length xs ≤ length ys → xs ≡ take (length xs) ys

-- at most one ray or pair, of one step, is named as the first whose number exceeds the limit
abbrev pub OneIsLarge : Type 0
OneIsLarge = (e : Enumeration) (taken others : List ℕ) (one other : Named) → e.order ≢ Free →
    ExceedsLimit e taken one → ExceedsLimit e others other → (taken ≡ others) × (one ≡ other)

-- and none is named if there is a list
abbrev pub NoneListedIsLarge : Type 0
NoneListedIsLarge = (e : Enumeration) (all taken : List ℕ) (list : List (List ℕ)) (kind : Named) → e.order ≢ Free →
    IsListed e all list → ¬ ExceedsLimit e taken kind
