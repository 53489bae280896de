-- The columns of a system in groups of three, of which an admissible vector has at most one: the greatest of the three
-- sums of squares is the cap.
use Rattle.std.specs.Prelude.{◌≡◌, ℕ, ◌+◌, ◌*◌, ◌/◌, ◌^◌, ◌<◌, ◌≤◌, ◌⊎◌, max, List, Contains, slice_index}
use Rattle.std.specs.List.{Any}
use Rattle.cone_definitions.specs.Surfaces.{Clash}
use Rattle.cone_definitions.specs.Systems.{System}
use Rattle.cone_bound_laws.specs.Caps.{row_size, caps_product}
use Rattle.cone_square_laws.specs.Squares.{sum_of_squares, HasSquareCaps}
use Rattle.number_bounds.specs.Squares.{HasHeavyColumn}

-- the cap of a group: the greatest of the three sums of squares, and at least 1
abbrev pub triple_cap : List ℕ → ℕ → ℕ
triple_cap squares group = max (max (max (slice_index squares (3 * group)) (slice_index squares (3 * group + 1))) (slice_index squares (3 * group + 2))) 1

-- the columns of each group clash
abbrev pub DoTriplesClash : System → List Clash → Type 0
DoTriplesClash system pairs = (i j : ℕ) → i < j → j < system.columns → i / 3 ≡ j / 3 → Contains pairs (i, j)

-- if the columns of each group clash, all numbers are bounded by the limit
pub record AreTriplesBounded (system : System) (limit : ℕ) : Type 0 where
  pub squares : List ℕ
  pub size : ℕ
  pub caps : (pairs : List Clash) → DoTriplesClash system pairs → HasSquareCaps system.columns system.rows pairs (λ column. column / 3) (triple_cap squares) (system.columns / 3) size
  pub most : size * caps_product (triple_cap squares) (system.columns / 3) ≤ limit

-- the product of the caps of all groups
abbrev pub triples_product : System → ℕ
triples_product system =
    caps_product (λ group. max (max (max (sum_of_squares system.rows (3 * group)) (sum_of_squares system.rows (3 * group + 1))) (sum_of_squares system.rows (3 * group + 2))) 1)
    (system.columns / 3)

-- a row's size or a column's sum of squares exceeds 2^64 - 1, or a row's size times that product exceeds the limit
abbrev pub TriplesExceed : System → ℕ → Type 0
TriplesExceed system limit =
    Any (λ row. 2 ^ 64 ≤ row_size row) system.rows
    ⊎ (HasHeavyColumn system ⊎ Any (λ row. limit < row_size row * triples_product system) system.rows)
