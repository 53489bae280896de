-- What a skeleton stores besides its classes.
use Rattle.std.specs.Prelude.{◌≡◌, ℕ, ◌<◌, Bool, false, ◌&&◌, List, length, ◌==◌, slice_index, Vec}
use Rattle.std.specs.List.{slice_index_or, list_any}
use Rattle.std.specs.declared.alloc.Global.{Global}
use Rattle.table_definitions.specs.Lists.{below}
use Rattle.table_definitions.specs.Table.{Row}
use Rattle.table_definitions.specs.Classes.{degree}
use Rattle.table_definitions.specs.Places.{is_boundary, is_boundary_edge, lies_in_boundary}
use Rattle.skeleton_definitions.specs.Corners.{Corner}
use Rattle.skeleton_class_laws.specs.Rounds.{next_corner, IsTourUnlessBoundary}

-- the degree of each of count classes
pub record AreDegrees (classes : List ℕ) (count : ℕ) (degrees : List ℕ) : Type 0 where
  pub one_each : length degrees ≡ count
  pub counted : (c : ℕ) → c < count → slice_index degrees c ≡ degree classes c

-- for each edge class whether it is on the boundary
pub record AreBoundaryMarks (rows : List Row) (classes : List ℕ) (count : ℕ) (marks : List Bool) : Type 0 where
  pub one_each : length marks ≡ count
  pub reported : (c : ℕ) → c < count → slice_index_or marks c false ≡ is_boundary_edge rows classes c

-- AreBoundaryMarks, with only the edges below i counted
pub record AreBoundaryMarksUpTo (i : ℕ) (rows : List Row) (classes : List ℕ) (count : ℕ) (marks : List Bool) : Type 0 where
  pub one_each : length marks ≡ count
  pub reported : (c : ℕ) → c < count → slice_index_or marks c false ≡ list_any (λ e. (slice_index classes e == c) && lies_in_boundary rows e) (below i)

abbrev pub is_open_at : List Row → ℕ → ℕ → Bool
is_open_at rows t f = is_boundary rows (record { tet = t; face = f })

abbrev pub items_of : Vec Bool Global → List Bool
items_of v = v.items

-- the tour of each of n edge classes, or no corner if it is on the boundary
pub record AreRounds (rows : List Row) (firsts : List ℕ) (boundary : List Bool) (n : ℕ) (walks : List (Vec Corner Global)) : Type 0 where
  pub one_each : length walks ≡ n
  pub reported : (c : ℕ) (w : Vec Corner Global) → c < n → w ≡ slice_index_or walks c w → IsTourUnlessBoundary (next_corner rows) (slice_index_or boundary c false) (slice_index firsts c) w.items
