-- The first fault of a move, and what the search for facets gives.
use Rattle.std.specs.Prelude.{◌≡◌, ◌-◌, ℕ, List, [], ◌∷◌, length, filter_map, Option, Some, None, Result, Ok, Err}
use Rattle.std.specs.Option.{option_or}
use Rattle.std.specs.List.{range_with_len}
use Rattle.table_definitions.specs.Lists.{first_some}
use Rattle.table_definitions.specs.Table.{Row}
use Rattle.move_definitions.specs.Moves as moves
use Rattle.move_definitions.specs.declared.MoveFault.{MoveFault}

-- nothing, or the fault that was found first
abbrev pub verdict : Option MoveFault → Result (Unit {0}) MoveFault
verdict None = Ok tt
verdict (Some fault) = Err fault

-- the first error of the facets across faces
abbrev pub first_facet_fault : List Row → moves.Move → Option MoveFault
first_facet_fault rows m = first_some (λ i. moves.facet_fault rows m i (moves.facet rows m i)) (moves.found_labels m)

-- the facets of the labels from the core's size on that are below this one
abbrev pub facets_below : List Row → moves.Move → ℕ → List moves.Facet
facets_below rows m label = filter_map (moves.facet rows m) (range_with_len (length m.core) (label - length m.core))

abbrev pub found_facets : List Row → moves.Move → List moves.Facet
found_facets rows m = filter_map (moves.facet rows m) (moves.found_labels m)

-- the first pair of at most three facets that are not glued to each other
unfoldable pub pairs_fault : List Row → List moves.Facet → Option MoveFault
pairs_fault rows (f ∷ g ∷ []) = moves.pair_fault rows (Some f) (Some g)
pairs_fault rows (f ∷ g ∷ h ∷ []) =
    option_or (moves.pair_fault rows (Some f) (Some g)) (option_or (moves.pair_fault rows (Some f) (Some h)) (moves.pair_fault rows (Some g) (Some h)))
pairs_fault rows facets = None

-- what legal answers
abbrev pub IsPattern : List Row → moves.Move → List moves.Facet → Type 0
IsPattern rows m facets = (facets ≡ moves.old_facets rows m) × (moves.move_fault rows m ≡ None)
