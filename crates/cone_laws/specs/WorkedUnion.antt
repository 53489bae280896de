-- A pair with the most columns that one row lets a pair have, two rays with one column more, and rows of which not all
-- cut.
use Rattle.std.specs.Prelude.{◌≡◌, ℕ, zero, suc, List, [], ◌∷◌, take, pos, negsuc}
use Rattle.cone_definitions.specs.Rows.{Row, IsPositiveAt, IsNegativeAt}
use Rattle.cone_definitions.specs.Elimination.{step_at, IsPair}
use Rattle.cone_definitions.specs.Enumeration.{unit_vectors}
use Rattle.cone_definitions.specs.WorkedRow.{worked_row, worked_surfaces}
use Rattle.cone_laws.specs.Cuts.{cuts_before}
use Rattle.cone_laws.specs.Meeting.{meeting_count}
use Rattle.cone_laws.specs.Unions.{union_size}

-- the row x + y - 2 z, and then x - y
abbrev pub three_columns : List Row
three_columns = worked_row ∷ ((0, pos 1) ∷ (1, negsuc 0) ∷ []) ∷ []

-- 2 0 1 and 0 2 1 are a pair of the second step, and their union has three columns
abbrev pub WorkedPair : Type 0
WorkedPair = IsPair (step_at 3 three_columns [] 1) (2 ∷ 0 ∷ 1 ∷ []) (0 ∷ 2 ∷ 1 ∷ []) × (union_size 3 (2 ∷ 0 ∷ 1 ∷ []) (0 ∷ 2 ∷ 1 ∷ []) ≡ 3)

-- the row x + y - z - t, and then x + z - y - t
abbrev pub first_of_four : Row
first_of_four = (0, pos 1) ∷ (1, pos 1) ∷ (2, negsuc 0) ∷ (3, negsuc 0) ∷ []

abbrev pub second_of_four : Row
second_of_four = (0, pos 1) ∷ (1, negsuc 0) ∷ (2, pos 1) ∷ (3, negsuc 0) ∷ []

-- the second row is positive at 1 0 1 0 and negative at 0 1 0 1, but their union has four columns, and they are no pair
abbrev pub WorkedNoPair : Type 0
WorkedNoPair = IsPositiveAt second_of_four (1 ∷ 0 ∷ 1 ∷ 0 ∷ []) × IsNegativeAt second_of_four (0 ∷ 1 ∷ 0 ∷ 1 ∷ []) ×
    (union_size 4 (1 ∷ 0 ∷ 1 ∷ 0 ∷ []) (0 ∷ 1 ∷ 0 ∷ 1 ∷ []) ≡ 4) ×
    ¬ IsPair (step_at 4 (first_of_four ∷ second_of_four ∷ []) [] 1) (1 ∷ 0 ∷ 1 ∷ 0 ∷ []) (0 ∷ 1 ∷ 0 ∷ 1 ∷ [])

-- the rows x + y - 2 z, 2 x + 2 y - 4 z and x - y, with the rays of each step: of the first two rows one cuts
abbrev pub three_rows : List Row
three_rows = worked_row ∷ ((0, pos 2) ∷ (1, pos 2) ∷ (2, negsuc 3) ∷ []) ∷ ((0, pos 1) ∷ (1, negsuc 0) ∷ []) ∷ []

abbrev pub rays_before : ℕ → List (List ℕ)
rays_before zero = unit_vectors 3
rays_before (suc _) = worked_surfaces

abbrev pub WorkedCuts : Type 0
WorkedCuts = (cuts_before three_rows rays_before 1 ≡ 1) × (cuts_before three_rows rays_before 2 ≡ 1) × (cuts_before three_rows rays_before 3 ≡ 2)

-- of x + y - z - t and p - q the first alone meets the union of 1 0 1 0 0 0 and 0 1 0 1 0 0, which has four columns, so
-- that they are no pair
abbrev pub six_columns : List Row
six_columns = first_of_four ∷ ((4, pos 1) ∷ (5, negsuc 0) ∷ []) ∷ second_of_four ∷ []

abbrev pub WorkedMeeting : Type 0
WorkedMeeting = (meeting_count (take 2 six_columns) (1 ∷ 0 ∷ 1 ∷ 0 ∷ 0 ∷ 0 ∷ []) (0 ∷ 1 ∷ 0 ∷ 1 ∷ 0 ∷ 0 ∷ []) ≡ 1) ×
    (union_size 6 (1 ∷ 0 ∷ 1 ∷ 0 ∷ 0 ∷ 0 ∷ []) (0 ∷ 1 ∷ 0 ∷ 1 ∷ 0 ∷ 0 ∷ []) ≡ 4) ×
    ¬ IsPair (step_at 6 six_columns [] 2) (1 ∷ 0 ∷ 1 ∷ 0 ∷ 0 ∷ 0 ∷ []) (0 ∷ 1 ∷ 0 ∷ 1 ∷ 0 ∷ 0 ∷ [])
