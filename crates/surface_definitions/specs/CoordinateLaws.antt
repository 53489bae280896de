-- Laws of clashing pairs, and of the verdict on a vector.
use Rattle.std.specs.Prelude.{◌≡◌, ℕ, ◌<◌, List, [], length, Err}
use Rattle.std.specs.List.{slice_index_or}
use Rattle.cone_definitions.specs.Rows.{Row as EquationRow, IsZeroAt}
use Rattle.cone_definitions.specs.Elimination.{HasLargePart, HasPartsWithin}
use Rattle.cone_definitions.specs.HoldingRows.{HoldWithinBefore}
use Rattle.cone_definitions.specs.Surfaces.{PairsAreOfTwoColumns}
use Rattle.surface_definitions.specs.declared.Coords.{Coords}
use Rattle.surface_definitions.specs.declared.VectorFault.TheVariants.{Large, NotSolution}
use Rattle.surface_definitions.specs.Coordinates.{clash_list}
use Rattle.surface_definitions.specs.Verdict.{verdict}

-- each clashing pair is of two different columns
abbrev pub ClashingColumnsDiffer : Type 0
ClashingColumnsDiffer = (coords : Coords) (n : ℕ) → PairsAreOfTwoColumns (clash_list coords n)

-- Theorem: if the first i equations hold, and the next one has a part that exceeds the limit, the verdict names it
abbrev pub FirstLargeIsAnswered : Type 0
FirstLargeIsAnswered =
    (max n : ℕ) (equations : List EquationRow) (pairs : List (ℕ × ℕ)) (x : List ℕ) (i : ℕ) → length x ≡ n → i < length equations → HoldWithinBefore max equations x i
    → HasLargePart max (slice_index_or equations i []) x → verdict max n equations pairs x ≡ Err (Large i)

-- and where it has none, and is not 0
abbrev pub FirstFailureIsAnswered : Type 0
FirstFailureIsAnswered =
    (max n : ℕ) (equations : List EquationRow) (pairs : List (ℕ × ℕ)) (x : List ℕ) (i : ℕ) → length x ≡ n → i < length equations → HoldWithinBefore max equations x i
    → HasPartsWithin max (slice_index_or equations i []) x → ¬ IsZeroAt (slice_index_or equations i []) x → verdict max n equations pairs x ≡ Err (NotSolution i)
