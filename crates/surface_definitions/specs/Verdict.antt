-- The verdict on a vector.
use Rattle.std.specs.Prelude.{ℕ, ◌+◌, Bool, ◌&&◌, ◌||◌, List, [], ◌∷◌, ◌++◌, length, find, Option, Some, None, Result, Ok, Err, ◌==◌, nat_lt, slice_index, if◌then◌else◌, codes, decimal}
use Rattle.cone_definitions.specs.Rows.{Row as EquationRow, plus_part, minus_part}
use Rattle.surface_definitions.specs.declared.VectorFault.{VectorFault}
use Rattle.surface_definitions.specs.declared.VectorFault.TheVariants.{Length, Large, NotSolution, Clash}

-- whether both columns of a pair are nonzero
abbrev pub both_nonzero : List ℕ → ℕ × ℕ → Bool
both_nonzero xs p = nat_lt 0 (slice_index xs p.0) && nat_lt 0 (slice_index xs p.1)

-- the verdict on a vector: it is accepted, or why not
abbrev pub Verdict : Type 0
Verdict = Result (Unit {0}) VectorFault

abbrev pub solution : Verdict
solution = Ok tt

-- what is wrong at row i
abbrev pub row_fault : ℕ → ℕ → EquationRow → List ℕ → Option VectorFault
row_fault max i row xs =
    if nat_lt max (plus_part row xs) || nat_lt max (minus_part row xs) then Some (Large i)
    else (if plus_part row xs == minus_part row xs then None else Some (NotSolution i))

abbrev pub or_else : Option VectorFault → Verdict → Verdict
or_else None v = v
or_else (Some fault) v = Err fault

-- what is wrong at the first of the rows, numbered from i, at which a part exceeds max or the row is not 0; else v
abbrev pub rows_verdict : ℕ → ℕ → List EquationRow → List ℕ → Verdict → Verdict
rows_verdict max i [] xs v = v
rows_verdict max i (row ∷ rows) xs v = or_else (row_fault max i row xs) (rows_verdict max (i + 1) rows xs v)

-- the first pair that is nonzero in both places, or else a solution
abbrev pub clash_verdict : Option (ℕ × ℕ) → Verdict
clash_verdict None = solution
clash_verdict (Some p) = Err (Clash p.0 p.1)

-- the verdict on a vector under rows of n columns, none of whose parts may exceed max, and clashing pairs
unfoldable pub verdict : ℕ → ℕ → List EquationRow → List (ℕ × ℕ) → List ℕ → Verdict
verdict max n rows pairs xs =
    if length xs == n then rows_verdict max 0 rows xs (clash_verdict (find (both_nonzero xs) pairs)) else Err (Length (length xs))

-- the line that is written for a verdict
unfoldable pub verdict_text : Verdict → List ℕ
verdict_text (Ok accepted) = codes "solution" ++ 10 ∷ []
verdict_text (Err (Length n)) = codes "length " ++ decimal n ++ 10 ∷ []
verdict_text (Err (Large i)) = codes "large " ++ decimal i ++ 10 ∷ []
verdict_text (Err (NotSolution i)) = codes "fails " ++ decimal i ++ 10 ∷ []
verdict_text (Err (Clash a b)) = codes "clash " ++ decimal a ++ codes " " ++ decimal b ++ 10 ∷ []
