-- Lists of neighbours, and the place that a list of choices of neighbours reaches.
use Rattle.std.specs.Prelude.{◌≡◌, ℕ, ◌<◌, List, [], ◌∷◌, length, Option, Some, option_and_then}
use Rattle.std.specs.List.{slice_index_or}

-- the four entries of place i
abbrev pub row_at : (ℕ → ℕ → Option ℕ) → ℕ → List (Option ℕ)
row_at next i = next i 0 ∷ next i 1 ∷ next i 2 ∷ next i 3 ∷ []

-- one row for each of n places
pub record AreNeighbours (n : ℕ) (next : ℕ → ℕ → Option ℕ) (table : List (List (Option ℕ))) : Type 0 where
  pub one_each : length table ≡ n
  pub entries : (i : ℕ) → i < n → slice_index_or table i [] ≡ row_at next i

-- where the choices lead
abbrev pub led : (ℕ → ℕ → Option ℕ) → ℕ → List ℕ → Option ℕ
led next i [] = Some i
led next i (f ∷ fs) = option_and_then (λ j. led next j fs) (next i f)

abbrev pub IsLed : (ℕ → ℕ → Option ℕ) → ℕ → ℕ → Type 0
IsLed next i j = (choices : List ℕ) × (led next i choices ≡ Some j)

-- each step from an index below n reaches another, from which a step reaches the first
abbrev pub IsReversible : ℕ → (ℕ → ℕ → Option ℕ) → Type 0
IsReversible n next = (i f j : ℕ) → i < n → f < 4 → next i f ≡ Some j → (j < n) × ((g : ℕ) × (g < 4) × (next j g ≡ Some i))
