-- Sums small enough to take by hand.
use Rattle.std.specs.Prelude.{◌≡◌, ℕ, List, [], ◌∷◌, Some, None}
use Rattle.cone_definitions.specs.WorkedRow.{worked_row, worked_surfaces, y_surface, x_surface, one_each}
use Rattle.sum_definitions.specs.Sums.{Term, HasRays}
use Rattle.sum_definitions.specs.Adding.{add_fault}
use Rattle.sum_definitions.specs.declared.AddFault.TheVariants.{ZeroTimes, Large, NotEqual}
use Rattle.sum_laws.specs.Laws.{IsAnswer, sum, large}

abbrev pub term : ℕ → List ℕ → Term
term count vector = record { count = count; vector = vector }

-- the surfaces of the standard sphere, and a solution
abbrev pub torus : List ℕ
torus = 1 ∷ 1 ∷ 0 ∷ 0 ∷ 1 ∷ 0 ∷ 0 ∷ []

abbrev pub link : List ℕ
link = 1 ∷ 1 ∷ 1 ∷ 1 ∷ 0 ∷ 0 ∷ 0 ∷ []

abbrev pub both : List ℕ
both = 3 ∷ 3 ∷ 1 ∷ 1 ∷ 2 ∷ 0 ∷ 0 ∷ []

abbrev pub sphere_surfaces : List (List ℕ)
sphere_surfaces = torus ∷ link ∷ []

-- the surfaces of x + y - 2 z are the rays of 1 1 1; twice it is 0 2 1 and 2 0 1, which takes a limit of 2; 3 3 1 1 2 0
-- 0 is two of one surface and one of the other; and nothing is taken of no columns
pub record WorkedSums : Type 0 where
  pub rays : HasRays 3 (worked_row ∷ []) worked_surfaces one_each
  pub halves : IsAnswer 2 worked_surfaces one_each (sum 2 (term 1 y_surface ∷ term 1 x_surface ∷ []))
  pub too_large : IsAnswer 1 worked_surfaces one_each (large 0 0)
  pub whole : IsAnswer 3 sphere_surfaces both (sum 1 (term 2 torus ∷ term 1 link ∷ []))
  pub nothing : IsAnswer 1 [] [] (sum 1 [])

-- the terms add up to 3 3 1 1 2 0 0, but not to twice it, nor to none of it; and its first entry exceeds a limit of 2
pub record WorkedFaults : Type 0 where
  pub right : add_fault 3 both 1 (term 2 torus ∷ term 1 link ∷ []) ≡ None
  pub twice : add_fault 6 both 2 (term 2 torus ∷ term 1 link ∷ []) ≡ Some (NotEqual 0)
  pub never : add_fault 6 both 0 (term 2 torus ∷ term 1 link ∷ []) ≡ Some ZeroTimes
  pub passed : add_fault 2 both 1 (term 2 torus ∷ term 1 link ∷ []) ≡ Some (Large 0)
