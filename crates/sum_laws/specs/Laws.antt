-- Laws of sums of listed rays.
use Rattle.std.specs.Prelude.{◌≡◌, ℕ, ◌≤◌, List, length, None, ◌↔◌}
use Rattle.std.specs.List.{All, AllPairs, Contains}
use Rattle.cone_definitions.specs.Vectors.{IsNonzero, IsSmaller, IsBefore, multiple}
use Rattle.cone_definitions.specs.Rows.{Row, IsSolution}
use Rattle.cone_definitions.specs.Surfaces.{Clash, IsAdmissible, IsSurfaceList}
use Rattle.sum_definitions.specs.Sums.{Term, State, IsLeastInside, IsSumStep, ReachesState, IsSum, IsLargeStep, HasRays}
use Rattle.sum_definitions.specs.Adding.{AddsUp, add_fault}

-- while the remainder is not 0, the support of a listed ray lies inside its support, and so there is a step
abbrev pub RayInsideRest : Type 0
RayInsideRest = (columns : ℕ) (rows : List Row) (list : List (List ℕ)) (x : List ℕ) → HasRays columns rows list x →
    (limit turns : ℕ) (s : State) → ReachesState limit list x turns s → IsNonzero s.rest → (v : List ℕ) × IsLeastInside list s.rest v

abbrev pub StepsExist : Type 0
StepsExist = (columns : ℕ) (rows : List Row) (list : List (List ℕ)) (x : List ℕ) → HasRays columns rows list x →
    (limit turns : ℕ) (s : State) → ReachesState limit list x turns s → IsNonzero s.rest → (next : State) × IsSumStep list s next

-- each step reduces the support of the remainder
abbrev pub StepsLessen : Type 0
StepsLessen = (columns : ℕ) (rows : List Row) (list : List (List ℕ)) (x : List ℕ) → HasRays columns rows list x →
    (limit turns : ℕ) (s next : State) → ReachesState limit list x turns s → IsSumStep list s next → IsSmaller next.rest s.rest

-- so there are at most as many steps as columns
abbrev pub StepsAtMostColumns : Type 0
StepsAtMostColumns = (columns : ℕ) (rows : List Row) (list : List (List ℕ)) (x : List ℕ) → HasRays columns rows list x →
    (limit turns : ℕ) (s : State) → ReachesState limit list x turns s → turns ≤ columns

-- the solution, taken at least once, is the sum of the terms; each count is at least 1, and the vectors are listed and
-- strictly ascend
pub record IsSumOfRays (list : List (List ℕ)) (limit : ℕ) (x : List ℕ) (times : ℕ) (terms : List Term) : Type 0 where
  pub adds_up : AddsUp limit x times terms
  pub counts : All (λ (term : Term). 1 ≤ term.count) terms
  pub listed : All (λ (term : Term). Contains list term.vector) terms
  pub ascending : AllPairs (λ (term later : Term). IsBefore term.vector later.vector) terms

abbrev pub SumsAreRight : Type 0
SumsAreRight = (columns : ℕ) (rows : List Row) (list : List (List ℕ)) (x : List ℕ) → HasRays columns rows list x →
    (limit times : ℕ) (terms : List Term) → IsSum limit list x times terms → IsSumOfRays list limit x times terms

-- with a limit that is large enough each solution is such a sum
abbrev pub SumsExist : Type 0
SumsExist = (columns : ℕ) (rows : List Row) (list : List (List ℕ)) (x : List ℕ) → HasRays columns rows list x →
    (limit times : ℕ) × (terms : List Term) × IsSumOfRays list limit x times terms

-- the answer for a solution: by how much it is multiplied, and the terms of the sum; or the step and the column at
-- which a number is too large
pub data Answer : Type 0 where
  sum : ℕ → List Term → Answer
  large : ℕ → ℕ → Answer

abbrev pub IsAnswer : ℕ → List (List ℕ) → List ℕ → Answer → Type 0
IsAnswer limit list x (sum times terms) = IsSum limit list x times terms
IsAnswer limit list x (large turn column) = IsLargeStep limit list x turn column

-- there is exactly one answer
abbrev pub SomeAnswer : Type 0
SomeAnswer = (columns : ℕ) (rows : List Row) (list : List (List ℕ)) (x : List ℕ) → HasRays columns rows list x →
    (limit : ℕ) → (answer : Answer) × IsAnswer limit list x answer

abbrev pub OneAnswer : Type 0
OneAnswer = (limit : ℕ) (list : List (List ℕ)) (x : List ℕ) (answer other : Answer) → IsAnswer limit list x answer → IsAnswer limit list x other → answer ≡ other

-- x is a multiple of a listed ray, but not the zero vector
pub record IsMultipleOfRay (list : List (List ℕ)) (x : List ℕ) : Type 0 where
  pub ray : List ℕ
  pub listed : Contains list ray
  pub count : ℕ
  pub some : 1 ≤ count
  pub is_multiple : x ≡ multiple count ray

-- there is one term if and only if x is such a multiple
abbrev pub OneTermIsMultiple : Type 0
OneTermIsMultiple = (columns : ℕ) (rows : List Row) (list : List (List ℕ)) (x : List ℕ) → HasRays columns rows list x →
    (limit times : ℕ) (terms : List Term) → IsSum limit list x times terms → (length terms ≡ 1) ↔ IsMultipleOfRay list x

-- terms of the width of x are found without fault if and only if they add up to it
abbrev pub NoFaultAddsUp : Type 0
NoFaultAddsUp = (limit : ℕ) (x : List ℕ) (times : ℕ) (terms : List Term) → All (λ (term : Term). length term.vector ≡ length x) terms →
    (add_fault limit x times terms ≡ None) ↔ AddsUp limit x times terms

-- so the terms of a sum are found without fault
abbrev pub SumsAreFaultless : Type 0
SumsAreFaultless = (columns : ℕ) (rows : List Row) (list : List (List ℕ)) (x : List ℕ) → HasRays columns rows list x →
    (limit times : ℕ) (terms : List Term) → IsSum limit list x times terms → add_fault limit x times terms ≡ None

-- a surface list has the rays of each admissible solution
abbrev pub SurfacesAreRays : Type 0
SurfacesAreRays = (columns : ℕ) (rows : List Row) (pairs : List Clash) (surfaces : List (List ℕ)) (x : List ℕ) → IsSurfaceList columns rows pairs surfaces →
    IsSolution columns rows x → IsAdmissible pairs x → HasRays columns rows surfaces x
