-- The lift of a quad vector, or why none is printed.
use Rattle.std.specs.Prelude.{ℕ, ◌*◌, ◌<◌, ◌≤◌, List, Result, Ok, Err, sum}
use Rattle.surface_definitions.specs.Lift.{IsLiftAt, IsLift}
use Rattle.skeleton_definitions.specs.Skeleton.{Skeleton}
use Rattle.surface_vector_definitions.specs.declared.LiftFault.{LiftFault}
use Rattle.surface_vector_definitions.specs.declared.LiftFault.TheVariants.{Large, NoLift}

-- there is a lift at vertex class c
abbrev pub HasLiftAt : Skeleton → List ℕ → ℕ → Type 0
HasLiftAt s xs c = (ys : List ℕ) × IsLiftAt s.rows s.vertices.classes xs c ys

-- c is the least vertex class with no lift
pub record IsLeastWithoutLift (s : Skeleton) (xs : List ℕ) (c : ℕ) : Type 0 where
  pub in_range : c < s.vertices.count
  pub none : HasLiftAt s xs c → ⊥
  pub before : (d : ℕ) → d < c → HasLiftAt s xs d

-- the answer for a quad vector: large if four times the sum of its entries exceeds max, otherwise the least class with
-- no lift, otherwise the lift
abbrev pub IsLiftAnswer : ℕ → Skeleton → List ℕ → Result (List ℕ) LiftFault → Type 0
IsLiftAnswer max s xs (Ok ys) = (4 * sum xs ≤ max) × IsLift s.rows s.vertices.classes s.vertices.count xs ys
IsLiftAnswer max s xs (Err Large) = max < 4 * sum xs
IsLiftAnswer max s xs (Err (NoLift c)) = (4 * sum xs ≤ max) × IsLeastWithoutLift s xs c
