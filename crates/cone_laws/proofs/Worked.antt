-- A pair with the greatest number of columns that one row allows for a pair, and two rays with one more column.
use Rattle.std.proofs.Common.{◌≡◌, ℕ, zero, suc, ◌+◌, ◌<◌, ◌≤◌, ◌⊎◌, inl, inr, [], ◌∷◌, refl, arith, lit<}
use Rattle.cone_definitions.specs.Vectors.{IsInsideUnion, ray_at}
use Rattle.cone_definitions.specs.Elimination.{step_at}
use Rattle.cone_definitions.specs.WorkedRow.{worked_surfaces, worked_row}
use Rattle.cone_definitions.proofs.Worked.{worked_list}
use Rattle.cone_definitions.proofs.Unordered.{without_order, pair_from_places}
use Rattle.cone_laws.specs.Unions.{union_size}
use Rattle.cone_laws.specs.WorkedUnion.{three_columns, WorkedPair, first_of_four, second_of_four, WorkedNoPair, six_columns, WorkedMeeting}
use Rattle.cone_laws.proofs.Meeting.{meeting_pair_bound}
use Rattle.cone_laws.proofs.Pairs.{large_no_pair}

-- the list has the two rays alone
two_places : (k : ℕ) → k < 2 → IsInsideUnion (ray_at worked_surfaces k) (ray_at worked_surfaces 1) (ray_at worked_surfaces 0) → (k ≡ 1) ⊎ (k ≡ 0)
two_places zero l inside = inr refl
two_places (suc zero) l inside = inl refl
two_places (suc (suc k)) l inside = absurd (omega arith)

pub worked_pair : WorkedPair
worked_pair = (
  pair_from_places (step_at 3 three_columns [] 1) worked_surfaces (without_order 3 (worked_row ∷ []) [] worked_surfaces worked_list) 1 0 (lit< tt) (lit< tt) (lit< tt) (lit< tt) (λ k d h. absurd (omega arith)) two_places,
  refl,
)

pub worked_no_pair : WorkedNoPair
worked_no_pair = (
  lit< tt,
  lit< tt,
  refl,
  large_no_pair 4 (first_of_four ∷ second_of_four ∷ []) [] 1 (1 ∷ 0 ∷ 1 ∷ 0 ∷ []) (0 ∷ 1 ∷ 0 ∷ 1 ∷ []) (lit< tt),
)

pub worked_meeting : WorkedMeeting
worked_meeting = (
  refl,
  refl,
  λ p. let l : union_size 6 (1 ∷ 0 ∷ 1 ∷ 0 ∷ 0 ∷ 0 ∷ []) (0 ∷ 1 ∷ 0 ∷ 1 ∷ 0 ∷ 0 ∷ []) ≤ 1 + 2 = meeting_pair_bound (step_at 6 six_columns [] 2) _ _ p in absurd (omega arith),
)
