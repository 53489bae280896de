-- Each solution is a sum of listed rays, with a limit that is large enough.
use Rattle.std.proofs.Common.{◌≡◌, ℕ, zero, suc, ◌+◌, ◌*◌, ◌<◌, ◌≤◌, inl, inr, List, [], ◌∷◌, slice_index, ◌∙◌, arith}
use Rattle.cone_definitions.specs.Rows.{Row}
use Rattle.cone_definitions.specs.Vectors.{IsSmaller}
use Rattle.cone_definitions.proofs.Entries.{zero_or_nonzero, support_size, size-smaller}
use Rattle.cone_definitions.proofs.Rays.{ray_inside}
use Rattle.sum_definitions.specs.Sums.{Term, State, first_state, taken_out, HasRays}
use Rattle.sum_laws.specs.Laws.{IsSumOfRays}
use Rattle.sum_laws.proofs.Fractions.{some_least, some_fraction}
use Rattle.sum_laws.proofs.Turns.{IsReached, first_reached, next_reached, turn_takes_out, listed_ray, smaller}

-- a number that no entry passes
large_enough : (times : ℕ) (x : List ℕ) → (limit : ℕ) × ((j : ℕ) → times * slice_index x j ≤ limit)
large_enough times [] = (0, λ j. omega arith)
large_enough times (a ∷ x) = let rest = large_enough times x in (times * a + rest.0, each rest.0 rest.1)
  where
    each : (limit : ℕ) → ((j : ℕ) → times * slice_index x j ≤ limit) → (j : ℕ) → times * slice_index (a ∷ x) j ≤ times * a + limit
    each limit h zero = omega arith
    each limit h (suc j) = let l : times * slice_index x j ≤ limit = h j in omega arith

module _ (columns : ℕ) (rows : List Row) (list : List (List ℕ)) (x : List ℕ) (h : HasRays columns rows list x) where
  -- turns go on until nothing is left
  last_from : (fuel : ℕ) (s : State) → IsReached columns rows list x s → support_size columns s.rest < fuel → (last : State) × IsReached columns rows list x last × ((j : ℕ) → slice_index last.rest j ≡ 0)
  last_from zero s r l = absurd (omega arith)
  last_from (suc fuel) s r l = elim (zero_or_nonzero s.rest) [
    | inl nothing ↦ (s, r, nothing)
    | inr left ↦ (let ray = ray_inside columns rows s.rest r.solution left in
        let v = some_least list s.rest ray.0 h.ascending (h.complete ray.0 ray.1 (λ j z. ray.2 j (r.inside j z))) ray.2 in
        let f = some_fraction s.rest v.0 (listed_ray columns rows list x h v.0 v.1.listed).extreme.nonzero in
        let less : IsSmaller (taken_out s f.0 f.1 v.0).rest s.rest = smaller columns s.rest v.0 f.0 f.1 (turn_takes_out columns rows list x h s r v.0 f.0 f.1 v.1 f.2) in
        last_from fuel (taken_out s f.0 f.1 v.0) (next_reached columns rows list x h s r v.0 f.0 f.1 v.1 f.2) (let d = size-smaller columns (taken_out s f.0 f.1 v.0).rest s.rest r.solution.width less in omega arith))
  ]

  pub some_sum : (limit times : ℕ) × (terms : List Term) × IsSumOfRays list limit x times terms
  some_sum =
      let last = last_from (suc (support_size columns x)) (first_state x) (first_reached columns rows list x h) (omega arith) in
      let r : IsReached columns rows list x last.0 = last.1 in
      let limit = large_enough last.0.times x in (
        limit.0,
        last.0.times,
        last.0.terms,
        record {
          adds_up = record { some = r.some; within = limit.1; equal = λ j. r.sums j ∙ (let z : slice_index last.0.rest j ≡ 0 = last.2 j in omega arith) };
          counts = r.counts;
          listed = r.listed;
          ascending = r.ascending;
        },
      )
