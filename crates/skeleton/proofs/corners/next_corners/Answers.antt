use Rattle.std.proofs.Common.{◌≡◌, ◌≤◌, ◌<◌, ◌*◌, ℕ, List, Option, inl, inr, length, sym, ◌∙◌, arith}
use Rattle.std.proofs.lemmas.Bool.{cases_lt}
use Rattle.table_definitions.specs.Table.{Row}
use Rattle.table_walk_laws.specs.Walks.{step_of}
use Rattle.skeleton_class_laws.specs.Rounds.{next_corner}
use Rattle.skeleton_class_laws.proofs.RoundLemmas.{none_past, no_next, table_injective}
use Rattle.skeleton.proofs.corners.next_corners.Goals as goal

-- corners beyond the last one have no next corner
all_steps : (rows : List Row) (next : List (Option ℕ)) (place : ℕ) → length next ≡ place → 24 * length rows ≤ place → ((k : ℕ) → k < place → step_of next k ≡ next_corner rows k)
    → (k : ℕ) → step_of next k ≡ next_corner rows k
all_steps rows next place size all steps k = elim (cases_lt k place) [
  | inl less ↦ steps k less
  | inr more ↦
      let exceeded : length next ≤ k = omega arith in
      let end : 24 * length rows ≤ k = omega arith in
      none_past next k exceeded ∙ sym (no_next rows k end)
]

pub invariant_of-result-clause-injective : goal.invariant_of-result-clause-injective
invariant_of-result-clause-injective c =
    let all : 24 * length c.args.table.now ≤ c.loop-place.place = omega (arith, c.len-tets.ensures.value) in
    table_injective c.args.table.now c.loop-place.next.items c.len-tets.ensures.is_table (omega (arith, c.loop-place.invariant.size, c.len-tets.ensures.value))
    (all_steps c.args.table.now c.loop-place.next.items c.loop-place.place c.loop-place.invariant.size all c.loop-place.invariant.steps)

pub returns-clause-steps : goal.returns-clause-steps
returns-clause-steps c =
    let all : 24 * length c.args.table.now ≤ c.loop-place.place = omega (arith, c.len-tets.ensures.value) in
    all_steps c.args.table.now c.loop-place.next.items c.loop-place.place c.loop-place.invariant.size all c.loop-place.invariant.steps
