-- Walks that end, and walks that return to their start.
use Rattle.std.proofs.Common.{◌≡◌, ◌≢◌, ℕ, suc, ◌+◌, ◌-◌, ◌<◌, ◌≤◌, inl, inr, List, length, slice_index, Option, Some, None, sym, ap, ◌∙◌, arith}
use Rattle.std.proofs.lemmas.Bool.{cases_order, cases_lt}
use Rattle.table_walk_laws.specs.Walks.{after, Reaches, IsInjectiveBelow, IsSource, AlwaysSteps, IsOrbit, last_of}
use Rattle.table_walk_laws.specs.Laws.{HasOrbit, HasReturn, HasEnd}
use Rattle.basic_lemmas.proofs.Lists.{one_place}
use Rattle.table_walk_laws.proofs.Places.{place_of}
use Rattle.table_walk_laws.proofs.Steps.{after_below, after_both, after_end, meet}
use Rattle.table_walk_laws.proofs.OrbitLemmas.{after_walk, at_length, orbit_exists, orbit_holds_reached}

-- the last number of an orbit is reached by one step fewer than its length
last_there : (step : ℕ → Option ℕ) (start : ℕ) (places : List ℕ) → IsOrbit step start places → after step start (length places - 1) ≡ Some (last_of places)
last_there step start places o = let one : 1 ≤ length places = o.walk.some in after_walk step start places o.walk (length places - 1) (omega arith)

-- if each number that the start reaches has a next one, the orbit returns to its start
pub going_on_has_cycle : (step : ℕ → Option ℕ) (start : ℕ) → AlwaysSteps step start → (places : List ℕ) → IsOrbit step start places → step (last_of places) ≡ Some start
going_on_has_cycle step start on places o = elim o.last [
  | inl back ↦ back
  | inr none ↦ absurd (on (last_of places) (length places - 1, last_there step start places o) none)
]

module _ (n : ℕ) (step : ℕ → Option ℕ) (start : ℕ) (h : IsInjectiveBelow n step) where
  pub source_has_chain : IsSource n step start → (places : List ℕ) → IsOrbit step start places → step (last_of places) ≡ None
  source_has_chain source places o = elim o.last [
    | inl back ↦ absurd (source.none_before (last_of places)
        (after_below step n h start (length places - 1) (last_of places) source.below (last_there step start places o)) back)
    | inr none ↦ none
  ]

  pub chain_ends : IsSource n step start → HasEnd n step start
  chain_ends source = let f = orbit_exists step start n h source.below in
      let one : 1 ≤ length f.places = f.orbit.walk.some in let limited : length f.places ≤ n = f.size in record {
        end = last_of f.places;
        count = length f.places - 1;
        limited = omega arith;
        there = last_there step start f.places f.orbit;
        nowhere = source_has_chain source f.places f.orbit;
      }

  pub never_twice : IsSource n step start → (i j x : ℕ) → after step start i ≡ Some x → after step start j ≡ Some x → i ≡ j
  never_twice source i j x e f = (meet step n h start start i j x source source e f).1

  module _ (below : start < n) where
    returns_after : AlwaysSteps step start → (places : List ℕ) → IsOrbit step start places → after step start (length places) ≡ Some start
    returns_after on places o = at_length step start places o.walk ∙ going_on_has_cycle step start on places o

    pub comes_back : AlwaysSteps step start → HasReturn n step start
    comes_back on = let f = orbit_exists step start n h below in record {
      count = length f.places;
      some = f.orbit.walk.some;
      limited = f.size;
      there = returns_after on f.places f.orbit;
    }

    pub reaches_back : AlwaysSteps step start → (x : ℕ) → Reaches step start x → Reaches step x start
    reaches_back on x r = go (orbit_exists step start n h below)
      where
        go : HasOrbit n step start → Reaches step x start
        go f = let p = place_of f.places x ((orbit_holds_reached step start f.places f.orbit x).1 r) in
            let l : p.0 < length f.places = p.1 in
            let e : after step start p.0 ≡ Some x = after_walk step start f.places f.orbit.walk p.0 p.1 ∙ ap Some p.2 in
            let z : (length f.places - p.0) + p.0 ≡ length f.places = omega arith in
            (length f.places - p.0, sym (after_both step start p.0 (length f.places - p.0) x e) ∙ ap (after step start) z ∙ returns_after on f.places f.orbit)

    pub first_return : (k : ℕ) → after step start (suc k) ≡ Some start → ((i : ℕ) → i < k → after step start (suc i) ≢ Some start) →
        (places : List ℕ) → IsOrbit step start places → length places ≡ suc k
    first_return k back first places o = elim (cases_lt (suc k) (length places)) [
      | inl inside ↦ absurd (let e : Some (slice_index places (suc k)) ≡ Some start = sym (after_walk step start places o.walk (suc k) inside) ∙ back in
          let s : slice_index places (suc k) ≡ slice_index places 0 = let t : slice_index places (suc k) ≡ start = cc in t ∙ sym o.walk.first in
          let z : suc k ≡ 0 = one_place places o.walk.distinct (suc k) 0 0 inside o.walk.some s in omega arith)
      | inr beyond ↦ elim o.last [
        | inr none ↦ absurd (let one : 1 ≤ length places = o.walk.some in
            let e : None ≡ Some start = sym (after_end step start (length places - 1) (suc k) (last_of places) (last_there step start places o) none (omega arith)) ∙ back in cc)
        | inl again ↦ elim (cases_order (length places) (suc k)) [
          | inl e ↦ e
          | inr (inl less) ↦ absurd (let one : 1 ≤ length places = o.walk.some in let z : suc (length places - 1) ≡ length places = omega arith in
              first (length places - 1) (omega arith) (ap (after step start) z ∙ at_length step start places o.walk ∙ again))
          | inr (inr more) ↦ absurd (omega arith)
        ]
      ]
    ]

pub sources_apart : (n : ℕ) (step : ℕ → Option ℕ) (a b : ℕ) → IsInjectiveBelow n step → IsSource n step a → IsSource n step b →
    (x : ℕ) → Reaches step a x → Reaches step b x → a ≡ b
sources_apart n step a b h p q x r s = (meet step n h a b r.0 s.0 x p q r.1 s.1).0
