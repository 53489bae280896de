-- Turns lead from a solution to one answer.
use Rattle.std.proofs.Common.{◌≡◌, ℕ, zero, suc, ◌+◌, ◌*◌, ◌<◌, ◌≤◌, ◌⊎◌, inl, inr, List, length, slice_index, subst, sym, ap, ap₂, refl, ◌∙◌, arith}
use Rattle.std.proofs.lemmas.Bool.{cases_lt, cases_eq, cases_order}
use Rattle.cone_definitions.specs.Vectors.{IsNonzero, IsSmaller}
use Rattle.cone_definitions.specs.Rows.{Row}
use Rattle.cone_definitions.proofs.Below.{all_or_first}
use Rattle.cone_definitions.proofs.Entries.{zero_or_nonzero, entry_past, support_size, size_few, size-smaller}
use Rattle.cone_definitions.proofs.Rays.{ray_inside}
use Rattle.sum_definitions.specs.Sums.{Term, State, first_state, IsLeastInside, IsLeastFraction, taken_out, IsSumStep, IsWithinTimes, ReachesState, IsSum, IsLargeStep, HasRays}
use Rattle.sum_laws.specs.Laws.{IsSumOfRays, Answer, sum, large, IsAnswer}
use Rattle.sum_laws.proofs.Fractions.{one_least, one_fraction, some_least, some_fraction}
use Rattle.sum_laws.proofs.Turns.{led_reached, turn_smaller, listed_ray}

-- ---- one run

pub turn_is_one : (list : List (List ℕ)) (s one other : State) → IsSumStep list s one → IsSumStep list s other → one ≡ other
turn_is_one list s one other a b = a.after ∙ same ∙ sym b.after
  where
    vectors : b.vector ≡ a.vector
    vectors = one_least list s.rest b.vector a.vector b.least_inside a.least_inside

    fractions : (b.p ≡ a.p) × (b.q ≡ a.q)
    fractions = one_fraction s.rest a.vector b.p b.q a.p a.q (subst (λ v. IsLeastFraction s.rest v b.p b.q) vectors b.fraction) a.fraction

    same : taken_out s a.p a.q a.vector ≡ taken_out s b.p b.q b.vector
    same = ap (λ v. taken_out s a.p a.q v) (sym vectors) ∙ ap₂ (λ p q. taken_out s p q b.vector) (sym fractions.0) (sym fractions.1)

module _ (limit : ℕ) (list : List (List ℕ)) (x : List ℕ) where
  pub state_is_one : (turns : ℕ) (s other : State) → ReachesState limit list x turns s → ReachesState limit list x turns other → s ≡ other
  state_is_one zero s other a b = a ∙ sym b
  state_is_one (suc turns) s other a b = turn_is_one list b.0 s other (subst (λ before. IsSumStep list before s) (state_is_one turns a.0 b.0 a.1 b.1) a.2) b.2

  -- the state after fewer turns, and the turn from it
  pub record Passes (turns : ℕ) : Type 0 where
    pub before : State
    pub next : State
    pub led : ReachesState limit list x turns before
    pub turn : IsSumStep list before next
    pub within : IsWithinTimes limit x next.times

  pub passes : (fewer turns : ℕ) (s : State) → fewer < turns → ReachesState limit list x turns s → Passes fewer
  passes fewer zero s l t = absurd (omega arith)
  passes fewer (suc turns) s l t = elim (cases_eq fewer turns) [
    | inl e ↦ record { before = t.0; next = s; led = subst (λ n. ReachesState limit list x n t.0) (sym e) t.1; turn = t.2; within = t.3 }
    | inr ne ↦ passes fewer turns t.0 (omega arith) t.1
  ]

  -- where nothing is left, no turn follows
  nothing_after : (turns more : ℕ) (s last : State) → ReachesState limit list x turns s → ((column : ℕ) → slice_index s.rest column ≡ 0) → ReachesState limit list x more last → more ≤ turns
  nothing_after turns more s last led nothing t = elim (cases_lt turns more) [
    | inr le ↦ le
    | inl less ↦ let p = passes turns more last less t in let e : p.before ≡ s = state_is_one turns p.before s p.led led in
        let left : IsNonzero p.before.rest = p.turn.left in absurd ((subst (λ (b : State). IsNonzero b.rest) e left).1 (nothing (subst (λ (b : State). IsNonzero b.rest) e left).0))
  ]

  one_sum : (times times' : ℕ) (terms terms' : List Term) → IsSum limit list x times terms → IsSum limit list x times' terms' → sum times terms ≡ sum times' terms'
  one_sum times times' terms terms' a b = ap (λ (s : State). sum s.times s.terms) (state_is_one b.turns last last' (subst (λ n. ReachesState limit list x n last) same a.led) b.led)
    where
      last : State
      last = record { times = times; terms = terms; rest = a.rest }

      last' : State
      last' = record { times = times'; terms = terms'; rest = b.rest }

      same : a.turns ≡ b.turns
      same = let one : a.turns ≤ b.turns = nothing_after b.turns a.turns last' last b.led b.nothing_left a.led in
          let two : b.turns ≤ a.turns = nothing_after a.turns b.turns last last' a.led a.nothing_left b.led in omega arith

  -- a turn at which an entry exceeds the limit is no turn of a run
  large_is_last : (turn column turns : ℕ) (s : State) → IsLargeStep limit list x turn column → ReachesState limit list x turns s → turns ≤ turn
  large_is_last turn column turns s l t = elim (cases_lt turn turns) [
    | inr le ↦ le
    | inl less ↦ let p = passes turn turns s less t in let e : p.before ≡ l.before = state_is_one turn p.before l.before p.led l.led in
        let f : p.next ≡ l.next = turn_is_one list l.before p.next l.next (subst (λ b. IsSumStep list b p.next) e p.turn) l.turns in
        let a : l.next.times * slice_index x column ≤ limit = subst (λ (n : State). n.times * slice_index x column ≤ limit) f (p.within column) in
        let b : limit < l.next.times * slice_index x column = l.large in absurd (omega arith)
  ]

  not_both : (times : ℕ) (terms : List Term) (turn column : ℕ) → IsSum limit list x times terms → IsLargeStep limit list x turn column → ⊥
  not_both times terms turn column a l = let one : turn ≤ a.turns = nothing_after a.turns turn last l.before a.led a.nothing_left l.led in
      let two : a.turns ≤ turn = large_is_last turn column a.turns last l a.led in
      let same : turn ≡ a.turns = omega arith in
      let e = state_is_one a.turns l.before last (subst (λ n. ReachesState limit list x n l.before) same l.led) a.led in
      let left : IsNonzero l.before.rest = l.turns.left in
      let left' = subst (λ (b : State). IsNonzero b.rest) e left in left'.1 (a.nothing_left left'.0)
    where
      last : State
      last = record { times = times; terms = terms; rest = a.rest }

  one_large : (turn column turn' column' : ℕ) → IsLargeStep limit list x turn column → IsLargeStep limit list x turn' column' → large turn column ≡ large turn' column'
  one_large turn column turn' column' a b = ap₂ large same columns
    where
      same : turn ≡ turn'
      same = let one : turn ≤ turn' = large_is_last turn' column' turn a.before b a.led in
          let two : turn' ≤ turn = large_is_last turn column turn' b.before a b.led in omega arith

      before : a.before ≡ b.before
      before = state_is_one turn' a.before b.before (subst (λ n. ReachesState limit list x n a.before) same a.led) b.led

      next : a.next ≡ b.next
      next = turn_is_one list b.before a.next b.next (subst (λ s. IsSumStep list s a.next) before a.turns) b.turns

      times : a.next.times ≡ b.next.times
      times = ap (λ (s : State). s.times) next

      columns : column ≡ column'
      columns = elim (cases_order column column') [
        | inl e ↦ e
        | inr (inl less) ↦ let l : b.next.times * slice_index x column ≤ limit = b.first column less in
            let m : limit < b.next.times * slice_index x column = subst (λ n. limit < n * slice_index x column) times a.large in absurd (omega arith)
        | inr (inr more) ↦ let l : b.next.times * slice_index x column' ≤ limit = subst (λ n. n * slice_index x column' ≤ limit) times (a.first column' more) in
            let m : limit < b.next.times * slice_index x column' = b.large in absurd (omega arith)
      ]

  pub one_answer : (answer other : Answer) → IsAnswer limit list x answer → IsAnswer limit list x other → answer ≡ other
  one_answer (sum times terms) (sum times' terms') a b = one_sum times times' terms terms' a b
  one_answer (sum times terms) (large turn column) a b = absurd (not_both times terms turn column a b)
  one_answer (large turn column) (sum times terms) a b = absurd (not_both times terms turn column b a)
  one_answer (large turn column) (large turn' column') a b = one_large turn column turn' column' a b

-- ---- some run

module _ (columns : ℕ) (rows : List Row) (list : List (List ℕ)) (x : List ℕ) (h : HasRays columns rows list x) (limit : ℕ) where
  pub ray_inside_rest : (turns : ℕ) (s : State) → ReachesState limit list x turns s → IsNonzero s.rest → (v : List ℕ) × IsLeastInside list s.rest v
  ray_inside_rest turns s led left = let r = led_reached columns rows list x h limit turns s led in
      let v = ray_inside columns rows s.rest r.solution left in
      some_least list s.rest v.0 h.ascending (h.complete v.0 v.1 (λ j z. v.2 j (r.inside j z))) v.2

  pub turn_goes_on : (turns : ℕ) (s : State) → ReachesState limit list x turns s → IsNonzero s.rest → (next : State) × IsSumStep list s next
  turn_goes_on turns s led left = let v = ray_inside_rest turns s led left in
      let f = some_fraction s.rest v.0 (listed_ray columns rows list x h v.0 v.1.listed).extreme.nonzero in
      (taken_out s f.0 f.1 v.0, record { left = left; vector = v.0; p = f.0; q = f.1; least_inside = v.1; fraction = f.2; after = refl })

  pub turn_lessens : (turns : ℕ) (s next : State) → ReachesState limit list x turns s → IsSumStep list s next → IsSmaller next.rest s.rest
  turn_lessens turns s next led t = turn_smaller columns rows list x h s next (led_reached columns rows list x h limit turns s led) t

  sizes : (turns : ℕ) (s : State) → ReachesState limit list x turns s → turns + support_size columns s.rest ≤ columns
  sizes zero s led = let l : support_size columns s.rest ≤ columns = size_few columns s.rest in omega arith
  sizes (suc turns) s t = let i : turns + support_size columns t.0.rest ≤ columns = sizes turns t.0 t.1 in
      let l : support_size columns s.rest < support_size columns t.0.rest = size-smaller columns s.rest t.0.rest
      (led_reached columns rows list x h limit turns t.0 t.1).solution.width (turn_lessens turns t.0 s t.1 t.2) in omega arith

  pub bounded_steps : (turns : ℕ) (s : State) → ReachesState limit list x turns s → turns ≤ columns
  bounded_steps turns s led = let l : turns + support_size columns s.rest ≤ columns = sizes turns s led in omega arith

  within_or_first : (times : ℕ) → IsWithinTimes limit x times ⊎ ((column : ℕ) × ((earlier : ℕ) → earlier < column → times * slice_index x earlier ≤ limit) × (limit < times * slice_index x column))
  within_or_first times = elim (all_or_first (λ j. times * slice_index x j ≤ limit) (λ j. limit < times * slice_index x j) decide (length x)) [
    | inl all ↦ inl (λ j. elim (cases_lt j (length x)) [
      | inl l ↦ all j l
      | inr exceeded ↦ let z : slice_index x j ≡ 0 = entry_past x (length x) j refl exceeded in rw z (omega arith)
    ])
    | inr one ↦ inr (one.0, one.2, one.3)
  ]
    where
      decide : (j : ℕ) → (times * slice_index x j ≤ limit) ⊎ (limit < times * slice_index x j)
      decide j = elim (cases_lt limit (times * slice_index x j)) [ inl l ↦ inr l | inr l ↦ inl l ]

  answer_from : (fuel turns : ℕ) (s : State) → ReachesState limit list x turns s → columns < fuel + turns → (answer : Answer) × IsAnswer limit list x answer
  answer_from zero turns s led l = let limited : turns ≤ columns = bounded_steps turns s led in absurd (omega arith)
  answer_from (suc fuel) turns s led l = elim (zero_or_nonzero s.rest) [
    | inl nothing ↦ (sum s.times s.terms, record { turns = turns; rest = s.rest; led = led; nothing_left = nothing })
    | inr left ↦ let t = turn_goes_on turns s led left in elim (within_or_first t.0.times) [
      | inl within ↦ answer_from fuel (suc turns) t.0 (s, led, t.1, within) (omega arith)
      | inr one ↦ (large turns one.0, record { before = s; next = t.0; led = led; turns = t.1; large = one.2; first = one.1 })
    ]
  ]

  pub some_answer : (answer : Answer) × IsAnswer limit list x answer
  some_answer = answer_from (suc columns) zero (first_state x) refl (omega arith)

  -- ---- what a sum is

  within_run : (turns : ℕ) (s : State) → ReachesState limit list x turns s → ((j : ℕ) → slice_index s.rest j ≡ 0) → IsWithinTimes limit x s.times
  within_run zero s e nothing j = let z : slice_index x j ≡ 0 = subst (λ (t : State). slice_index t.rest j ≡ 0) e (nothing j) in
      let t : s.times ≡ 1 = ap (λ (t : State). t.times) e in rw z (omega arith)
  within_run (suc turns) s t nothing j = t.3 j

  pub sum_is_right : (times : ℕ) (terms : List Term) → IsSum limit list x times terms → IsSumOfRays list limit x times terms
  sum_is_right times terms a = let r = led_reached columns rows list x h limit a.turns (record { times = times; terms = terms; rest = a.rest }) a.led in record {
    adds_up = record {
      some = r.some;
      within = within_run a.turns (record { times = times; terms = terms; rest = a.rest }) a.led a.nothing_left;
      equal = λ j. r.sums j ∙ (let z : slice_index a.rest j ≡ 0 = a.nothing_left j in omega arith);
    };
    counts = r.counts;
    listed = r.listed;
    ascending = r.ascending;
  }
