-- A cycle becomes two if the numbers to which two of its members are carried are exchanged.
use Rattle.std.proofs.Common.{◌≡◌, ◌≢◌, ℕ, zero, suc, ◌+◌, ◌<◌, Bool, true, false, cond, ◌⊎◌, inl, inr, Option, Some, None, refl, sym, ap, ◌∙◌, subst, arith}
use Rattle.std.specs.Prelude.{◌==◌, ◌||◌, option_and_then}
use Rattle.std.proofs.lemmas.Bool.{cases_Bool, cases_eq, eqb-true, eq-eqb, ne_eqb}
use Rattle.table_definitions.specs.Lists.{has}
use Rattle.table_definitions.proofs.Listed.{has_among, among_has, contains_among, among_contains}
use Rattle.table_walk_laws.specs.Walks.{after, Reaches, IsInjectiveBelow, IsSource}
use Rattle.table_walk_laws.specs.Laws.{HasOrbit, HasEnd}
use Rattle.table_walk_laws.proofs.OrbitLemmas.{orbit_exists, orbit_holds_reached}
use Rattle.table_walk_laws.proofs.ChainLemmas.{chain_ends}
use Rattle.table_walk_laws.proofs.Steps.{after_before, after_below, one_end_lem}
use Rattle.surface_double_laws.specs.Maps.{IsPermutationBelow, AreCycles}
use Rattle.surface_double_laws.proofs.Cycles.{not_lost}
use Rattle.surface_double_laws.proofs.Merging.{IsExchange}

module _ (n : ℕ) (f : ℕ → ℕ) (p : IsPermutationBelow n f) (a b : ℕ) (la : a < n) where
  -- as f, but nowhere from a and b
  abbrev stopping : Bool → ℕ → Option ℕ
  stopping s y = cond s None (Some y)

  step : ℕ → Option ℕ
  step d = stopping ((d == a) || (d == b)) (f d)

  stops_a : step a ≡ None
  unfolding step
  stops_a = ap (λ t. stopping (t || (a == b)) (f a)) (eq-eqb a a refl)

  stops_b : step b ≡ None
  unfolding step
  stops_b = elim (cases_Bool (b == a)) [
    | inl t ↦ ap (λ t. stopping (t || (b == b)) (f b)) t
    | inr t ↦ ap (λ t. stopping (t || (b == b)) (f b)) t ∙ ap (λ t. stopping t (f b)) (eq-eqb b b refl)
  ]

  goes : (d : ℕ) → d ≢ a → d ≢ b → step d ≡ Some (f d)
  unfolding step
  goes d na nb = ap (λ t. stopping (t || (d == b)) (f d)) (ne_eqb d a na) ∙ ap (λ t. stopping t (f d)) (ne_eqb d b nb)

  goes_if : (d y : ℕ) → step d ≡ Some y → (d ≢ a) × (d ≢ b) × (f d ≡ y)
  goes_if d y e =
      let na : d ≢ a = λ q. let z : None ≡ Some y = sym (ap step q ∙ stops_a) ∙ e in absurd cc in
      let nb : d ≢ b = λ q. let z : None ≡ Some y = sym (ap step q ∙ stops_b) ∙ e in absurd cc in
      (na, nb, (let z : Some (f d) ≡ Some y = sym (goes d na nb) ∙ e in cc))

  ends_if : (d : ℕ) → step d ≡ None → (d ≡ a) ⊎ (d ≡ b)
  ends_if d e = elim (cases_eq d a) [
    | inl q ↦ inl q
    | inr na ↦ elim (cases_eq d b) [
      | inl q ↦ inr q
      | inr nb ↦ absurd (let z : Some (f d) ≡ None = sym (goes d na nb) ∙ e in cc)
    ]
  ]

  start : ℕ
  start = f a

  injective : IsInjectiveBelow n step
  injective = record {
    within = λ x y l e. subst (λ z. z < n) (goes_if x y e).2 (p.within x l);
    injective = λ x y z lx ly e e'. p.injective x y lx ly ((goes_if x z e).2 ∙ sym (goes_if y z e').2);
  }

  source : IsSource n step (f a)
  source = record {
    below = p.within a la;
    none_before = λ x l e. (goes_if x (f a) e).0 (p.injective x a l la (goes_if x (f a) e).2);
  }

  orbit : HasOrbit n step (f a)
  orbit = orbit_exists step (f a) n injective (p.within a la)

  end : HasEnd n step (f a)
  end = chain_ends n step (f a) injective source

  -- the numbers on the way from a, until a or b
  pub on_way : ℕ → Bool
  on_way d = has orbit.places d

  on_reached : (d : ℕ) → on_way d ≡ true → Reaches step (f a) d
  unfolding on_way
  on_reached d t = (orbit_holds_reached step (f a) orbit.places orbit.orbit d).0 (contains_among d orbit.places (has_among orbit.places d t))

  reached_on : (d : ℕ) → Reaches step (f a) d → on_way d ≡ true
  unfolding on_way
  reached_on d r = among_has orbit.places d (among_contains d orbit.places ((orbit_holds_reached step (f a) orbit.places orbit.orbit d).1 r))

  first_on : on_way (f a) ≡ true
  first_on = reached_on (f a) (0, refl)

  next_on : (d : ℕ) → d ≢ a → d ≢ b → on_way d ≡ true → on_way (f d) ≡ true
  next_on d na nb t = let r = on_reached d t in reached_on (f d) (suc r.0, ap (option_and_then step) r.1 ∙ goes d na nb)

  -- the last number on the way is a or b, and only one of them is on it
  last_is : (end.end ≡ a) ⊎ (end.end ≡ b)
  last_is = ends_if end.end end.nowhere

  end_on : on_way end.end ≡ true
  end_on = reached_on end.end (end.count, end.there)

  one_on : (d e : ℕ) → on_way d ≡ true → step d ≡ None → step e ≡ None → e ≢ d → on_way e ≡ false
  one_on d e t sd se ne = elim (cases_Bool (on_way e)) [
    | inl q ↦ absurd (ne (one_end_lem step (f a) e d (on_reached e q) (on_reached d t) se sd))
    | inr q ↦ q
  ]

  -- a truth value that does not change before a or b is the same all the way
  one_colour : (h : ℕ → Bool) → ((d : ℕ) → d < n → d ≢ a → d ≢ b → h (f d) ≡ h d) → (d : ℕ) → on_way d ≡ true → h d ≡ h (f a)
  one_colour h same d t = go (on_reached d t).0 d (on_reached d t).1
    where
      go : (k d : ℕ) → after step (f a) k ≡ Some d → h d ≡ h (f a)
      go zero d e = let z : f a ≡ d = cc in ap h (sym z)
      go (suc k) d e =
          let r = after_before step (f a) k d e in
          let m = goes_if r.0 d r.2 in
          ap h (sym m.2) ∙ same r.0 (after_below step n injective (f a) k r.0 (p.within a la) r.1) m.0 m.1 ∙ go k r.0 r.1

  module _ (g : ℕ → ℕ) (q : IsPermutationBelow n g) (x : IsExchange n f g a b) (cycle : ℕ → ℕ) (count : ℕ) (c : AreCycles n f cycle count) (same : cycle a ≡ cycle b) where
    -- the way ends at b, since the cycle of a has b
    whole : on_way a ≡ true → ⊥
    whole t =
        let b_off : on_way b ≡ false = one_on a b t stops_a stops_b (λ e. x.separate (sym e)) in
        let closed : (d : ℕ) → d < n → on_way (f d) ≡ on_way d = not_lost n f p on_way (λ d l s. elim (cases_eq d a) [
          | inl e ↦ ap (λ z. on_way (f z)) e ∙ first_on
          | inr na ↦ next_on d na (λ e. let z : true ≡ false = sym s ∙ ap on_way e ∙ b_off in absurd cc) s
        ]) in
        let z : true ≡ false = sym t ∙ c.joined on_way closed a b la x.lb same ∙ b_off in
        cc

    b_on : on_way b ≡ true
    b_on = elim last_is [
      | inl e ↦ absurd (whole (ap on_way (sym e) ∙ end_on))
      | inr e ↦ ap on_way (sym e) ∙ end_on
    ]

    a_off : on_way a ≡ false
    a_off = one_on b a b_on stops_b stops_a x.separate

    closed : (d : ℕ) → d < n → on_way (g d) ≡ on_way d
    closed = not_lost n g q on_way (λ d l s. elim (cases_eq d b) [
      | inl e ↦ ap (λ z. on_way (g z)) e ∙ ap on_way x.at_b ∙ first_on
      | inr nb ↦ (let na : d ≢ a = λ e. let z : true ≡ false = sym s ∙ ap on_way e ∙ a_off in absurd cc in
          ap on_way (x.others d l na nb) ∙ next_on d na nb s)
    ])

    -- the numbers on the way are a cycle of their own
    abbrev apart_if : Bool → ℕ → ℕ
    apart_if s i = cond s count i

    pub split : ℕ → ℕ
    split d = apart_if (on_way d) (cycle d)

    split_on : (d : ℕ) → on_way d ≡ true → split d ≡ count
    unfolding split
    split_on d t = ap (λ s. apart_if s (cycle d)) t

    split_off : (d : ℕ) → on_way d ≡ false → split d ≡ cycle d
    unfolding split
    split_off d t = ap (λ s. apart_if s (cycle d)) t

    in_range : (d : ℕ) → d < n → split d < count + 1
    in_range d l = elim (cases_Bool (on_way d)) [
      | inl t ↦ (let e = split_on d t in omega arith)
      | inr t ↦ (let e = split_off d t in let m = c.in_range d l in omega arith)
    ]

    kept : (d : ℕ) → d < n → split (g d) ≡ split d
    kept d l = elim (cases_Bool (on_way d)) [
      | inl t ↦ split_on (g d) (closed d l ∙ t) ∙ sym (split_on d t)
      | inr t ↦ split_off (g d) (closed d l ∙ t) ∙ off t ∙ sym (split_off d t)
    ]
      where
        off : on_way d ≡ false → cycle (g d) ≡ cycle d
        off t = elim (cases_eq d a) [
          | inl e ↦ ap (λ z. cycle (g z)) e ∙ ap cycle x.at_a ∙ c.kept b x.lb ∙ sym same ∙ ap cycle (sym e)
          | inr na ↦ elim (cases_eq d b) [
            | inl e ↦ absurd (let z : true ≡ false = sym b_on ∙ ap on_way (sym e) ∙ t in cc)
            | inr nb ↦ ap cycle (x.others d l na nb) ∙ c.kept d l
          ]
        ]

    -- all numbers on the way were in the cycle of a
    of_a : (d : ℕ) → on_way d ≡ true → cycle d ≡ cycle a
    of_a d t =
        let e : (cycle d == cycle a) ≡ (cycle (f a) == cycle a) = one_colour (λ z. cycle z == cycle a) (λ d l na nb. ap (λ i. i == cycle a) (c.kept d l)) d t in
        eqb-true (cycle d) (cycle a) (e ∙ eq-eqb (cycle (f a)) (cycle a) (c.kept a la))

    none_empty : (i : ℕ) → i < count + 1 → (d : ℕ) × (d < n) × (split d ≡ i)
    none_empty i l = elim (cases_eq i count) [
      | inl e ↦ (b, x.lb, split_on b b_on ∙ sym e)
      | inr ne ↦ (let m = c.none_empty i (omega arith) in elim (cases_Bool (on_way m.0)) [
        | inl t ↦ (a, la, split_off a a_off ∙ sym (of_a m.0 t) ∙ m.2)
        | inr t ↦ (m.0, m.1, split_off m.0 t ∙ m.2)
      ])
    ]

    module _ (h : ℕ → Bool) (even : (d : ℕ) → d < n → h (g d) ≡ h d) where
      abbrev beside_if : Bool → Bool → Bool
      beside_if s t = cond s (h a) t

      -- that of a on the way, and h elsewhere
      beside : ℕ → Bool
      beside d = beside_if (on_way d) (h d)

      beside_on : (d : ℕ) → on_way d ≡ true → beside d ≡ h a
      unfolding beside
      beside_on d t = ap (λ s. beside_if s (h d)) t

      beside_off : (d : ℕ) → on_way d ≡ false → beside d ≡ h d
      unfolding beside
      beside_off d t = ap (λ s. beside_if s (h d)) t

      beside_kept : (d : ℕ) → d < n → beside (f d) ≡ beside d
      beside_kept d l = elim (cases_eq d a) [
        | inl e ↦ ap (λ z. beside (f z)) e ∙ beside_on (f a) first_on ∙ sym (beside_off a a_off) ∙ ap beside (sym e)
        | inr na ↦ elim (cases_eq d b) [
          | inl e ↦ ap (λ z. beside (f z)) e ∙ ap beside (sym x.at_a) ∙ beside_off (g a) (closed a la ∙ a_off) ∙ even a la ∙ sym (beside_on b b_on) ∙ ap beside (sym e)
          | inr nb ↦ ap beside (sym (x.others d l na nb)) ∙ elim (cases_Bool (on_way d)) [
            | inl t ↦ beside_on (g d) (closed d l ∙ t) ∙ sym (beside_on d t)
            | inr t ↦ beside_off (g d) (closed d l ∙ t) ∙ even d l ∙ sym (beside_off d t)
          ]
        ]
      ]

      all_way : (d : ℕ) → on_way d ≡ true → h d ≡ h (f a)
      all_way d t = one_colour h (λ d l na nb. ap h (sym (x.others d l na nb)) ∙ even d l) d t

      joined : (d e : ℕ) → d < n → e < n → split d ≡ split e → h d ≡ h e
      joined d e ld le r = elim (cases_Bool (on_way d)) [
        | inl t ↦ elim (cases_Bool (on_way e)) [
          | inl u ↦ all_way d t ∙ sym (all_way e u)
          | inr u ↦ absurd (let y = split_on d t in let z = split_off e u in let w = c.in_range e le in omega arith)
        ]
        | inr t ↦ elim (cases_Bool (on_way e)) [
          | inl u ↦ absurd (let y = split_off d t in let z = split_on e u in let w = c.in_range d ld in omega arith)
          | inr u ↦ sym (beside_off d t) ∙ c.joined beside beside_kept d e ld le (sym (split_off d t) ∙ r ∙ split_off e u) ∙ beside_off e u
        ]
      ]

    pub split_cycles : AreCycles n g split (count + 1)
    split_cycles = record { in_range = in_range; none_empty = none_empty; kept = kept; joined = joined }
