-- Each start has exactly one orbit, which contains the numbers that the start reaches.
use Rattle.std.proofs.Common.{◌≡◌, ◌≢◌, ℕ, zero, suc, ◌+◌, ◌-◌, ◌<◌, ◌≤◌, ◌↔◌, inl, inr, List, [], ◌∷◌, ◌++◌, length, slice_index, All, Contains, Option, Some, None, refl, sym, ap, subst, ◌∙◌, arith}
use Rattle.std.specs.Prelude.{option_and_then}
use Rattle.std.specs.List.{slice_index_or}
use Rattle.std.proofs.lemmas.Bool.{cases_order, cases_lt, cases_eq}
use Rattle.std.proofs.lemmas.List.{get_or_default, get_or_push, get_or_append_left, length_push, ext_get_or}
use Rattle.std.proofs.lemmas.List.Elements.{All-from_get_or}
use Rattle.std.proofs.lemmas.List.Quantifiers.{all_pairs_push}
use Rattle.basic_lemmas.proofs.Members.{contains_at}
use Rattle.basic_lemmas.proofs.Options.{none_or_some}
use Rattle.table_walk_laws.specs.Walks.{after, Reaches, IsInjectiveBelow, IsWalk, IsOrbit, last_of}
use Rattle.table_walk_laws.specs.Laws.{HasOrbit}
use Rattle.basic_lemmas.proofs.Lists.{one_place}
use Rattle.table_walk_laws.proofs.Places.{place_of}
use Rattle.table_walk_laws.proofs.Repeats.{distinct_below}
use Rattle.table_walk_laws.proofs.Steps.{after_before, after_below}

module _ (step : ℕ → Option ℕ) (start : ℕ) where
  pub walk_start : IsWalk step start (start ∷ [])
  walk_start = record {
    some = omega arith;
    first = refl;
    steps = λ k l. absurd (omega arith);
    distinct = λ i j d less l. absurd (omega arith);
  }

  -- the number at index k is reached after k steps
  pub after_walk : (places : List ℕ) → IsWalk step start places → (k : ℕ) → k < length places → after step start k ≡ Some (slice_index places k)
  after_walk places w zero l = ap Some (sym w.first)
  after_walk places w (suc k) l = ap (option_and_then step) (after_walk places w k (omega arith)) ∙ w.steps k l

  -- the start occurs at index 0 alone
  at_start : (places : List ℕ) → IsWalk step start places → (k : ℕ) → k < length places → slice_index places k ≡ start → k ≡ 0
  at_start places w k l e = one_place places w.distinct k 0 0 l w.some (e ∙ sym w.first)

  pub at_length : (places : List ℕ) → IsWalk step start places → after step start (length places) ≡ step (last_of places)
  at_length places w = let one : 1 ≤ length places = w.some in
      let e : length places ≡ suc (length places - 1) = omega arith in
      ap (after step start) e ∙ ap (option_and_then step) (after_walk places w (length places - 1) (omega arith))

  module _ (n : ℕ) (h : IsInjectiveBelow n step) (below : start < n) where
    pub walk_below : (places : List ℕ) → IsWalk step start places → All (λ x. x < n) places
    walk_below places w = All-from_get_or (λ x. x < n) places 0 (λ k l. after_below step n h start k (slice_index places k) below (after_walk places w k l))

    pub walk_size : (places : List ℕ) → IsWalk step start places → length places ≤ n
    walk_size places w = distinct_below n places (walk_below places w) w.distinct

    -- the number after the last one is new, if it is not the start
    fresh : (places : List ℕ) → IsWalk step start places → (y : ℕ) → step (last_of places) ≡ Some y → y ≢ start → (k d : ℕ) → k < length places → slice_index_or places k d ≢ y
    fresh places w y s new zero d l e = new (sym e ∙ get_or_default places 0 d 0 l ∙ w.first)
    fresh places w y s new (suc k) d l e = let p : k < length places = omega arith in let q : length places - 1 < length places = omega arith in
        let f : slice_index places (suc k) ≡ y = get_or_default places (suc k) 0 d l ∙ e in
        let same : slice_index places k ≡ last_of places = h.injective (slice_index places k) (last_of places) y
        (walk_below places w k 0 p) (walk_below places w (length places - 1) 0 q) (w.steps k l ∙ ap Some f) s in
        let at : k ≡ length places - 1 = one_place places w.distinct k (length places - 1) 0 p q same in
        absurd (omega arith)

    pub walk_more : (places : List ℕ) → IsWalk step start places → (y : ℕ) → step (last_of places) ≡ Some y → y ≢ start → IsWalk step start (places ++ y ∷ [])
    walk_more places w y s new = record {
      some = omega (arith, length_push places y);
      first = get_or_append_left places (y ∷ []) 0 0 w.some ∙ w.first;
      steps = steps_more;
      distinct = all_pairs_push (λ a b. a ≢ b) places y w.distinct (fresh places w y s new);
    }
      where
        old : (k : ℕ) → k < length places → slice_index (places ++ y ∷ []) k ≡ slice_index places k
        old k l = get_or_append_left places (y ∷ []) 0 k l

        steps_more : (k : ℕ) → suc k < length (places ++ y ∷ []) → step (slice_index (places ++ y ∷ []) k) ≡ Some (slice_index (places ++ y ∷ []) (suc k))
        steps_more k l = elim (cases_lt (suc k) (length places)) [
          | inl m ↦ ap step (old k (omega arith)) ∙ w.steps k m ∙ ap Some (sym (old (suc k) m))
          | inr m ↦ let e : length (places ++ y ∷ []) ≡ length places + 1 = length_push places y in
              let f : k ≡ length places - 1 = omega arith in let g : length places ≡ suc k = omega arith in
              ap step (old k (omega arith) ∙ ap (slice_index places) f) ∙ s ∙ ap Some (sym (get_or_push places y 0 (suc k) g))
        ]

    -- a walk with one more number, for code that stores the walk and its last number
    pub walk_on : (places : List ℕ) (place y : ℕ) (more : List ℕ) → IsWalk step start places → place ≡ last_of places → step place ≡ Some y → y ≢ start →
        more ≡ places ++ y ∷ [] → IsWalk step start more × (y ≡ last_of more)
    walk_on places place y more w at s new e = (
      subst (IsWalk step start) (sym e) (walk_more places w y (ap step (sym at) ∙ s) new),
      let l : length places ≡ length (places ++ y ∷ []) - 1 = omega (arith, length_push places y) in
          sym (ap last_of e ∙ get_or_push places y 0 (length (places ++ y ∷ []) - 1) l),
    )

    orbit_from : (fuel : ℕ) (places : List ℕ) → IsWalk step start places → n < fuel + length places → HasOrbit n step start
    orbit_from zero places w more = let l : length places ≤ n = walk_size places w in absurd (omega arith)
    orbit_from (suc fuel) places w more = elim (none_or_some (step (last_of places))) [
      | inl none ↦ record { places = places; orbit = record { walk = w; last = inr none }; size = walk_size places w }
      | inr found ↦ elim (cases_eq found.0 start) [
        | inl e ↦ record { places = places; orbit = record { walk = w; last = inl (found.1 ∙ ap Some e) }; size = walk_size places w }
        | inr new ↦ orbit_from fuel (places ++ found.0 ∷ []) (walk_more places w found.0 found.1 new) (omega (arith, length_push places found.0))
      ]
    ]

    pub orbit_exists : HasOrbit n step start
    orbit_exists = orbit_from n (start ∷ []) walk_start (omega arith)

  module _ (places : List ℕ) (o : IsOrbit step start places) where
    reached_in : (k x : ℕ) → after step start k ≡ Some x → Contains places x
    reached_in zero x e = contains_at places 0 x o.walk.some (let s : start ≡ x = cc in o.walk.first ∙ s)
    reached_in (suc k) x e = let b = after_before step start k x e in
        let p = place_of places b.0 (reached_in k b.0 b.1) in go b.0 p.0 p.1 p.2 b.2
      where
        go : (y i : ℕ) → i < length places → slice_index places i ≡ y → step y ≡ Some x → Contains places x
        go y i l at s = elim (cases_lt (suc i) (length places)) [
          | inl m ↦ contains_at places (suc i) x m (let q : Some (slice_index places (suc i)) ≡ Some x = sym (o.walk.steps i m) ∙ ap step at ∙ s in cc)
          | inr m ↦ let e : i ≡ length places - 1 = omega arith in
              let q : step (last_of places) ≡ Some x = ap step (ap (slice_index places) (sym e) ∙ at) ∙ s in
              elim o.last [
                | inl back ↦ contains_at places 0 x o.walk.some (let z : start ≡ x = cc in o.walk.first ∙ z)
                | inr none ↦ absurd (let z : None ≡ Some x = sym none ∙ q in cc)
              ]
        ]

    pub orbit_holds_reached : (x : ℕ) → Contains places x ↔ Reaches step start x
    orbit_holds_reached x = (
      λ c. let p = place_of places x c in (p.0, after_walk places o.walk p.0 p.1 ∙ ap Some p.2),
      λ r. reached_in r.0 x r.1,
    )

    -- no longer walk begins like an orbit
    orbit_ends : (longer : List ℕ) → IsWalk step start longer → length places < length longer → ⊥
    orbit_ends longer w less = let a : Some (slice_index longer (length places)) ≡ step (last_of places) =
        sym (after_walk longer w (length places) less) ∙ at_length places o.walk in
        elim o.last [
          | inl back ↦ let e : slice_index longer (length places) ≡ start = cc in
              let z : length places ≡ 0 = at_start longer w (length places) less e in let one : 1 ≤ length places = o.walk.some in omega arith
          | inr none ↦ let e : Some (slice_index longer (length places)) ≡ None = a ∙ none in cc
        ]

  pub one_orbit : (xs ys : List ℕ) → IsOrbit step start xs → IsOrbit step start ys → xs ≡ ys
  one_orbit xs ys p q = ext_get_or 0 xs ys same (λ k l. let m : k < length ys = omega (arith, same) in
      let e : Some (slice_index xs k) ≡ Some (slice_index ys k) = sym (after_walk xs p.walk k l) ∙ after_walk ys q.walk k m in cc)
    where
      same : length xs ≡ length ys
      same = elim (cases_order (length xs) (length ys)) [
        | inl e ↦ e
        | inr (inl less) ↦ absurd (orbit_ends xs p ys q.walk less)
        | inr (inr more) ↦ absurd (orbit_ends ys q xs p.walk more)
      ]
