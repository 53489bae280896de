-- All rows can be taken, one after another as an order names them.
use Rattle.std.proofs.Common.{◌≡◌, ℕ, zero, suc, ◌<◌, ◌≤◌, ⊎_elim, inl, inr, List, [], ◌∷◌, ◌++◌, length, get_or, slice_index, sym, refl, subst₂, ◌∙◌, arith}
use Rattle.std.specs.List.{range_with_len, remove, IsFirstBest}
use Rattle.std.specs.List.Sorted.{IsPermutation}
use Rattle.std.proofs.lemmas.Bool.{cases_lt}
use Rattle.std.proofs.lemmas.List.{get_or_default, get_or_append_left, get_or_push, length_push, take-append-le, take_all}
use Rattle.std.proofs.lemmas.List.Edits.{length-remove}
use Rattle.std.proofs.lemmas.List.MinMax.{IsFirstBest-from_best_of}
use Rattle.std.proofs.lemmas.List.Sorted.{IsPermutation-more, IsPermutation-refl}
use Rattle.cone_definitions.specs.Systems.{System}
use Rattle.cone_definitions.specs.Orders.{prefers, IsNamed, AreLeft, IsNamedTurn, AreNamed}
use Rattle.cone_definitions.specs.declared.Order.{Order}
use Rattle.cone_definitions.specs.declared.Order.TheVariants.{Given, Short, Zeros, Free}
use Rattle.cone_laws.proofs.PrefersLemmas.{prefers_order}
use Rattle.cone_laws.proofs.LeftRows.{left_none, left_more, all_taken}

first_best : (order : Order) (system : System) (left : List ℕ) → 0 < length left → (p : ℕ) × IsFirstBest (prefers order system) left (length left) p
first_best order system [] l = absurd (omega arith)
first_best order system (x ∷ xs) l = let b = IsFirstBest-from_best_of (prefers_order order system) x xs in (b.0, b.1)

-- if rows are left, the order names one of them
some_position : (order : Order) (system : System) (left : List ℕ) → 0 < length left → (p : ℕ) × (p < length left) × IsNamed order system left p
some_position Given system left l = let b = first_best Given system left l in (b.0, b.1.0, b.1)
some_position Short system left l = let b = first_best Short system left l in (b.0, b.1.0, b.1)
some_position Zeros system left l = let b = first_best Zeros system left l in (b.0, b.1.0, b.1)
some_position Free system left l = (0, l, l)

-- the rows named so far and one more
pub named_more : (order : Order) (system : System) (taken : List ℕ) (number : ℕ) → AreNamed order system taken → IsNamedTurn order system taken number
    → AreNamed order system (taken ++ number ∷ [])
named_more order system taken number h turn k less = ⊎_elim
    (λ old. subst₂ (IsNamedTurn order system) (sym (take-append-le k taken (number ∷ []) (omega arith))) (sym (get_or_append_left taken (number ∷ []) 0 k old)) (h k old))
    (λ new. let e : k ≡ length taken = omega (arith, length_push taken number) in
    subst₂ (IsNamedTurn order system) (sym (take-append-le k taken (number ∷ []) (omega arith) ∙ take_all k taken (omega arith))) (sym (get_or_push taken number 0 k (sym e))) turn)
    (cases_lt k (length taken))

module _ (order : Order) (system : System) where
  abbrev AllTaken : Type 0
  AllTaken = (taken : List ℕ) × IsPermutation (range_with_len 0 (length system.rows)) taken × AreNamed order system taken

  rows_taken : (fuel : ℕ) (taken left : List ℕ) → length left ≤ fuel → AreLeft (length system.rows) taken left → AreNamed order system taken
      → IsPermutation (range_with_len 0 (length system.rows)) (taken ++ left) → AllTaken
  rows_taken zero taken left l a h p = (taken, all_taken (length system.rows) taken left (omega arith) p, h)
  rows_taken (suc fuel) taken left l a h p = elim (cases_lt 0 (length left)) [
    | inr none ↦ (taken, all_taken (length system.rows) taken left (omega arith) p, h)
    | inl some ↦
        let t = some_position order system left some in
        let is : slice_index left t.0 ≡ get_or left t.0 (slice_index left t.0) = get_or_default left t.0 0 (slice_index left t.0) t.1 in
        let turn : IsNamedTurn order system taken (slice_index left t.0) = record { left = left; left_of = a; position = t.0; in_range = t.1; is = refl; named = t.2 } in
        let shorter = length-remove left t.0 t.1 in
        rows_taken fuel (taken ++ slice_index left t.0 ∷ []) (remove left t.0) (omega (arith, shorter)) (left_more (length system.rows) taken left t.0 (slice_index left t.0) a t.1 is)
        (named_more order system taken (slice_index left t.0) h turn)
        (IsPermutation-more (range_with_len 0 (length system.rows)) taken left t.0 (slice_index left t.0) t.1 is p)
  ]

  pub some_rows_taken : AllTaken
  some_rows_taken = rows_taken (length (range_with_len 0 (length system.rows))) [] (range_with_len 0 (length system.rows)) (omega arith) (left_none (length system.rows)) (λ k l. absurd (omega arith))
      (IsPermutation-refl (range_with_len 0 (length system.rows)))
