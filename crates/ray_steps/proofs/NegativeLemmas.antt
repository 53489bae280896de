-- The indices of negative rays, with one more ray, and the words of their supports.
use Rattle.std.proofs.Common.{◌≡◌, ℕ, ◌+◌, ◌/◌, ◌<◌, ◌↔◌, ⊎_elim, inl, inr, Bool, true, false, List, [], ◌∷◌, ◌++◌, Contains, length, length-append, slice_index_or, refl, subst, sym, ◌∙◌, ap, arith}
use Rattle.std.proofs.lemmas.Bool.{cases_lt}
use Rattle.std.proofs.lemmas.List.{get_or_append_left}
use Rattle.std.proofs.Math.Seq.{get_or-append_seam}
use Rattle.std.proofs.lemmas.List.Elements.{All-push, Contains-push, Contains-append_left}
use Rattle.std.proofs.lemmas.List.Quantifiers.{all_pairs_push}
use Rattle.support_bits.specs.Words.{AreWordsOf}
use Rattle.ray_steps.specs.declared.signs.Sign.{Sign}
use Rattle.ray_steps.specs.declared.signs.Sign.TheVariants.{Zero}
use Rattle.ray_steps.specs.Negatives.{AreNegativeFlags}
use Rattle.ray_steps.specs.Signs.{IsNegative, AreNegativePlaces}

pub negative_push : (signs : List Sign) (n : ℕ) (places : List ℕ) → AreNegativePlaces signs n places → AreNegativePlaces signs (n + 1) (places ++ n ∷ [])
negative_push signs n places h = record {
  in_range = All-push (λ k. k < n + 1) places n (λ k d within. let less = h.in_range k d within in omega arith) (omega arith);
  ascending = all_pairs_push (λ one other. one < other) places n h.ascending (λ k d within. h.in_range k d within);
  complete = λ place less negative. ⊎_elim
      (λ old. Contains-append_left places (n ∷ []) place (h.complete place old negative))
      (λ last. let e : n ≡ place = omega arith in subst (Contains (places ++ n ∷ [])) e (Contains-push places n))
      (cases_lt place n);
}

pub negative_skip : (signs : List Sign) (n : ℕ) (places : List ℕ) → AreNegativePlaces signs n places → ¬ IsNegative (slice_index_or signs n Zero) → AreNegativePlaces signs (n + 1) places
negative_skip signs n places h none = record {
  in_range = λ k d within. let less = h.in_range k d within in omega arith;
  ascending = h.ascending;
  complete = λ place less negative. ⊎_elim
      (λ old. h.complete place old negative)
      (λ last. let e : place ≡ n = omega arith in absurd (none (subst (λ k. IsNegative (slice_index_or signs k Zero)) e negative)))
      (cases_lt place n);
}

pub tell_none : (signs : List Sign) → AreNegativeFlags signs 0 []
tell_none signs = record { count = refl; each = λ k less. absurd (omega arith) }

pub tell_push : (signs : List Sign) (n : ℕ) (flags : List Bool) (flag : Bool) → AreNegativeFlags signs n flags → IsNegative (slice_index_or signs n Zero) ↔ (flag ≡ true) → AreNegativeFlags signs (n + 1) (flags ++ flag ∷ [])
tell_push signs n flags flag h is = record {
  count = length-append flags (flag ∷ []) ∙ ap (λ k. k + 1) h.count;
  each = λ k less. elim (cases_lt k n) [
    | inl old ↦ let same = get_or_append_left flags (flag ∷ []) false k (let c = h.count in omega arith) in subst (λ b. IsNegative (slice_index_or signs k Zero) ↔ (b ≡ true)) (sym same) (h.each k old)
    | inr exceeded ↦ let e : n ≡ k = omega arith in subst (λ k. IsNegative (slice_index_or signs k Zero) ↔ (slice_index_or (flags ++ flag ∷ []) k false ≡ true)) e
        (subst (λ b. IsNegative (slice_index_or signs n Zero) ↔ (b ≡ true)) (sym (ap (λ m. slice_index_or (flags ++ flag ∷ []) m false) (sym h.count) ∙ get_or-append_seam flags flag [] false)) is)
  ];
}

-- supports of equally many columns have equally many words
pub same_words : (s t : List Bool) (words other : List ℕ) → AreWordsOf s words → AreWordsOf t other → length s ≡ length t → length words ≡ length other
same_words s t words other of_s of_t same = of_s.count ∙ ap (λ n. (n + 63) / 64) same ∙ sym of_t.count
