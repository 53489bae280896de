-- The least members of classes, and numberings from classes.
use Rattle.std.proofs.Common.{◌≡◌, ◌≢◌, ℕ, ◌+◌, ◌<◌, ◌≤◌, List, [], ◌∷◌, ◌++◌, length, inl, inr, refl, sym, ap, subst, ◌∙◌, arith, length-append}
use Rattle.std.specs.Prelude.{◌==◌, slice_index, ◌↔◌}
use Rattle.std.proofs.lemmas.Bool.{cases_lt, cases_order, eq-eqb, ne_eqb}
use Rattle.std.proofs.lemmas.List.{get_or_push, get_or_append_left}
use Rattle.std.proofs.lemmas.List.Sums.{position_or_len_is}
use Rattle.table_definitions.specs.Classes.{IsNumbering, least}
use Rattle.table_walk_laws.specs.Joined.{IsJoined}
use Rattle.skeleton_class_laws.specs.Numberings.{IsOrdered, AreFirsts, AreFirstsUpTo}

pub none_first : (classes : List ℕ) → AreFirstsUpTo 0 classes []
none_first classes = record { below = λ j l. absurd (omega arith); least_member = λ c l. absurd (omega arith); in_range = λ c l. absurd (omega arith); member = λ c l. absurd (omega arith) }

-- if the class of item i has occurred before, the first members stay as they are
pub first_passes : (i : ℕ) (classes firsts : List ℕ) → IsOrdered classes → AreFirstsUpTo i classes firsts → i < length classes → slice_index classes i ≢ length firsts → AreFirstsUpTo (i + 1) classes firsts
first_passes i classes firsts ordered a l ne = record {
  below = λ j m. elim (cases_order j i) [
    | inl e ↦ subst (λ k. slice_index classes k < length firsts) (sym e) here
    | inr (inl less) ↦ a.below j less
    | inr (inr more) ↦ absurd (omega arith)
  ];
  least_member = a.least_member;
  in_range = λ c m. let n : slice_index firsts c < i = a.in_range c m in omega arith;
  member = a.member;
}
  where
    here : slice_index classes i < length firsts
    here = elim (cases_order (slice_index classes i) (length firsts)) [
      | inl e ↦ absurd (ne e)
      | inr (inl less) ↦ less
      | inr (inr more) ↦ let o = ordered i (length firsts) l more in
          let m : slice_index classes o.0 < length firsts = a.below o.0 o.1 in let e : slice_index classes o.0 ≡ length firsts = o.2 in absurd (omega arith)
    ]

-- if the class of item i is new, i is its first member
pub first_grows : (i : ℕ) (classes firsts : List ℕ) → AreFirstsUpTo i classes firsts → i < length classes → slice_index classes i ≡ length firsts → AreFirstsUpTo (i + 1) classes (firsts ++ i ∷ [])
first_grows i classes firsts a l e = record {
  below = λ j m. elim (cases_lt j i) [
    | inl less ↦ let n : slice_index classes j < length firsts = a.below j less in omega (arith, size)
    | inr more ↦ let same : j ≡ i = omega arith in subst (λ k. slice_index classes k < length (firsts ++ i ∷ [])) (sym same) (omega (arith, size))
  ];
  least_member = λ c m. elim (cases_lt c (length firsts)) [
    | inl less ↦ get_or_append_left firsts (i ∷ []) 0 c less ∙ a.least_member c less
    | inr more ↦ let same : c ≡ length firsts = omega (arith, size) in
        subst (λ k. slice_index (firsts ++ i ∷ []) k ≡ least classes k) (sym same) (new ∙ sym least_new)
  ];
  in_range = λ c m. elim (cases_lt c (length firsts)) [
    | inl less ↦ let n : slice_index firsts c < i = a.in_range c less in let o : slice_index (firsts ++ i ∷ []) c ≡ slice_index firsts c = get_or_append_left firsts (i ∷ []) 0 c less in omega arith
    | inr more ↦ let same : c ≡ length firsts = omega (arith, size) in
        subst (λ k. slice_index (firsts ++ i ∷ []) k < i + 1) (sym same) (let n = new in omega arith)
  ];
  member = λ c m. elim (cases_lt c (length firsts)) [
    | inl less ↦ ap (slice_index classes) (get_or_append_left firsts (i ∷ []) 0 c less) ∙ a.member c less
    | inr more ↦ let same : c ≡ length firsts = omega (arith, size) in
        subst (λ k. slice_index classes (slice_index (firsts ++ i ∷ []) k) ≡ k) (sym same) (ap (slice_index classes) new ∙ e)
  ];
}
  where
    size : length (firsts ++ i ∷ []) ≡ length firsts + 1
    size = length-append firsts (i ∷ [])

    new : slice_index (firsts ++ i ∷ []) (length firsts) ≡ i
    new = get_or_push firsts i 0 (length firsts) refl

    least_new : least classes (length firsts) ≡ i
    least_new = position_or_len_is (λ d. d == length firsts) classes i 0 (omega arith)
        (λ k m. let n : slice_index classes k < length firsts = a.below k m in ne_eqb (slice_index classes k) (length firsts) (λ f. omega arith))
        (λ m. eq-eqb (slice_index classes i) (length firsts) e)

pub firsts_end : (classes firsts : List ℕ) (i : ℕ) → length classes ≤ i → i ≤ length classes → AreFirstsUpTo i classes firsts → length firsts ≤ i → AreFirsts classes firsts
firsts_end classes firsts i l m a f = record {
  limited = omega arith;
  below = λ j n. a.below j (omega arith);
  least_member = a.least_member;
  in_range = λ c n. let o : slice_index firsts c < i = a.in_range c n in omega arith;
  member = a.member;
}

-- classes by a relation are a numbering
pub numbering_from : (neighbours : ℕ → List ℕ) (n : ℕ) (Same : ℕ → ℕ → Type 0) (classes firsts : List ℕ) (count : ℕ) → IsNumbering n (IsJoined neighbours) classes count → AreFirsts classes firsts
    → ((i j : ℕ) → i < n → j < n → IsJoined neighbours i j ↔ Same i j) → IsNumbering n Same classes (length firsts)
numbering_from neighbours n Same classes firsts count a f tie = record {
  one_each = a.one_each;
  in_range = λ i l. f.below i (omega (arith, a.one_each));
  together = λ i j l m. (λ e. (tie i j l m).0 ((a.together i j l m).0 e), λ s. (a.together i j l m).1 ((tie i j l m).1 s));
  ascending = λ i c l m. a.ascending i c l m;
  none_empty = λ c l. let o : slice_index firsts c < length classes = f.in_range c l in let m : slice_index firsts c < n = omega (arith, a.one_each) in (slice_index firsts c, m, f.member c l);
}
