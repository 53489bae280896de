-- Tallies, one item after another.
use Rattle.std.proofs.Common.{◌≡◌, ◌≢◌, ◌⊎◌, inl, inr, ℕ, zero, suc, ◌+◌, ◌*◌, ◌/◌, cond, ◌<◌, ◌≤◌, Bool, true, false, List, [], ◌∷◌, ◌++◌, length, set, refl, sym, ap, ◌∙◌, arith, subst₂}
use Rattle.std.specs.Prelude.{◌==◌, ◌&&◌, slice_index, count_by, replicate}
use Rattle.std.specs.List.{slice_index_or}
use Rattle.std.proofs.lemmas.Bool.{cases_eq, cases_lt, eq-eqb, ne_eqb}
use Rattle.std.proofs.lemmas.List.{get_or_push, get_or_append_left, get_or-set_same, get_or-set_other, length-replicate, length-set}
use Rattle.std.proofs.lemmas.List.Sums.{count_by-le-length, sum_by-append}
use Rattle.std.proofs.lemmas.List.FromFn.{length-range_with_len}
use Rattle.table_definitions.specs.Lists.{below}
use Rattle.table_definitions.proofs.ListFacts.{below_next}
use Rattle.skeleton_class_laws.proofs.Marks.{all_zero}
use Rattle.skeleton_class_laws.specs.Tallies.{is_counted, AreTallies, AreTalliesUpTo}

pub count_by-append : (p : ℕ → Bool) (xs ys : List ℕ) → count_by p (xs ++ ys) ≡ count_by p xs + count_by p ys
count_by-append p xs ys = sum_by-append (λ x. cond (p x) 1 0) xs ys

pub count_more : (p : ℕ → Bool) (i : ℕ) → count_by p (below (i + 1)) ≡ count_by p (below i) + count_by p (i ∷ [])
count_more p i = ap (count_by p) (below_next i) ∙ count_by-append p (below i) (i ∷ [])

pub count_below : (p : ℕ → Bool) (i : ℕ) → count_by p (below i) ≤ i
count_below p i = let l : count_by p (below i) ≤ length (below i) = count_by-le-length p (below i) in omega (arith, length-range_with_len 0 i)

one_no : (p : ℕ → Bool) (i : ℕ) → p i ≡ false → count_by p (i ∷ []) ≡ 0
one_no p i e = rw e refl

one_yes : (p : ℕ → Bool) (i : ℕ) → p i ≡ true → count_by p (i ∷ []) ≡ 1
one_yes p i e = rw e refl

module _ (passes : List Bool) (owners : List ℕ) (count : ℕ) where
  pub none_counted : (tallies : List ℕ) → tallies ≡ replicate count 0 → AreTalliesUpTo 0 passes owners count tallies
  none_counted tallies e = record { one_each = ap (λ (xs : List ℕ). length xs) e ∙ length-replicate count 0; reported = λ c l. all_zero tallies count e c }

  module _ (i : ℕ) (tallies : List ℕ) (a : AreTalliesUpTo i passes owners count tallies) where
    pub thing_passes_not : slice_index_or passes i false ≡ false → AreTalliesUpTo (i + 1) passes owners count tallies
    thing_passes_not e = record {
      one_each = a.one_each;
      reported = λ c l. let no : count_by (is_counted passes owners c) (i ∷ []) ≡ 0 = one_no (is_counted passes owners c) i (ap (λ b. b && (slice_index owners i == c)) e) in
          a.reported c l ∙ sym (count_more (is_counted passes owners c) i ∙ (let z : count_by (is_counted passes owners c) (below i) + count_by (is_counted passes owners c) (i ∷ []) ≡ count_by (is_counted passes owners c) (below i) = omega arith in z));
    }

    pub thing_counts : slice_index_or passes i false ≡ true → slice_index owners i < count → (x : ℕ) → x ≡ slice_index tallies (slice_index owners i) + 1 → (new : List ℕ) → new ≡ set tallies (slice_index owners i) x
        → AreTalliesUpTo (i + 1) passes owners count new
    thing_counts e inside x ex new en = record {
      one_each = ap (λ (xs : List ℕ). length xs) en ∙ length-set tallies (slice_index owners i) x ∙ a.one_each;
      reported = λ c l. ap (λ (xs : List ℕ). slice_index xs c) en ∙ reported c l (cases_eq c (slice_index owners i)) ∙ sym (count_more (is_counted passes owners c) i);
    }
      where
        reported : (c : ℕ) → c < count → (c ≡ slice_index owners i) ⊎ (c ≢ slice_index owners i) → slice_index (set tallies (slice_index owners i) x) c
            ≡ count_by (is_counted passes owners c) (below i) + count_by (is_counted passes owners c) (i ∷ [])
        reported c l (inl same) =
            let yes : count_by (is_counted passes owners c) (i ∷ []) ≡ 1 = one_yes (is_counted passes owners c) i (λ k. e k && eq-eqb (slice_index owners i) c (sym same) k) in
            let here : slice_index (set tallies (slice_index owners i) x) c ≡ x = ap (slice_index (set tallies (slice_index owners i) x)) same ∙ get_or-set_same tallies (slice_index owners i) x 0 (omega (arith, a.one_each)) in
            let before : slice_index tallies (slice_index owners i) ≡ count_by (is_counted passes owners c) (below i) = ap (slice_index tallies) (sym same) ∙ a.reported c l in
            omega arith
        reported c l (inr other) =
            let no : count_by (is_counted passes owners c) (i ∷ []) ≡ 0 = one_no (is_counted passes owners c) i (λ k. e k && ne_eqb (slice_index owners i) c (λ f. other (sym f)) k) in
            let here : slice_index (set tallies (slice_index owners i) x) c ≡ slice_index tallies c = get_or-set_other tallies (slice_index owners i) c x 0 other in
            let before : slice_index tallies c ≡ count_by (is_counted passes owners c) (below i) = a.reported c l in
            omega arith

  pub things_end : (i : ℕ) (tallies : List ℕ) → i ≡ length owners → AreTalliesUpTo i passes owners count tallies → AreTallies passes owners count tallies
  things_end i tallies e a = record { one_each = a.one_each; reported = λ c l. a.reported c l ∙ ap (λ k. count_by (is_counted passes owners c) (below k)) e }

-- the tetrahedron of an item
pub owner_inside : (e t n : ℕ) → 0 < e → e ≤ 3 → t < 4 * e * n → t / e / 4 < n
owner_inside zero t n l m h = absurd (omega arith)
owner_inside (suc zero) t n l m h = omega arith
owner_inside (suc (suc zero)) t n l m h = omega arith
owner_inside (suc (suc (suc zero))) t n l m h = omega arith
owner_inside (suc (suc (suc (suc e)))) t n l m h = absurd (omega arith)

-- counts by tests that agree
pub count_same : (p q : ℕ → Bool) (n : ℕ) → ((i : ℕ) → i < n → p i ≡ q i) → count_by p (below n) ≡ count_by q (below n)
count_same p q zero h = refl
count_same p q (suc n) h =
    let s : suc n ≡ n + 1 = omega arith in
    let before : count_by p (below n) ≡ count_by q (below n) = count_same p q n (λ i l. h i (omega arith)) in
    let here : count_by p (n ∷ []) ≡ count_by q (n ∷ []) = ap (λ b. 0 + cond b 1 0) (h n (omega arith)) in
    ap (λ m. count_by p (below m)) s ∙ count_more p n ∙ (λ i. before i + here i) ∙ sym (count_more q n) ∙ sym (ap (λ m. count_by q (below m)) s)

-- what holds of each element, and of one more
pub each_more : {X : Type 0} (P : ℕ → X → Type 0) (xs : List X) (y : X) (n : ℕ) → length xs ≡ n → ((c : ℕ) (x : X) → c < n → x ≡ slice_index_or xs c x → P c x) → P n y
    → (c : ℕ) (x : X) → c < n + 1 → x ≡ slice_index_or (xs ++ y ∷ []) c x → P c x
each_more {X} P xs y n size h new c x l e = elim (cases_lt c n) [
  | inl less ↦ let inside : c < length xs = omega arith in h c x less (e ∙ get_or_append_left xs (y ∷ []) x c inside)
  | inr more ↦ let same : c ≡ n = omega arith in
      let at : x ≡ y = e ∙ ap (λ k. slice_index_or (xs ++ y ∷ []) k x) same ∙ get_or_push xs y x n size in
      subst₂ P (sym same) (sym at) new
]
