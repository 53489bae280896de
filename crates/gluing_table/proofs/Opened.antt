-- Numbers of the rows that are left, raised above those of removed rows.
use Rattle.std.proofs.Common.{◌≡◌, ℕ, zero, suc, ◌+◌, ◌<◌, ◌≤◌, Bool, true, false, cond, List, [], ◌∷◌, ◌++◌, length, get_or, take, refl, sym, ap, ◌∙◌, arith, inl, inr, length-take-le, get_or-take}
use Rattle.std.specs.Prelude.{◌⊎◌, ◌==◌, ◌||◌, nat_lt, ◌≢◌}
use Rattle.std.proofs.lemmas.List.{take_more, take_all, get_or-map, length-map}
use Rattle.std.proofs.lemmas.List.Sums.{sum_by-append, count_by-le-length}
use Rattle.std.proofs.lemmas.Bool.{lt-ltb, le-ltb, cases_lt, ne_eqb}
use Rattle.table_definitions.specs.Lists.{has}
use Rattle.table_definitions.specs.Table.{Row}
use Rattle.table_definitions.specs.Replaceable.{numbers_of, gone_before}
use Rattle.table_definitions.proofs.Bijections.{there}
use Rattle.table_definitions.proofs.Marked.{has_push}
use Rattle.table_definitions.proofs.Ranks.{count_whole}
use Rattle.basic_lemmas.proofs.Truths.{one_if}
use Rattle.basic_lemmas.proofs.Members.{Ascends}

-- the number of a row, raised above those of the first i removed rows
pub record IsOpened (gone : List ℕ) (i place number : ℕ) : Type 0 where
  pub value : number ≡ place + gone_before (take i gone) number
  pub free : has (take i gone) number ≡ false

pub has-none : (xs : List ℕ) (v : ℕ) → ((k : ℕ) → k < length xs → get_or xs k 0 ≢ v) → has xs v ≡ false
has-none xs v none = by_test (has xs v) refl
  where
    by_test : (b : Bool) → has xs v ≡ b → has xs v ≡ false
    by_test true h = let t = there xs v h in let same : get_or xs t.0 0 ≡ v = sym (get_or-same xs t.0 0 v t.1) ∙ sym t.2 in absurd (none t.0 t.1 same)
      where
        get_or-same : (ys : List ℕ) (k d e : ℕ) → k < length ys → get_or ys k e ≡ get_or ys k d
        get_or-same [] k d e l = absurd (omega arith)
        get_or-same (y ∷ ys) zero d e l = refl
        get_or-same (y ∷ ys) (suc k) d e l = get_or-same ys k d e (omega arith)
    by_test false h = h

gone_before-push : (xs : List ℕ) (x t : ℕ) → gone_before (xs ++ x ∷ []) t ≡ gone_before xs t + cond (nat_lt x t) 1 0
gone_before-push xs x t =
    let e : gone_before (xs ++ x ∷ []) t ≡ gone_before xs t + gone_before (x ∷ []) t = sum_by-append (λ u. cond (nat_lt u t) 1 0) xs (x ∷ []) in
    let f : gone_before (x ∷ []) t ≡ 0 + cond (nat_lt x t) 1 0 = refl in
    omega arith

pub opened_none : (gone : List ℕ) (place : ℕ) → IsOpened gone 0 place place
opened_none gone place = record { value = (let z : gone_before (take 0 gone) place ≡ 0 = refl in omega arith); free = refl }

pub opened_fits : (gone : List ℕ) (i place number : ℕ) → i ≤ length gone → IsOpened gone i place number → number ≤ place + i
opened_fits gone i place number l h = omega (arith, h.value, count_by-le-length (λ u. nat_lt u number) (take i gone), length-take-le i gone l)

-- the next removed row has at most this number
pub opened_more : (gone : List ℕ) (i place number taken : ℕ) → Ascends gone → i < length gone → taken ≡ get_or gone i 0 → IsOpened gone i place number → taken ≤ number → IsOpened gone (i + 1) place (number + 1)
opened_more gone i place number taken up l is h le = record {
  value = omega (arith, first, later, h.value);
  free = has-none (take (i + 1) gone) (number + 1) (λ k m e. absurd (let b = below (i + 1) k (omega arith) (rw (← many (i + 1) (omega arith)) m) in omega arith));
}
  where
    many : (j : ℕ) → j ≤ length gone → length (take j gone) ≡ j
    many j m = length-take-le j gone m

    below : (j k : ℕ) → j ≤ i + 1 → k < j → get_or (take j gone) k 0 < taken + 1
    below j k m q = by_place (cases_lt k i)
      where
        at : get_or (take j gone) k 0 ≡ get_or gone k 0
        at = get_or-take j gone k 0 q

        by_place : (k < i) ⊎ (i ≤ k) → get_or (take j gone) k 0 < taken + 1
        by_place (inl a) = let b : get_or gone k 0 < get_or gone i 0 = up k i 0 a l in omega (arith, at)
        by_place (inr a) = let e : k ≡ i = omega arith in let b : get_or gone k 0 ≡ get_or gone i 0 = ap (λ p. get_or gone p 0) e in omega (arith, at)

    first : gone_before (take i gone) number ≡ i
    first =
        count_whole (λ u. nat_lt u number) (take i gone)
        (λ k m. (let q : k < i = rw (← many i (omega arith)) m in let b : get_or gone k 0 < get_or gone i 0 = up k i 0 q l in let at : get_or (take i gone) k 0 ≡ get_or gone k 0 = get_or-take i gone k 0 q in lt-ltb (get_or (take i gone) k 0) number (omega arith)))
        ∙ many i (omega arith)

    later : gone_before (take (i + 1) gone) (number + 1) ≡ i + 1
    later =
        count_whole (λ u. nat_lt u (number + 1)) (take (i + 1) gone)
        (λ k m. lt-ltb (get_or (take (i + 1) gone) k 0) (number + 1) (let b = below (i + 1) k (omega arith) (rw (← many (i + 1) (omega arith)) m) in omega arith))
        ∙ many (i + 1) (omega arith)

-- the next removed row has a greater number
pub opened_same : (gone : List ℕ) (i place number taken : ℕ) → i < length gone → taken ≡ get_or gone i 0 → IsOpened gone i place number → number < taken → IsOpened gone (i + 1) place number
opened_same gone i place number taken l is h lt = record {
  value = omega (arith, h.value, ap (λ (xs : List ℕ). gone_before xs number) pushed, gone_before-push (take i gone) (get_or gone i 0) number, none);
  free = ap (λ (xs : List ℕ). has xs number) pushed ∙ has_push (take i gone) (get_or gone i 0) number ∙ ap (λ b. b || (get_or gone i 0 == number)) h.free ∙ ne_eqb (get_or gone i 0) number (λ e. absurd (omega arith));
}
  where
    pushed : take (i + 1) gone ≡ take i gone ++ get_or gone i 0 ∷ []
    pushed = take_more gone i 0 l

    none : one_if (nat_lt (get_or gone i 0) number) ≡ 0
    none = ap one_if (le-ltb (get_or gone i 0) number (omega arith))

pub opened_all : (gone : List ℕ) (i place number : ℕ) → length gone ≤ i → IsOpened gone i place number → (has gone number ≡ false) × (number ≡ place + gone_before gone number)
opened_all gone i place number l h =
    let all : take i gone ≡ gone = take_all i gone l in
    (ap (λ (xs : List ℕ). has xs number) (sym all) ∙ h.free, h.value ∙ ap (λ (xs : List ℕ). place + gone_before xs number) all)

-- the numbers of rows

pub number_at : (rows : List (ℕ × Row)) (i : ℕ) (row : ℕ × Row) → i < length rows → row ≡ get_or rows i row → row.0 ≡ get_or (numbers_of rows) i 0
number_at rows i row l is = ap (λ (x : ℕ × Row). x.0) is ∙ sym (get_or-map (λ (x : ℕ × Row). x.0) rows i row 0 l)

pub length-numbers_of : (rows : List (ℕ × Row)) → length (numbers_of rows) ≡ length rows
length-numbers_of rows = length-map rows (λ (x : ℕ × Row). x.0)
