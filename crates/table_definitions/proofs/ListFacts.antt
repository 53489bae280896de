-- Facts on lists of numbers and on tests of them.
use Rattle.std.proofs.Common.{◌≡◌, ℕ, zero, suc, ◌+◌, ◌<◌, Bool, true, false, List, [], ◌∷◌, length, get_or, map, ◌++◌, ◌∙◌, Option, Some, None, refl, arith, subst, ap, sym}
use Rattle.std.proofs.Math.Dec.{eqb}
use Rattle.std.specs.Prelude.{◌==◌, ◌&&◌, sum_by}
use Rattle.std.proofs.lemmas.List.FromFn.{length-range_with_len, get_or-range_with_len, map-range_with_len_more}
use Rattle.std.specs.List.{list_all, range_with_len}
use Rattle.std.specs.Option.{option_or}
use Rattle.std.proofs.lemmas.List.Sums.{sum_by_push}
use lib.Pointwise.{pointwise}
use Rattle.table_definitions.specs.Lists.{below, same_list, first_some, pairs_of}
use Rattle.basic_lemmas.proofs.Options.{both_none}
use Rattle.basic_lemmas.proofs.Numbers.{range_next}

pub both_true : (a b : Bool) → a && b ≡ true → (a ≡ true) × (b ≡ true)
both_true true true h = (refl, refl)
both_true true false h = (refl, h)
both_true false b h = cc

-- a test that all elements pass is passed by the one at index i
pub list_all-at : {X : Type 0} (test : X → Bool) (xs : List X) → list_all test xs ≡ true → (i : ℕ) (d : X) → i < length xs → test (get_or xs i d) ≡ true
list_all-at test [] h i d l = absurd (omega arith)
list_all-at test (x ∷ xs) h zero d l = grind arith
list_all-at test (x ∷ xs) h (suc i) d l = grind (arith, list_all-at test xs)

-- a test that all numbers below n pass is passed by i
pub list_all-below : (test : ℕ → Bool) (n : ℕ) → list_all test (below n) ≡ true → (i : ℕ) → i < n → test i ≡ true
list_all-below test n h i l =
    let in_range : i < length (below n) = rw length-range_with_len l in
    let e : get_or (below n) i 0 ≡ 0 + i = get_or-range_with_len 0 n i 0 l in
    let f : get_or (below n) i 0 ≡ i = omega arith in
    let s = list_all-at test (below n) h i 0 in_range in
    let P : ℕ → Type 0 = λ k. test k ≡ true in
    subst P f s

-- the numbers below n + 1, and a sum over them
pub below_next : (n : ℕ) → below (n + 1) ≡ below n ++ n ∷ []
below_next n = let e : 0 + n ≡ n = omega arith in range_next 0 n ∙ ap (λ k. below n ++ k ∷ []) e

pub sum_below_next : (f : ℕ → ℕ) (n : ℕ) → sum_by f (below (n + 1)) ≡ sum_by f (below n) + f n
sum_below_next f n = ap (sum_by f) (below_next n) ∙ sum_by_push f (below n) n

pub same_list-true : (xs ys : List ℕ) → same_list xs ys ≡ true → xs ≡ ys
same_list-true [] [] h = refl
same_list-true [] (y ∷ ys) h = cc
same_list-true (x ∷ xs) [] h = cc
same_list-true (x ∷ xs) (y ∷ ys) h = grind (arith, same_list-true xs ys)

pub same_list-refl : (xs : List ℕ) → same_list xs xs ≡ true
same_list-refl [] = refl
same_list-refl (x ∷ xs) = grind (arith, same_list-refl xs)

-- a list of four elements
pub four_elements : (w : List ℕ) → length w ≡ 4 → w ≡ get_or w 0 0 ∷ get_or w 1 0 ∷ get_or w 2 0 ∷ get_or w 3 0 ∷ []
four_elements [] h = cc
four_elements (a ∷ []) h = cc
four_elements (a ∷ b ∷ []) h = cc
four_elements (a ∷ b ∷ c ∷ []) h = cc
four_elements (a ∷ b ∷ c ∷ d ∷ []) h = refl
four_elements (a ∷ b ∷ c ∷ d ∷ e ∷ w) h = absurd (omega arith)

-- the test of the standard library whether lists are equal is `same_list` for numbers
pub pointwise-same_list : (xs ys : List ℕ) → pointwise eqb xs ys ≡ same_list xs ys
pointwise-same_list [] [] = refl
pointwise-same_list [] (y ∷ ys) = refl
pointwise-same_list (x ∷ xs) [] = refl
pointwise-same_list (x ∷ xs) (y ∷ ys) = ap (λ b. (x == y) && b) (pointwise-same_list xs ys)

-- the first result among the items

pub first_some-append : {A B : Type 0} (f : A → Option B) (xs ys : List A) → first_some f (xs ++ ys) ≡ option_or (first_some f xs) (first_some f ys)
first_some-append f [] ys = refl
first_some-append f (x ∷ xs) ys = ap (option_or (f x)) (first_some-append f xs ys) ∙ option_or-assoc (f x) (first_some f xs) (first_some f ys)
  where
    option_or-assoc : {B : Type 0} (a b c : Option B) → option_or a (option_or b c) ≡ option_or (option_or a b) c
    option_or-assoc None b c = refl
    option_or-assoc (Some a) b c = refl

pub first_some-map : {A B C : Type 0} (f : B → Option C) (g : A → B) (xs : List A) → first_some f (map g xs) ≡ first_some (λ x. f (g x)) xs
first_some-map f g [] = refl
first_some-map f g (x ∷ xs) = ap (option_or (f (g x))) (first_some-map f g xs)

pub first_some-pairs_of : {A B C : Type 0} (f : A × B → Option C) (xs : List A) (ys : List B) → first_some f (pairs_of xs ys) ≡ first_some (λ x. first_some (λ y. f (x, y)) ys) xs
first_some-pairs_of f [] ys = refl
first_some-pairs_of {A} {B} f (x ∷ xs) ys =
    let others : List (A × B) = pairs_of xs ys in
    first_some-append f (map (λ (y : B). (x, y)) ys) others
    ∙ ap (λ o. option_or o (first_some f others)) (first_some-map f (λ (y : B). (x, y)) ys)
    ∙ ap (option_or (first_some (λ y. f (x, y)) ys)) (first_some-pairs_of f xs ys)

-- the first result is that of the number a + i, if no number before it has one
pub first_some-from : {B : Type 0} (f : ℕ → Option B) (a n i : ℕ) (e : B) → i < n → ((k : ℕ) → k < i → f (a + k) ≡ None) → f (a + i) ≡ Some e → first_some f (range_with_len a n) ≡ Some e
first_some-from f a zero i e l before found = absurd (omega arith)
first_some-from {B} f a (suc n) zero e l before found =
    let Finds : ℕ → Type 0 = λ k. f k ≡ Some e in
    let h : f a ≡ Some e = subst Finds (omega arith) found in
    rw h refl
first_some-from {B} f a (suc n) (suc i) e l before found =
    let Finds : ℕ → Type 0 = λ k. f k ≡ Some e in
    let Misses : ℕ → Type 0 = λ k. f k ≡ None in
    let h : f a ≡ None = subst Misses (omega arith) (before 0 (omega arith)) in
    let later : first_some f (range_with_len (a + 1) n) ≡ Some e =
    first_some-from f (a + 1) n i e (omega arith) (λ k m. subst Misses (omega arith) (before (suc k) (omega arith))) (subst Finds (omega arith) found) in
    rw h later

pub first_some-none_from : {B : Type 0} (f : ℕ → Option B) (a n : ℕ) → ((k : ℕ) → k < n → f (a + k) ≡ None) → first_some f (range_with_len a n) ≡ None
first_some-none_from f a zero none = refl
first_some-none_from f a (suc n) none =
    let Misses : ℕ → Type 0 = λ k. f k ≡ None in
    let h : f a ≡ None = subst Misses (omega arith) (none 0 (omega arith)) in
    rw h (first_some-none_from f (a + 1) n (λ k m. subst Misses (omega arith) (none (suc k) (omega arith))))

pub first_some-below : {B : Type 0} (f : ℕ → Option B) (n i : ℕ) (e : B) → i < n → ((k : ℕ) → k < i → f k ≡ None) → f i ≡ Some e → first_some f (below n) ≡ Some e
first_some-below f n i e l before found =
    let Finds : ℕ → Type 0 = λ k. f k ≡ Some e in
    let Misses : ℕ → Type 0 = λ k. f k ≡ None in
    first_some-from f 0 n i e l (λ k m. subst Misses (omega arith) (before k m)) (subst Finds (omega arith) found)

pub first_some-none_below : {B : Type 0} (f : ℕ → Option B) (n : ℕ) → ((k : ℕ) → k < n → f k ≡ None) → first_some f (below n) ≡ None
first_some-none_below f n none =
    let Misses : ℕ → Type 0 = λ k. f k ≡ None in
    first_some-none_from f 0 n (λ k m. subst Misses (omega arith) (none k m))

-- if there is no result, no item gives one
pub first_some-is_none : {A B : Type 0} (f : A → Option B) (xs : List A) → first_some f xs ≡ None → (i : ℕ) (d : A) → i < length xs → f (get_or xs i d) ≡ None
first_some-is_none f [] h i d l = absurd (omega arith)
first_some-is_none f (x ∷ xs) h zero d l = (both_none (f x) (first_some f xs) h).0
first_some-is_none f (x ∷ xs) h (suc i) d l = first_some-is_none f xs (both_none (f x) (first_some f xs) h).1 i d (omega arith)

-- lists are equal if a test finds their elements equal
pub pointwise-true : {A : Type 0} (E : A → A → Bool) → ((x y : A) → E x y ≡ true → x ≡ y) → (xs ys : List A) → pointwise E xs ys ≡ true → xs ≡ ys
pointwise-true E determines [] [] h = refl
pointwise-true E determines [] (y ∷ ys) h = cc
pointwise-true E determines (x ∷ xs) [] h = cc
pointwise-true E determines (x ∷ xs) (y ∷ ys) h =
    let b = both_true (E x y) (pointwise E xs ys) h in
    ap (λ z. z ∷ xs) (determines x y b.0) ∙ ap (λ zs. y ∷ zs) (pointwise-true E determines xs ys b.1)

pub pointwise-refl : {A : Type 0} (E : A → A → Bool) → ((x : A) → E x x ≡ true) → (xs : List A) → pointwise E xs xs ≡ true
pointwise-refl E same [] = refl
pointwise-refl E same (x ∷ xs) = rw (same x) (pointwise-refl E same xs)

-- a list that is extended number by number
pub map_below_more : {X : Type 0} (f : ℕ → X) (t : ℕ) (xs new : List X) (x : X) → xs ≡ map f (below t) → new ≡ xs ++ x ∷ [] → x ≡ f t → new ≡ map f (below (t + 1))
map_below_more {X} f t xs new x a b e = b ∙ ap (λ (ys : List X). ys ++ x ∷ []) a ∙ ap (λ (y : X). map f (below t) ++ y ∷ []) e ∙ sym (map-range_with_len_more f 0 t t (omega arith))

-- a list of f of each of four entries
pub four_made : {A B : Type 0} (f : A → B) (d : A) (xs : List A) → length xs ≡ 4 → f (get_or xs 0 d) ∷ f (get_or xs 1 d) ∷ f (get_or xs 2 d) ∷ f (get_or xs 3 d) ∷ [] ≡ map f xs
four_made f d [] h = absurd (omega (arith, h))
four_made f d (a ∷ []) h = absurd (omega (arith, h))
four_made f d (a ∷ b ∷ []) h = absurd (omega (arith, h))
four_made f d (a ∷ b ∷ c ∷ []) h = absurd (omega (arith, h))
four_made f d (a ∷ b ∷ c ∷ e ∷ []) h = refl
four_made f d (a ∷ b ∷ c ∷ e ∷ g ∷ xs) h = absurd (omega (arith, h))
