-- Sums over ranges, over images of lists, and over pairs.
use Rattle.std.proofs.Common.{◌≡◌, ℕ, zero, suc, ◌+◌, ◌-◌, ◌<◌, ◌≤◌, List, [], ◌∷◌, ◌++◌, length, get_or, map, flat_map, inl, inr, refl, sym, ap, ◌∙◌, arith}
use Rattle.std.specs.Prelude.{sum_by}
use Rattle.std.specs.List.{range_with_len}
use Rattle.std.proofs.lemmas.Bool.{cases_eq}
use Rattle.std.proofs.lemmas.List.Sums.{sum_by-cons, sum_by-append}
use Rattle.table_definitions.specs.Lists.{below}
use Rattle.table_definitions.proofs.TableLaws.{Among}
use Rattle.table_definitions.proofs.Bijections.{below-push}
use Rattle.surface_laws.proofs.Sums.{sum_by_plus}

-- sums of equal terms are equal
pub sum_by_same : {A : Type 0} (f g : A → ℕ) (xs : List A) → ((x : A) → Among x xs → f x ≡ g x) → sum_by f xs ≡ sum_by g xs
sum_by_same f g [] h = refl
sum_by_same f g (x ∷ xs) h =
    let more : sum_by f xs ≡ sum_by g xs = sum_by_same f g xs (λ y a. h y (inr a)) in
    omega (arith, sum_by-cons f x xs, sum_by-cons g x xs, h x (inl refl))

pub sum_by-none : {A : Type 0} (f : A → ℕ) (xs : List A) → ((x : A) → Among x xs → f x ≡ 0) → sum_by f xs ≡ 0
sum_by-none f [] h = refl
sum_by-none f (x ∷ xs) h = omega (arith, sum_by-cons f x xs, h x (inl refl), sum_by-none f xs (λ y a. h y (inr a)))

pub sum_by-map : {A B : Type 0} (f : B → ℕ) (h : A → B) (xs : List A) → sum_by f (map h xs) ≡ sum_by (λ x. f (h x)) xs
sum_by-map f h [] = refl
sum_by-map f h (x ∷ xs) = omega (arith, sum_by-cons f (h x) (map h xs), sum_by-cons (λ x. f (h x)) x xs, sum_by-map f h xs)

pub sum_by-flat_map : {A B : Type 0} (f : B → ℕ) (F : A → List B) (xs : List A) → sum_by f (flat_map F xs) ≡ sum_by (λ x. sum_by f (F x)) xs
sum_by-flat_map f F [] = refl
sum_by-flat_map f F (x ∷ xs) = omega (arith, sum_by-append f (F x) (flat_map F xs), sum_by-cons (λ x. sum_by f (F x)) x xs, sum_by-flat_map f F xs)

-- a sum of sums in the other order
pub sum_swap : {A B : Type 0} (f : A → B → ℕ) (xs : List A) (ys : List B) → sum_by (λ x. sum_by (f x) ys) xs ≡ sum_by (λ y. sum_by (λ x. f x y) xs) ys
sum_swap f [] ys = sym (sum_by-none (λ y. sum_by (λ x. f x y) []) ys (λ y a. refl))
sum_swap f (x ∷ xs) ys =
    sum_by-cons (λ x. sum_by (f x) ys) x xs ∙ ap (λ k. sum_by (f x) ys + k) (sum_swap f xs ys)
    ∙ sym (sum_by_plus (f x) (λ y. sum_by (λ x. f x y) xs) (λ y. sum_by (λ x. f x y) (x ∷ xs)) (λ y. sum_by-cons (λ x. f x y) x xs) ys)

-- a sum over a range of which one term alone may be other than 0
range_zero : (f : ℕ → ℕ) (c a n : ℕ) → ((k : ℕ) → (k ≡ c → ⊥) → f k ≡ 0) → c < a → sum_by f (range_with_len a n) ≡ 0
range_zero f c a zero h l = refl
range_zero f c a (suc n) h l =
    let here : f a ≡ 0 = h a (λ e. omega arith) in
    let more : sum_by f (range_with_len (a + 1) n) ≡ 0 = range_zero f c (a + 1) n h (omega arith) in
    omega (arith, sum_by-cons f a (range_with_len (a + 1) n))

range_one : (f : ℕ → ℕ) (c a n : ℕ) → ((k : ℕ) → (k ≡ c → ⊥) → f k ≡ 0) → a ≤ c → c < a + n → sum_by f (range_with_len a n) ≡ f c
range_one f c a zero h l m = absurd (omega arith)
range_one f c a (suc n) h l m = elim (cases_eq a c) [
  | inl e ↦ (let same : f a ≡ f c = ap f e in
      let more : sum_by f (range_with_len (a + 1) n) ≡ 0 = range_zero f c (a + 1) n h (omega arith) in
      omega (arith, sum_by-cons f a (range_with_len (a + 1) n)))
  | inr separate ↦ (let here : f a ≡ 0 = h a separate in
      let more : sum_by f (range_with_len (a + 1) n) ≡ f c = range_one f c (a + 1) n h (omega arith) (omega arith) in
      omega (arith, sum_by-cons f a (range_with_len (a + 1) n)))
]

pub one_term : (f : ℕ → ℕ) (c n : ℕ) → ((k : ℕ) → (k ≡ c → ⊥) → f k ≡ 0) → c < n → sum_by f (below n) ≡ f c
one_term f c n h l = let m : c < 0 + n = omega arith in range_one f c 0 n h (omega arith) m

-- a sum over the indices of a list is a sum over its items
range_places : {A : Type 0} (G : A → ℕ) (f : ℕ → ℕ) (d : A) (ps : List A) (a : ℕ) → ((i : ℕ) → i < length ps → f (a + i) ≡ G (get_or ps i d)) → sum_by f (range_with_len a (length ps)) ≡ sum_by G ps
range_places G f d [] a h = refl
range_places G f d (p ∷ ps) a h =
    let i : a + 0 ≡ a = omega arith in
    let here : f a ≡ G p = ap f (sym i) ∙ h 0 (omega arith) in
    let more : sum_by f (range_with_len (a + 1) (length ps)) ≡ sum_by G ps =
    range_places G f d ps (a + 1) (λ j l. let e : a + 1 + j ≡ a + suc j = omega arith in ap f e ∙ h (suc j) (omega arith)) in
    omega (arith, sum_by-cons f a (range_with_len (a + 1) (length ps)), sum_by-cons G p ps)

pub over_places : {A : Type 0} (G : A → ℕ) (f : ℕ → ℕ) (d : A) (ps : List A) → ((i : ℕ) → i < length ps → f i ≡ G (get_or ps i d)) → sum_by f (below (length ps)) ≡ sum_by G ps
over_places G f d ps h = range_places G f d ps 0 (λ i l. let e : 0 + i ≡ i = omega arith in ap f e ∙ h i l)

-- the last term of a sum over numbers; each term is at most the sum; a sum over the numbers below m + n
pub last_term : (f : ℕ → ℕ) (n : ℕ) → sum_by f (below (suc n)) ≡ sum_by f (below n) + f n
last_term f n =
    let e : sum_by f (below n ++ n ∷ []) ≡ sum_by f (below n) + sum_by f (n ∷ []) = sum_by-append f (below n) (n ∷ []) in
    let g : sum_by f (n ∷ []) ≡ f n + sum_by f [] = sum_by-cons f n [] in
    let z : sum_by f [] ≡ 0 = refl in
    ap (sum_by f) (sym (below-push n)) ∙ omega arith

pub term_most : (f : ℕ → ℕ) (n i : ℕ) → i < n → f i ≤ sum_by f (below n)
term_most f zero i l = absurd (omega arith)
term_most f (suc n) i l = elim (cases_eq i n) [
  | inl e ↦ (let same : f i ≡ f n = ap f e in omega (arith, last_term f n))
  | inr separate ↦ (let less : f i ≤ sum_by f (below n) = term_most f n i (omega arith) in omega (arith, last_term f n))
]

pub below_sum : (f : ℕ → ℕ) (m n : ℕ) → sum_by f (below (m + n)) ≡ sum_by f (below m) + sum_by (λ j. f (m + j)) (below n)
below_sum f m zero = let e : m + 0 ≡ m = omega arith in ap (λ k. sum_by f (below k)) e ∙ (let z : sum_by f (below m) ≡ sum_by f (below m) + 0 = omega arith in z)
below_sum f m (suc n) =
    let e : m + suc n ≡ suc (m + n) = omega arith in
    let one : sum_by f ((m + n) ∷ []) ≡ f (m + n) + 0 = sum_by-cons f (m + n) [] in
    let last : sum_by f (below (m + suc n)) ≡ sum_by f (below (m + n)) + f (m + n) =
    ap (λ k. sum_by f (below k)) e ∙ ap (sum_by f) (sym (below-push (m + n))) ∙ sum_by-append f (below (m + n)) ((m + n) ∷ []) ∙ (let t : sum_by f (below (m + n)) + sum_by f ((m + n) ∷ []) ≡ sum_by f (below (m + n)) + f (m + n) = omega arith in t) in
    let one' : sum_by (λ j. f (m + j)) (n ∷ []) ≡ f (m + n) + 0 = sum_by-cons (λ j. f (m + j)) n [] in
    let last' : sum_by (λ j. f (m + j)) (below (suc n)) ≡ sum_by (λ j. f (m + j)) (below n) + f (m + n) =
    ap (sum_by (λ j. f (m + j))) (sym (below-push n)) ∙ sum_by-append (λ j. f (m + j)) (below n) (n ∷ []) ∙ (let t : sum_by (λ j. f (m + j)) (below n) + sum_by (λ j. f (m + j)) (n ∷ []) ≡ sum_by (λ j. f (m + j)) (below n) + f (m + n) = omega arith in t) in
    let before : sum_by f (below (m + n)) ≡ sum_by f (below m) + sum_by (λ j. f (m + j)) (below n) = below_sum f m n in
    omega arith

-- the term of 0 is split off
below_first : (f : ℕ → ℕ) (n : ℕ) → sum_by f (below (suc n)) ≡ f 0 + sum_by (λ j. f (1 + j)) (below n)
below_first f n =
    let e : 1 + n ≡ suc n = omega arith in
    let one : sum_by f (below 1) ≡ f 0 + 0 = sum_by-cons f 0 [] in
    let whole : sum_by f (below (1 + n)) ≡ sum_by f (below 1) + sum_by (λ j. f (1 + j)) (below n) = below_sum f 1 n in
    ap (λ k. sum_by f (below k)) (sym e) ∙ whole ∙ omega arith

-- a sum in the other direction
pub sum_back : (f : ℕ → ℕ) (n : ℕ) → sum_by (λ j. f (n - 1 - j)) (below n) ≡ sum_by f (below n)
sum_back f zero = refl
sum_back f (suc n) =
    let top : suc n - 1 - 0 ≡ n = omega arith in
    let first : sum_by (λ j. f (suc n - 1 - j)) (below (suc n)) ≡ f (suc n - 1 - 0) + sum_by (λ j. f (suc n - 1 - (1 + j))) (below n) = below_first (λ j. f (suc n - 1 - j)) n in
    let shift : sum_by (λ j. f (suc n - 1 - (1 + j))) (below n) ≡ sum_by (λ j. f (n - 1 - j)) (below n) = sum_by_same (λ j. f (suc n - 1 - (1 + j))) (λ j. f (n - 1 - j)) (below n) (λ j a. let e : suc n - 1 - (1 + j) ≡ n - 1 - j = omega arith in ap f e) in
    let rest : sum_by (λ j. f (n - 1 - j)) (below n) ≡ sum_by f (below n) = sum_back f n in
    let one : sum_by f (n ∷ []) ≡ f n + 0 = sum_by-cons f n [] in
    let last : sum_by f (below (suc n)) ≡ sum_by f (below n) + sum_by f (n ∷ []) = ap (sum_by f) (sym (below-push n)) ∙ sum_by-append f (below n) (n ∷ []) in
    let at_top : f (suc n - 1 - 0) ≡ f n = ap f top in
    omega arith
