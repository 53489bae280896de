-- A list of n different numbers below n is a permutation of the numbers below n.
use Rattle.std.proofs.Common.{◌≡◌, ℕ, zero, suc, ◌+◌, ◌<◌, Bool, true, false, List, [], ◌∷◌, ◌++◌, length, get_or, refl, sym, ap, ◌∙◌, subst, arith}
use Rattle.std.specs.Prelude.{◌==◌, ◌≢◌, nat_eq, All, Contains, IsPermutation}
use Rattle.std.specs.List.{range_with_len, AllByRecursion, IsDistinct, remove}
use Rattle.std.proofs.lemmas.List.Sorted.{IsPermutation-refl, IsPermutation-sym, IsPermutation-trans, IsPermutation-cons, IsPermutation-to_front, IsPermutation-remove, length_permutation, All-permutation, Contains-permutation}
use Rattle.std.proofs.lemmas.Map.Keys.{IsDistinct-IsPermutation, IsDistinct-head, IsDistinct-tail}
use Rattle.std.proofs.lemmas.Map.Made.{IsDistinct-from_AllPairs}
use Rattle.std.proofs.lemmas.Bool.Decides.{Decides-eqb}
use Rattle.std.proofs.lemmas.List.Folds.{Any-from_list_any, list_any_at}
use Rattle.std.proofs.lemmas.List.Elements.{All-from_get_or, All-get_or}
use Rattle.std.proofs.lemmas.List.FromFn.{length-range_with_len, get_or-range_with_len}
use Rattle.std.proofs.lemmas.Bool.{eqb-true, eq-eqb}
use Rattle.table_definitions.specs.Lists.{below, has}

pub range-push : (a n : ℕ) → range_with_len a n ++ (a + n) ∷ [] ≡ range_with_len a (suc n)
range-push a zero = ap (λ k. k ∷ []) (omega arith)
range-push a (suc n) = ap (λ ks. a ∷ ks) (ap (λ k. range_with_len (a + 1) n ++ k ∷ []) (omega arith) ∙ range-push (a + 1) n)

pub below-push : (n : ℕ) → below n ++ n ∷ [] ≡ below (suc n)
below-push n = ap (λ k. below n ++ k ∷ []) (omega arith) ∙ range-push 0 n

-- the elements of a list that does not contain n are not n
pub not_there : (xs : List ℕ) (n k : ℕ) → has xs n ≡ false → k < length xs → get_or xs k 0 ≢ n
not_there xs n k h l e = let t = list_any_at (λ m. m == n) xs k 0 l (eq-eqb _ _ e) in cc

pub contains_has : (xs : List ℕ) (n : ℕ) → Contains xs n → has xs n ≡ true
contains_has xs n h = list_any_at (λ m. m == n) xs h.0 n h.1 (eq-eqb (get_or xs h.0 n) n h.2)

-- a list that contains n has it as an element
pub there : (xs : List ℕ) (n : ℕ) → has xs n ≡ true → (k : ℕ) × (k < length xs) × (n ≡ get_or xs k n)
there xs n h = found (Any-from_list_any (λ m. m == n) xs h)
  where
    found : (k : ℕ) × (y : ℕ) × (k < length xs) × (get_or xs k y ≡ y) × ((y == n) ≡ true) → (k : ℕ) × (k < length xs) × (n ≡ get_or xs k n)
    found (k, y, l, e, t) = let Is : ℕ → Type 0 = λ m. m ≡ get_or xs k m in (k, l, subst Is (eqb-true y n t) (sym e))

recursion-at : (P : ℕ → Type 0) (xs : List ℕ) (k d : ℕ) → AllByRecursion P xs → k < length xs → P (get_or xs k d)
recursion-at P [] k d a l = absurd (omega arith)
recursion-at P (x ∷ xs) zero d a l = a.0
recursion-at P (x ∷ xs) (suc k) d a l = recursion-at P xs k d a.1 (omega arith)

pub below_contains : (n x : ℕ) → x < n → Contains (below n) x
below_contains n x l = (x, rw length-range_with_len l, get_or-range_with_len 0 n x x l ∙ omega arith)

pub flips : (x y : ℕ) → nat_eq x y ≡ nat_eq y x
flips x y = grind arith

-- a list of n different numbers below n is a permutation of the numbers below n
pub onto : (n : ℕ) (xs : List ℕ) → length xs ≡ n → ((k : ℕ) → k < n → get_or xs k 0 < n) → IsDistinct nat_eq xs → IsPermutation xs (below n)
onto zero [] l small d = IsPermutation-refl []
onto zero (x ∷ xs) l small d = absurd (omega arith)
onto (suc n) [] l small d = absurd (omega arith)
onto (suc n) (x ∷ rest) l small d = by_has (λ ys m s e. onto n ys m s e) (has (x ∷ rest) n) refl
  where
    removed : ((ys : List ℕ) → length ys ≡ n → ((k : ℕ) → k < n → get_or ys k 0 < n) → IsDistinct nat_eq ys → IsPermutation ys (below n))
        → (ys : List ℕ) → IsPermutation (x ∷ rest) (n ∷ ys) → IsPermutation (x ∷ rest) (below (suc n))
    removed fewer ys p =
        let m : length ys ≡ n = omega (arith, length_permutation (x ∷ rest) (n ∷ ys) p) in
        let separate : IsDistinct nat_eq (n ∷ ys) = IsDistinct-IsPermutation nat_eq flips (x ∷ rest) (n ∷ ys) p d in
        let all : All (λ v. v < suc n) (n ∷ ys) = All-permutation (λ v. v < suc n) (x ∷ rest) (n ∷ ys) p (All-from_get_or (λ v. v < suc n) (x ∷ rest) 0 (λ k q. small k (omega arith))) in
        let less : (k : ℕ) → k < n → get_or ys k 0 < n = λ k q.
        (let b : get_or ys k 0 < suc n = All-get_or (λ v. v < suc n) (n ∷ ys) (suc k) 0 (omega arith) all in
        let other : nat_eq n (get_or ys k 0) ≡ false = recursion-at (λ v. nat_eq n v ≡ false) ys k 0 (IsDistinct-head nat_eq n ys separate) (omega arith) in
        let differs : n ≢ get_or ys k 0 = λ e. (let t = eq-eqb n (get_or ys k 0) e in cc) in
        omega arith) in
        let front : IsPermutation (n ∷ ys) (n ∷ below n) = IsPermutation-cons n ys (below n) (fewer ys m less (IsDistinct-tail nat_eq n ys separate)) in
        let back : IsPermutation (n ∷ below n) (below n ++ n ∷ []) = IsPermutation-sym (below n ++ n ∷ []) (n ∷ below n) (IsPermutation-to_front (below n) n) in
        let whole : IsPermutation (x ∷ rest) (below n ++ n ∷ []) = IsPermutation-trans (x ∷ rest) (n ∷ ys) (below n ++ n ∷ []) p (IsPermutation-trans (n ∷ ys) (n ∷ below n) (below n ++ n ∷ []) front back) in
        subst (λ (zs : List ℕ). IsPermutation (x ∷ rest) zs) (below-push n) whole

    repeated : ((ys : List ℕ) → length ys ≡ n → ((k : ℕ) → k < n → get_or ys k 0 < n) → IsDistinct nat_eq ys → IsPermutation ys (below n)) → has (x ∷ rest) n ≡ false → ⊥
    repeated fewer h =
        let less : (k : ℕ) → k < suc n → get_or (x ∷ rest) k 0 < n = λ k q.
        (let b = small k q in let differs : get_or (x ∷ rest) k 0 ≢ n = not_there (x ∷ rest) n k h (omega arith) in omega arith) in
        let p : IsPermutation rest (below n) = fewer rest (omega arith) (λ k q. less (suc k) (omega arith)) (IsDistinct-tail nat_eq x rest d) in
        let c : Contains rest x = Contains-permutation (below n) rest x (IsPermutation-sym rest (below n) p) (below_contains n x (less 0 (omega arith))) in
        let other : nat_eq x (get_or rest c.0 x) ≡ false = recursion-at (λ v. nat_eq x v ≡ false) rest c.0 x (IsDistinct-head nat_eq x rest d) c.1 in
        let same : nat_eq x (get_or rest c.0 x) ≡ true = eq-eqb x (get_or rest c.0 x) (sym c.2) in
        cc

    by_has : ((ys : List ℕ) → length ys ≡ n → ((k : ℕ) → k < n → get_or ys k 0 < n) → IsDistinct nat_eq ys → IsPermutation ys (below n))
        → (b : Bool) → has (x ∷ rest) n ≡ b → IsPermutation (x ∷ rest) (below (suc n))
    by_has fewer true h =
        let found : (k : ℕ) × (k < length (x ∷ rest)) × (n ≡ get_or (x ∷ rest) k n) = there (x ∷ rest) n h in
        removed fewer (remove (x ∷ rest) found.0) (IsPermutation-remove (x ∷ rest) found.0 n found.1 found.2)
    by_has fewer false h = absurd (repeated fewer h)

-- the default does not matter in range
pub get_or-any : (xs : List ℕ) (i d e : ℕ) → i < length xs → get_or xs i d ≡ get_or xs i e
get_or-any [] i d e l = absurd (omega arith)
get_or-any (x ∷ xs) zero d e l = refl
get_or-any (x ∷ xs) (suc i) d e l = get_or-any xs i d e (omega arith)

pub IsDistinct-from_before : (xs : List ℕ) → ((i j : ℕ) → i < j → j < length xs → get_or xs i 0 ≢ get_or xs j 0) → IsDistinct nat_eq xs
IsDistinct-from_before xs separate =
    IsDistinct-from_AllPairs Decides-eqb xs (λ i j d l m e. separate i j l m (get_or-any xs i 0 d (omega arith) ∙ e ∙ get_or-any xs j d 0 m))
