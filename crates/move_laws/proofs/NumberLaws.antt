-- Numbers that pass a test, ranges, and rows with numbers.
use Rattle.std.proofs.Common.{◌≡◌, ℕ, zero, suc, ◌+◌, ◌-◌, ◌<◌, ◌≤◌, Bool, true, false, cond, List, [], ◌∷◌, length, map, get_or, refl, sym, ap, ◌∙◌, arith}
use Rattle.std.specs.Prelude.{◌==◌, ◌||◌, ◌≢◌, nat_lt, filter, All}
use Rattle.std.specs.List.{range_with_len, slice_index_or, position_or_len}
use Rattle.std.specs.List.Sorted.{IsStrictlyIncreasing}
use Rattle.std.proofs.lemmas.Bool.{eqb-true, eq-eqb, le-ltb}
use Rattle.std.proofs.lemmas.List.Folds.{list_any_at}
use Rattle.std.proofs.lemmas.List.FromFn.{length-range_with_len, get_or-range_with_len}
use Rattle.std.proofs.lemmas.List.Kept.{IsStrictlyIncreasing-filter, AllPairs-from_increasing}
use Rattle.std.proofs.lemmas.List.Sums.{sum_by-cons}
use Rattle.table_definitions.specs.Lists.{has, below}
use Rattle.table_definitions.specs.Table.{Row}
use Rattle.table_definitions.specs.Replacing.{fresh_row}
use Rattle.table_definitions.specs.Replaceable.{gone_before}
use Rattle.table_definitions.proofs.Ranks.{picked, rank, rank-suc, length-picked, of_rank, at_rank}
use Rattle.table_definitions.proofs.Bijections.{there, get_or-any}
use Rattle.move_laws.specs.Facets.{numbered}
use Rattle.basic_lemmas.proofs.Truths.{one_if}

-- no number occurs twice
abbrev pub Apart : List ℕ → Type 0
Apart xs = (i j : ℕ) → i < j → j < length xs → get_or xs i 0 ≢ get_or xs j 0

pub rank-same : (p q : ℕ → Bool) (t : ℕ) → ((u : ℕ) → u < t → p u ≡ q u) → rank p t ≡ rank q t
rank-same p q zero same = refl
rank-same p q (suc t) same =
    let before = rank-same p q t (λ u l. same u (omega arith)) in
    let here : one_if (p t) ≡ one_if (q t) = ap one_if (same t (omega arith)) in
    omega (arith, rank-suc p t, rank-suc q t)

rank-nothing : (t : ℕ) → rank (has []) t ≡ 0
rank-nothing zero = refl
rank-nothing (suc t) =
    let before = rank-nothing t in
    let here : one_if (has [] t) ≡ 0 = refl in
    omega (arith, rank-suc (has []) t)

below-suc : (x t : ℕ) → one_if (nat_lt x (suc t)) ≡ one_if (nat_lt x t) + one_if (x == t)
below-suc x t = grind arith

rank-one : (x t : ℕ) → rank (λ u. x == u) t ≡ one_if (nat_lt x t)
rank-one x zero = sym (ap one_if (le-ltb x 0 (omega arith)))
rank-one x (suc t) =
    let before = rank-one x t in
    omega (arith, below-suc x t, rank-suc (λ u. x == u) t)

rank-or : (x : ℕ) (xs : List ℕ) (t : ℕ) → has xs x ≡ false → rank (has (x ∷ xs)) t ≡ rank (λ u. x == u) t + rank (has xs) t
rank-or x xs zero free = refl
rank-or x xs (suc t) free =
    let before = rank-or x xs t free in
    omega (arith, rank-suc (has (x ∷ xs)) t, rank-suc (λ u. x == u) t, rank-suc (has xs) t, by_test (x == t) refl)
  where
    by_test : (b : Bool) → (x == t) ≡ b → one_if (has (x ∷ xs) t) ≡ one_if (x == t) + one_if (has xs t)
    by_test true e =
        let none : has xs t ≡ false = ap (has xs) (sym (eqb-true x t e)) ∙ free in
        ap (λ b. one_if (b || has xs t)) e ∙ ap (λ b. one_if b) (sym e) ∙ (let z : one_if (has xs t) ≡ 0 = ap one_if none in omega arith)
    by_test false e = ap (λ b. one_if (b || has xs t)) e ∙ (let z : one_if (x == t) ≡ 0 = ap one_if e in omega arith)

pub not-has : (xs : List ℕ) (u : ℕ) → (has xs u ≡ true → ⊥) → has xs u ≡ false
not-has xs u never = by_test (has xs u) refl
  where
    by_test : (b : Bool) → has xs u ≡ b → has xs u ≡ false
    by_test true h = absurd (never h)
    by_test false h = h

-- the count of numbers below t that are in the list is the count of items of the list below t
pub rank-has : (xs : List ℕ) (t : ℕ) → Apart xs → rank (has xs) t ≡ gone_before xs t
rank-has [] t separate = rank-nothing t
rank-has (x ∷ xs) t separate =
    let free : has xs x ≡ false = not-has xs x (λ h. (let t = there xs x h in separate 0 (suc t.0) (omega arith) (omega (arith, t.1)) (t.2 ∙ get_or-any xs t.0 x 0 t.1))) in
    let rest : rank (has xs) t ≡ gone_before xs t = rank-has xs t (λ i j d l. separate (suc i) (suc j) (omega arith) (omega arith)) in
    let b : gone_before (x ∷ xs) t ≡ one_if (nat_lt x t) + gone_before xs t = sum_by-cons (λ u. one_if (nat_lt u t)) x xs in
    omega (arith, rank-or x xs t free, rank-one x t)

-- ranges

pub has-range : (a n u : ℕ) → a ≤ u → u < a + n → has (range_with_len a n) u ≡ true
has-range a n u low high =
    list_any_at (λ m. m == u) (range_with_len a n) (u - a) 0 (rw length-range_with_len (omega arith))
    (eq-eqb (get_or (range_with_len a n) (u - a) 0) u (get_or-range_with_len a n (u - a) 0 (omega arith) ∙ (let e : a + (u - a) ≡ u = omega arith in e)))

pub range-has : (a n u : ℕ) → has (range_with_len a n) u ≡ true → (a ≤ u) × (u < a + n)
range-has a zero u h = absurd cc
range-has a (suc n) u h = by_test (a == u) refl h (λ k. range-has (a + 1) n u k)
  where
    by_test : (b : Bool) → (a == u) ≡ b → (b || has (range_with_len (a + 1) n) u) ≡ true → (has (range_with_len (a + 1) n) u ≡ true → (a + 1 ≤ u) × (u < a + 1 + n)) → (a ≤ u) × (u < a + suc n)
    by_test true e k later = let q = eqb-true a u e in (omega arith, omega arith)
    by_test false e k later = let q = later k in let q0 = q.0 in let q1 = q.1 in (omega arith, omega arith)

pub range-up : (a n : ℕ) → IsStrictlyIncreasing (range_with_len a n)
range-up a n k l =
    let m : k + 1 < n = rw length-range_with_len at l in
    let x = get_or-range_with_len a n k 0 (omega arith) in
    let y = get_or-range_with_len a n (k + 1) 0 m in
    omega arith

pub range-within : (a n limit : ℕ) → a + n ≤ limit → All (λ u. u < limit) (range_with_len a n)
range-within a n limit fits k d l =
    let m : k < n = rw length-range_with_len at l in
    let x = get_or-range_with_len a n k d m in
    omega arith

pub increasing-separate : (xs : List ℕ) → IsStrictlyIncreasing xs → Apart xs
increasing-separate xs up i j d l e = absurd (let less : get_or xs i 0 < get_or xs j 0 = AllPairs-from_increasing xs up i j 0 d l in omega arith)

-- the numbers below n that pass

pub filter-has : (p : ℕ → Bool) (xs : List ℕ) (t : ℕ) → has (filter p xs) t ≡ true → p t ≡ true
filter-has p [] t h = absurd cc
filter-has p (x ∷ xs) t h = by_test (p x) refl h (λ k. filter-has p xs t k)
  where
    by_head : (b : Bool) → (x == t) ≡ b → p x ≡ true → (b || has (filter p xs) t) ≡ true → (has (filter p xs) t ≡ true → p t ≡ true) → p t ≡ true
    by_head true e h k later = ap p (sym (eqb-true x t e)) ∙ h
    by_head false e h k later = later k

    by_test : (b : Bool) → p x ≡ b → has (cond b (x ∷ filter p xs) (filter p xs)) t ≡ true → (has (filter p xs) t ≡ true → p t ≡ true) → p t ≡ true
    by_test true e k later = by_head (x == t) refl e k later
    by_test false e k later = later k

pub has-filter : (p : ℕ → Bool) (xs : List ℕ) (t : ℕ) → has xs t ≡ true → p t ≡ true → has (filter p xs) t ≡ true
has-filter p [] t h e = absurd cc
has-filter p (x ∷ xs) t h e = by_test (p x) refl (λ k. has-filter p xs t k e)
  where
    by_head : (b : Bool) → (x == t) ≡ b → (has xs t ≡ true → has (filter p xs) t ≡ true) → (b || has xs t) ≡ true → (b || has (filter p xs) t) ≡ true
    by_head true q later k = refl
    by_head false q later k = later k

    by_skip : (b : Bool) → (x == t) ≡ b → p x ≡ false → (has xs t ≡ true → has (filter p xs) t ≡ true) → (b || has xs t) ≡ true → has (filter p xs) t ≡ true
    by_skip true q f later k = let z : true ≡ false = sym e ∙ ap p (sym (eqb-true x t q)) ∙ f in absurd cc
    by_skip false q f later k = later k

    by_test : (b : Bool) → p x ≡ b → (has xs t ≡ true → has (filter p xs) t ≡ true) → has (cond b (x ∷ filter p xs) (filter p xs)) t ≡ true
    by_test true q later = by_head (x == t) refl later h
    by_test false q later = by_skip (x == t) refl q later h

pub picked-up : (p : ℕ → Bool) (n : ℕ) → IsStrictlyIncreasing (picked p n)
picked-up p n = IsStrictlyIncreasing-filter p (below n) (range-up 0 n)

pub picked-within : (p : ℕ → Bool) (n limit : ℕ) → n ≤ limit → All (λ t. t < limit) (picked p n)
picked-within p n limit fits k d l =
    let m : k < rank p n = rw (← length-picked p n) l in
    let o = of_rank p n k m in
    let t : ℕ = o.0 in
    let small : t < n = o.1 in
    let occurs : get_or (picked p n) (rank p t) 0 ≡ t = (at_rank p n t o.1 o.2).is in
    let at : get_or (picked p n) k d ≡ t = get_or-any (picked p n) k d 0 l ∙ ap (λ i. get_or (picked p n) i 0) (sym o.3) ∙ occurs in
    omega arith

pub picked-has : (p : ℕ → Bool) (n t : ℕ) → t < n → has (picked p n) t ≡ p t
picked-has p n t l = by_test (p t) refl
  where
    by_test : (b : Bool) → p t ≡ b → has (picked p n) t ≡ p t
    by_test true e = has-filter p (below n) t (has-range 0 n t (omega arith) (omega arith)) e ∙ sym e
    by_test false e = not-has (picked p n) t (λ h. (let z : false ≡ true = sym e ∙ filter-has p (below n) t h in absurd cc)) ∙ sym e

-- rows with numbers

pub numbers-of : (row : ℕ → Row) (numbers : List ℕ) → map (λ (x : ℕ × Row). x.0) (numbered row numbers) ≡ numbers
numbers-of row [] = refl
numbers-of row (t ∷ ts) = ap (λ xs. t ∷ xs) (numbers-of row ts)

pub row-of : (removed : List ℕ) (row : ℕ → Row) (numbers : List ℕ) (t : ℕ) → has numbers t ≡ true → fresh_row (record { removed = removed; fresh = numbered row numbers }) t ≡ row t
row-of removed row [] t h = absurd cc
row-of removed row (u ∷ us) t h = by_test (u == t) refl h (λ k. row-of removed row us t k)
  where
    later_rows : List (ℕ × Row)
    later_rows = numbered row us

    by_test : (b : Bool) → (u == t) ≡ b → (b || has us t) ≡ true → (has us t ≡ true → fresh_row (record { removed = removed; fresh = numbered row us }) t ≡ row t)
        → fresh_row (record { removed = removed; fresh = numbered row (u ∷ us) }) t ≡ row t
    by_test true e k later =
        let first : position_or_len (λ (x : ℕ × Row). x.0 == t) ((u, row u) ∷ later_rows) ≡ 0 = rw e (omega arith) in
        ap (λ i. slice_index_or (row u ∷ map (λ (x : ℕ × Row). x.1) later_rows) i []) first ∙ ap row (eqb-true u t e)
    by_test false e k later =
        let next : position_or_len (λ (x : ℕ × Row). x.0 == t) ((u, row u) ∷ later_rows) ≡ suc (position_or_len (λ (x : ℕ × Row). x.0 == t) later_rows) = rw e (omega arith) in
        ap (λ i. slice_index_or (row u ∷ map (λ (x : ℕ × Row). x.1) later_rows) i []) next ∙ later k
