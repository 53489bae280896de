-- Numbers that pass a test, and how many of them come before each. Numbers that are removed, and the new numbers of the
-- others.
use Rattle.std.proofs.Common.{◌≡◌, ℕ, zero, suc, ◌+◌, ◌<◌, ◌≤◌, Bool, true, false, cond, List, [], ◌∷◌, ◌++◌, length, get_or, refl, sym, ap, ◌∙◌, arith, inl, inr}
use Rattle.std.specs.Prelude.{◌⊎◌, ◌==◌, ◌||◌, nat_lt, not, filter, count_by, ◌≢◌}
use Rattle.std.specs.List.{position_or_len}
use Rattle.std.proofs.Math.ListN.{get_or-append}
use Rattle.std.proofs.Math.Seq.{get_or-append_seam}
use Rattle.std.proofs.lemmas.List.Elements.{filter-append}
use Rattle.std.proofs.lemmas.List.Sums.{length-filter, sum_by-append, sum_by-cons, position_or_len_is}
use Rattle.std.proofs.lemmas.Bool.{eqb-true, eq-eqb, lt-ltb, le-ltb, cases_lt, ne_eqb}
use Rattle.table_definitions.specs.Lists.{below, has, rank_without}
use Rattle.table_definitions.specs.Replaceable.{gone_before}
use Rattle.table_definitions.proofs.Bijections.{below-push}
use Rattle.basic_lemmas.proofs.Truths.{one_if}
use Rattle.basic_lemmas.proofs.Members.{Ascends}

-- the numbers below n that pass, and their number
abbrev pub picked : (ℕ → Bool) → ℕ → List ℕ
picked p n = filter p (below n)

abbrev pub rank : (ℕ → Bool) → ℕ → ℕ
rank p n = count_by p (below n)

abbrev only_if : Bool → ℕ → List ℕ
only_if b n = cond b (n ∷ []) []

pub length-picked : (p : ℕ → Bool) (n : ℕ) → length (picked p n) ≡ rank p n
length-picked p n = length-filter p (below n)

picked-suc : (p : ℕ → Bool) (n : ℕ) → picked p (suc n) ≡ picked p n ++ only_if (p n) n
picked-suc p n = ap (filter p) (sym (below-push n)) ∙ filter-append p (below n) (n ∷ [])

pub rank-suc : (p : ℕ → Bool) (n : ℕ) → rank p (suc n) ≡ rank p n + one_if (p n)
rank-suc p n =
    let e : count_by p (below n ++ n ∷ []) ≡ count_by p (below n) + count_by p (n ∷ []) = sum_by-append (λ x. one_if (p x)) (below n) (n ∷ []) in
    let f : count_by p (n ∷ []) ≡ one_if (p n) + count_by p [] = sum_by-cons (λ x. one_if (p x)) n [] in
    let z : count_by p [] ≡ 0 = refl in
    ap (count_by p) (sym (below-push n)) ∙ omega arith

pub rank_fits : (p : ℕ → Bool) (n : ℕ) → rank p n ≤ n
rank_fits p zero = omega (arith, let z : rank p 0 ≡ 0 = refl in z)
rank_fits p (suc n) = omega (arith, rank_fits p n, rank-suc p n, at_most (p n))
  where
    at_most : (b : Bool) → one_if b ≤ 1
    at_most true = omega arith
    at_most false = omega arith

-- if each number passes, its rank is the number itself
pub rank_all : (p : ℕ → Bool) (n : ℕ) → ((t : ℕ) → t < n → p t ≡ true) → rank p n ≡ n
rank_all p zero all = refl
rank_all p (suc n) all =
    let before : rank p n ≡ n = rank_all p n (λ t l. all t (omega arith)) in
    let one : one_if (p n) ≡ 1 = ap one_if (all n (omega arith)) in
    omega (arith, rank-suc p n)

-- a number that passes is the item at its rank
pub record StandsAt (p : ℕ → Bool) (n t : ℕ) : Type 0 where
  pub fewer : rank p t < rank p n
  pub is : get_or (picked p n) (rank p t) 0 ≡ t

pub at_rank : (p : ℕ → Bool) (n t : ℕ) → t < n → p t ≡ true → StandsAt p n t
at_rank p zero t l h = absurd (omega arith)
at_rank p (suc n) t l h = by_size (cases_lt t n) (λ m. at_rank p n t m h)
  where
    by_size : (t < n) ⊎ (n ≤ t) → (t < n → StandsAt p n t) → StandsAt p (suc n) t
    by_size (inl m) before =
        let s = before m in
        let shorter : rank p t < length (picked p n) = omega (arith, length-picked p n, s.fewer) in
        record {
          fewer = omega (arith, s.fewer, rank-suc p n);
          is = ap (λ (xs : List ℕ). get_or xs (rank p t) 0) (picked-suc p n) ∙ get_or-append (picked p n) (only_if (p n) n) 0 (rank p t) shorter ∙ s.is;
        }
    by_size (inr m) before =
        let e : t ≡ n = omega arith in
        let passes : p n ≡ true = ap p (sym e) ∙ h in
        let one : one_if (p n) ≡ 1 = ap one_if passes in
        let last : get_or (picked p n ++ only_if (p n) n) (rank p n) 0 ≡ n =
        ap (λ b. get_or (picked p n ++ only_if b n) (rank p n) 0) passes ∙ ap (λ i. get_or (picked p n ++ n ∷ []) i 0) (sym (length-picked p n)) ∙ get_or-append_seam (picked p n) n [] 0 in
        let same : rank p t ≡ rank p n = ap (rank p) e in
        record {
          fewer = omega (arith, rank-suc p n);
          is = ap (λ i. get_or (picked p (suc n)) i 0) same ∙ ap (λ (xs : List ℕ). get_or xs (rank p n) 0) (picked-suc p n) ∙ last ∙ sym e;
        }

-- each number below the number of those that pass is the rank of one
pub of_rank : (p : ℕ → Bool) (n i : ℕ) → i < rank p n → (t : ℕ) × (t < n) × (p t ≡ true) × (rank p t ≡ i)
of_rank p zero i l = absurd (let z : rank p 0 ≡ 0 = refl in omega arith)
of_rank p (suc n) i l = by_size (cases_lt i (rank p n)) (λ m. of_rank p n i m)
  where
    last : (b : Bool) → p n ≡ b → rank p n ≤ i → (t : ℕ) × (t < suc n) × (p t ≡ true) × (rank p t ≡ i)
    last true e m = (n, omega arith, e, (let one : one_if (p n) ≡ 1 = ap one_if e in omega (arith, rank-suc p n)))
    last false e m = absurd (let none : one_if (p n) ≡ 0 = ap one_if e in omega (arith, rank-suc p n))

    by_size : (i < rank p n) ⊎ (rank p n ≤ i) → (i < rank p n → (t : ℕ) × (t < n) × (p t ≡ true) × (rank p t ≡ i)) → (t : ℕ) × (t < suc n) × (p t ≡ true) × (rank p t ≡ i)
    by_size (inl m) before = let s = before m in (s.0, (let l' = s.1 in omega arith), s.2, s.3)
    by_size (inr m) before = last (p n) refl m

pub ranks_apart : (p : ℕ → Bool) (n t u : ℕ) → t < n → u < n → p t ≡ true → p u ≡ true → rank p t ≡ rank p u → t ≡ u
ranks_apart p n t u lt lu pt pu e = sym (at_rank p n t lt pt).is ∙ ap (λ i. get_or (picked p n) i 0) e ∙ (at_rank p n u lu pu).is

-- the position of a number that passes is its rank
pub position_is_rank : (p : ℕ → Bool) (n u : ℕ) → u < n → p u ≡ true → position_or_len (λ v. v == u) (picked p n) ≡ rank p u
position_is_rank p n u l h =
    let s = at_rank p n u l h in
    let within : rank p u < length (picked p n) = omega (arith, length-picked p n, s.fewer) in
    position_or_len_is (λ v. v == u) (picked p n) (rank p u) 0 (omega arith) (λ k m. other k m (omega arith)) (λ _. eq-eqb _ u s.is)
  where
    other : (k : ℕ) → k < rank p u → k < rank p n → (get_or (picked p n) k 0 == u) ≡ false
    other k m m' =
        let o = of_rank p n k m' in
        let t : ℕ = o.0 in
        let occurs : get_or (picked p n) (rank p t) 0 ≡ t = (at_rank p n t o.1 o.2).is in
        let at : get_or (picked p n) k 0 ≡ t = ap (λ i. get_or (picked p n) i 0) (sym o.3) ∙ occurs in
        let differs : t ≢ u = λ e. (let r : rank p t ≡ rank p u = ap (rank p) e in let q = o.3 in absurd (omega arith)) in
        ap (λ v. v == u) at ∙ ne_eqb t u differs

-- numbers that are removed

abbrev pub stays : List ℕ → ℕ → Bool
stays gone t = not (has gone t)

pub gone_before-suc : (gone : List ℕ) (t : ℕ) → gone_before gone (suc t) ≡ gone_before gone t + count_by (λ u. u == t) gone
gone_before-suc [] t = refl
gone_before-suc (x ∷ xs) t =
    let a : gone_before (x ∷ xs) (suc t) ≡ one_if (nat_lt x (suc t)) + gone_before xs (suc t) = sum_by-cons (λ u. one_if (nat_lt u (suc t))) x xs in
    let b : gone_before (x ∷ xs) t ≡ one_if (nat_lt x t) + gone_before xs t = sum_by-cons (λ u. one_if (nat_lt u t)) x xs in
    let c : count_by (λ u. u == t) (x ∷ xs) ≡ one_if (x == t) + count_by (λ u. u == t) xs = sum_by-cons (λ u. one_if (u == t)) x xs in
    let d : one_if (nat_lt x (suc t)) ≡ one_if (nat_lt x t) + one_if (x == t) = grind arith in
    omega (arith, gone_before-suc xs t)

count_none : (p : ℕ → Bool) (xs : List ℕ) → ((k : ℕ) → k < length xs → p (get_or xs k 0) ≡ false) → count_by p xs ≡ 0
count_none p [] none = refl
count_none p (x ∷ xs) none =
    let a : count_by p (x ∷ xs) ≡ one_if (p x) + count_by p xs = sum_by-cons (λ u. one_if (p u)) x xs in
    let b : one_if (p x) ≡ 0 = ap one_if (none 0 (omega arith)) in
    omega (arith, count_none p xs (λ k l. none (suc k) (omega arith)))

pub count_whole : (p : ℕ → Bool) (xs : List ℕ) → ((k : ℕ) → k < length xs → p (get_or xs k 0) ≡ true) → count_by p xs ≡ length xs
count_whole p [] all = refl
count_whole p (x ∷ xs) all =
    let a : count_by p (x ∷ xs) ≡ one_if (p x) + count_by p xs = sum_by-cons (λ u. one_if (p u)) x xs in
    let b : one_if (p x) ≡ 1 = ap one_if (all 0 (omega arith)) in
    omega (arith, count_whole p xs (λ k l. all (suc k) (omega arith)))

-- in an ascending list, a number occurs once or not at all
times_one : (xs : List ℕ) (t : ℕ) → Ascends xs → count_by (λ u. u == t) xs ≡ one_if (has xs t)
times_one [] t up = refl
times_one (x ∷ xs) t up =
    let a : count_by (λ u. u == t) (x ∷ xs) ≡ one_if (x == t) + count_by (λ u. u == t) xs = sum_by-cons (λ u. one_if (u == t)) x xs in
    a ∙ by_test (x == t) refl (times_one xs t (λ i j d l m. up (suc i) (suc j) d (omega arith) (omega arith)))
  where
    by_test : (b : Bool) → (x == t) ≡ b → count_by (λ u. u == t) xs ≡ one_if (has xs t) → one_if (x == t) + count_by (λ u. u == t) xs ≡ one_if ((x == t) || has xs t)
    by_test true e before =
        let none : count_by (λ u. u == t) xs ≡ 0 =
        count_none (λ u. u == t) xs (λ k l. ne_eqb (get_or xs k 0) t (λ same. (let above : x < get_or xs k 0 = up 0 (suc k) 0 (omega arith) (omega arith) in let at = eqb-true x t e in absurd (omega arith)))) in
        rw e (omega arith)
    by_test false e before = rw e (omega arith)

-- each number occurs at most once
abbrev pub AreOnce : List ℕ → Type 0
AreOnce xs = (t : ℕ) → count_by (λ u. u == t) xs ≡ one_if (has xs t)

-- the counts of the numbers below t that stay and that are removed add up to t
pub stays_and_once : (gone : List ℕ) (t : ℕ) → AreOnce gone → rank (stays gone) t + gone_before gone t ≡ t
stays_and_once gone zero once =
    let none : gone_before gone 0 ≡ 0 = count_none (λ u. nat_lt u 0) gone (λ k l. le-ltb (get_or gone k 0) 0 (omega arith)) in
    let z : rank (stays gone) 0 ≡ 0 = refl in
    omega arith
stays_and_once gone (suc t) once =
    omega (arith, stays_and_once gone t once, rank-suc (stays gone) t, gone_before-suc gone t, once t, one_of (has gone t))
  where
    one_of : (b : Bool) → one_if (not b) + one_if b ≡ 1
    one_of true = omega arith
    one_of false = omega arith

pub stays_and_gone : (gone : List ℕ) (t : ℕ) → Ascends gone → rank (stays gone) t + gone_before gone t ≡ t
stays_and_gone gone t up = stays_and_once gone t (λ u. times_one gone u up)

pub closed_up-rank : (gone : List ℕ) (t : ℕ) → Ascends gone → rank_without gone t ≡ rank (stays gone) t
closed_up-rank gone t up = omega (arith, stays_and_gone gone t up)

-- the counts of the numbers below n that stay and of all removed ones add up to n, if these are below n
pub stays-count : (gone : List ℕ) (n : ℕ) → Ascends gone → ((k : ℕ) → k < length gone → get_or gone k 0 < n) → rank (stays gone) n + length gone ≡ n
stays-count gone n up small =
    omega (arith, stays_and_gone gone n up, count_whole (λ u. nat_lt u n) gone (λ k l. lt-ltb (get_or gone k 0) n (small k l)))

-- the number that stays and has i numbers that stay before it
pub opened_up : (gone : List ℕ) (i t : ℕ) → Ascends gone → t ≡ i + gone_before gone t → rank (stays gone) t ≡ i
opened_up gone i t up e = omega (arith, stays_and_gone gone t up)
