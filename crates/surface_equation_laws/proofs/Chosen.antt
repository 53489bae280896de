-- Sums over columns that occur at most once each.
use Rattle.std.proofs.Common.{◌≡◌, ℕ, ◌+◌, ◌≤◌, Bool, true, false, cond, List, [], ◌∷◌, length, inl, inr, refl, sym, ap, ◌∙◌, arith, filter}
use Rattle.std.specs.Prelude.{◌==◌, sum_by, count_by}
use Rattle.std.proofs.lemmas.Bool.{ne_eqb, true≢false}
use Rattle.std.proofs.lemmas.List.Sums.{sum_by-cons}
use Rattle.table_definitions.specs.Lists.{times_in}
use Rattle.table_definitions.proofs.TableLaws.{Among}
use Rattle.table_definitions.proofs.Bijections.{flips}
use Rattle.surface_definitions.specs.Equations.{Equation, row_of}
use Rattle.surface_laws.proofs.Counting.{sum_swap, sum_by_same}
use Rattle.surface_equation_laws.specs.Entries.{entry, IsOnce, plus_over, minus_over}
use Rattle.cone_definitions.specs.Rows.{positive_coefficient, negative_coefficient}
use Rattle.surface_equation_laws.proofs.Entries.{plus_entry, minus_entry}

pub sum_by-ones : (ls : List ℕ) → sum_by (λ (l : ℕ). 1) ls ≡ length ls
sum_by-ones [] = refl
sum_by-ones (l ∷ ls) = omega (arith, sum_by-cons (λ (l : ℕ). 1) l ls, sum_by-ones ls)

-- a sum of terms at most as large
pub sum_by_less : {A : Type 0} (f g : A → ℕ) (xs : List A) → ((x : A) → Among x xs → f x ≤ g x) → sum_by f xs ≤ sum_by g xs
sum_by_less f g [] h = omega arith
sum_by_less f g (x ∷ xs) h =
    let more : sum_by f xs ≤ sum_by g xs = sum_by_less f g xs (λ y a. h y (inr a)) in
    let here : f x ≤ g x = h x (inl refl) in
    omega (arith, sum_by-cons f x xs, sum_by-cons g x xs)

-- how often the numbers of one list occur in the other, counted from either list
pub times_swap : (cs ls : List ℕ) → sum_by (times_in ls) cs ≡ sum_by (times_in cs) ls
times_swap cs ls =
    sum_swap (λ (c l : ℕ). cond (l == c) 1 0) cs ls
    ∙ sum_by_same (λ l. sum_by (λ c. cond (l == c) 1 0) cs) (times_in cs) ls (λ l a. sum_by_same (λ c. cond (l == c) 1 0) (λ c. cond (c == l) 1 0) cs (λ c b. ap (λ t. cond t 1 0) (flips l c)))

-- in the numbers that pass a test, a number that passes occurs at most as often as in all, and any other does not occur
pub passing_less : (p : ℕ → Bool) (l : ℕ) (cs : List ℕ) → times_in (filter p cs) l ≤ times_in cs l
passing_less p l [] = omega arith
passing_less p l (c ∷ cs) = go (p c) (passing_less p l cs)
  where
    go : (b : Bool) → times_in (filter p cs) l ≤ times_in cs l → times_in (cond b (c ∷ filter p cs) (filter p cs)) l ≤ times_in (c ∷ cs) l
    go true more = omega (arith, sum_by-cons (λ m. cond (m == l) 1 0) c cs, sum_by-cons (λ m. cond (m == l) 1 0) c (filter p cs))
    go false more = omega (arith, sum_by-cons (λ m. cond (m == l) 1 0) c cs)

passing_none : (p : ℕ → Bool) (l : ℕ) (cs : List ℕ) → p l ≡ false → times_in (filter p cs) l ≡ 0
passing_none p l [] h = refl
passing_none p l (c ∷ cs) h = go (p c) refl (passing_none p l cs h)
  where
    go : (b : Bool) → p c ≡ b → times_in (filter p cs) l ≡ 0 → times_in (cond b (c ∷ filter p cs) (filter p cs)) l ≡ 0
    go true e more =
        let separate : (c == l) ≡ false = ne_eqb c l (λ s. true≢false (sym e ∙ ap p s ∙ h)) in
        sum_by-cons (λ m. cond (m == l) 1 0) c (filter p cs) ∙ ap (λ b. cond b 1 0 + times_in (filter p cs) l) separate ∙ (let z : 0 + times_in (filter p cs) l ≡ 0 = omega arith in z)
    go false e more = more

passing_once : (p : ℕ → Bool) (cs : List ℕ) → IsOnce cs → (l : ℕ) → times_in (filter p cs) l ≤ cond (p l) 1 0
passing_once p cs once l = go (p l) refl
  where
    go : (b : Bool) → p l ≡ b → times_in (filter p cs) l ≤ cond b 1 0
    go true e = omega (arith, passing_less p l cs, once l)
    go false e = omega (arith, passing_none p l cs e)

-- the numbers of a list occur in those that pass at most as often as its numbers pass the test
pub times_over : (p : ℕ → Bool) (cs ls : List ℕ) → IsOnce cs → sum_by (times_in ls) (filter p cs) ≤ count_by p ls
times_over p cs ls once =
    let less : sum_by (times_in (filter p cs)) ls ≤ count_by p ls = sum_by_less (times_in (filter p cs)) (λ l. cond (p l) 1 0) ls (λ l a. passing_once p cs once l) in
    omega (arith, times_swap (filter p cs) ls)

pub times_over_all : (cs ls : List ℕ) → IsOnce cs → sum_by (times_in ls) cs ≤ length ls
times_over_all cs ls once =
    let less : sum_by (times_in cs) ls ≤ sum_by (λ (l : ℕ). 1) ls = sum_by_less (times_in cs) (λ (l : ℕ). 1) ls (λ l a. once l) in
    omega (arith, times_swap cs ls, sum_by-ones ls)

-- the positive entries of an equation's row, in columns that pass a test, add up to at most the number of such columns
-- on its left side
pub plus_passing : (n : ℕ) (e : Equation) (p : ℕ → Bool) (cs : List ℕ) → IsOnce cs → plus_over (row_of n e) (filter p cs) ≤ count_by p e.left
plus_passing n e p cs once =
    let less : plus_over (row_of n e) (filter p cs) ≤ sum_by (times_in e.left) (filter p cs) = sum_by_less (λ c. positive_coefficient (entry (row_of n e) c)) (times_in e.left) (filter p cs) (λ c a. plus_entry n e c) in
    omega (arith, times_over p cs e.left once)

pub minus_passing : (n : ℕ) (e : Equation) (p : ℕ → Bool) (cs : List ℕ) → IsOnce cs → minus_over (row_of n e) (filter p cs) ≤ count_by p e.right
minus_passing n e p cs once =
    let less : minus_over (row_of n e) (filter p cs) ≤ sum_by (times_in e.right) (filter p cs) = sum_by_less (λ c. negative_coefficient (entry (row_of n e) c)) (times_in e.right) (filter p cs) (λ c a. minus_entry n e c) in
    omega (arith, times_over p cs e.right once)

pub plus_at_most : (n : ℕ) (e : Equation) (cs : List ℕ) → IsOnce cs → plus_over (row_of n e) cs ≤ length e.left
plus_at_most n e cs once =
    let less : plus_over (row_of n e) cs ≤ sum_by (times_in e.left) cs = sum_by_less (λ c. positive_coefficient (entry (row_of n e) c)) (times_in e.left) cs (λ c a. plus_entry n e c) in
    omega (arith, times_over_all cs e.left once)

pub minus_at_most : (n : ℕ) (e : Equation) (cs : List ℕ) → IsOnce cs → minus_over (row_of n e) cs ≤ length e.right
minus_at_most n e cs once =
    let less : minus_over (row_of n e) cs ≤ sum_by (times_in e.right) cs = sum_by_less (λ c. negative_coefficient (entry (row_of n e) c)) (times_in e.right) cs (λ c a. minus_entry n e c) in
    omega (arith, times_over_all cs e.right once)
