-- The terms of an equation's row, column by column.
use Rattle.std.proofs.Common.{◌≡◌, ◌≢◌, ℕ, zero, suc, ◌+◌, ◌-◌, ◌<◌, ◌≤◌, Bool, true, false, cond, ℤ, pos, negsuc, ◌-ℤ◌, List, [], ◌∷◌, ◌++◌, length, Option, Some, None, refl, sym, ap, ◌∙◌, arith}
use Rattle.std.specs.List.{cons_option, filter_map, range_with_len, All, AllPairs}
use Rattle.std.specs.Prelude.{◌==◌, if◌then◌else◌, slice_index, option_to_list, unsigned_abs}
use Rattle.std.proofs.lemmas.Int.{ints}
use Rattle.std.proofs.lemmas.Bool.{eqb-false, eq-eqb, ne_eqb}
use Rattle.std.proofs.lemmas.List.Sums.{sum_by-cons, count_by-le-length}
use Rattle.std.proofs.lemmas.List.Elements.{All-cons}
use Rattle.std.proofs.lemmas.List.Kept.{AllPairs-cons}
use Rattle.table_definitions.specs.Lists.{below, times_in}
use Rattle.surface_definitions.specs.Equations.{Equation, coefficient, term_of, row_of}
use Rattle.cone_arithmetic.specs.Sparse.{IsSparse, IsInRange}
use Rattle.surface_definitions.proofs.Ranges.{quiet, filter_map-more}

abbrev pub NoneBefore : List ℕ → ℕ → ℕ → Type 0
NoneBefore xs from next = (i : ℕ) → i < length xs → from ≤ slice_index xs i → next ≤ slice_index xs i

-- a number that is at no index does not occur in the list
pub absent : (xs : List ℕ) (k : ℕ) → ((i : ℕ) → i < length xs → slice_index xs i ≢ k) → times_in xs k ≡ 0
absent [] k no_place = refl
absent (x ∷ xs) k no_place =
    let here : x ≢ k = no_place 0 (omega arith) in
    sum_by-cons (λ m. cond (m == k) 1 0) x xs ∙ ap (λ b. cond b 1 0 + times_in xs k) (ne_eqb x k here) ∙ zero_more (times_in xs k) (absent xs k (λ i l. no_place (suc i) (omega arith)))
  where
    zero_more : (n : ℕ) → n ≡ 0 → 0 + n ≡ 0
    zero_more n e = omega arith

abbrev pub equation_of : List ℕ → List ℕ → Equation
equation_of left right = record { left = left; right = right }

no_term : (left right : List ℕ) (c : ℕ) → times_in left c ≡ 0 → times_in right c ≡ 0 → term_of (equation_of left right) c ≡ None
no_term left right c e f = ap (λ b. if b then None else Some (c, coefficient (equation_of left right) c)) (eq-eqb (times_in left c) (times_in right c) (e ∙ sym f))

absent_between : (xs : List ℕ) (from next k : ℕ) → NoneBefore xs from next → from ≤ k → k < next → times_in xs k ≡ 0
absent_between xs from next k before low high = absent xs k (λ i l e. let far : from ≤ slice_index xs i → next ≤ slice_index xs i = before i l in absurd (omega arith))

-- there are no terms between a column and the next one
pub quiet_between : (left right : List ℕ) (from first second : ℕ) → from ≤ second → second ≤ first → NoneBefore left from first → NoneBefore right from second
    → filter_map (term_of (equation_of left right)) (below second) ≡ filter_map (term_of (equation_of left right)) (below from)
quiet_between left right from first second low high l r =
    let e : from + (second - from) ≡ second = omega arith in
    ap (λ n. filter_map (term_of (equation_of left right)) (below n)) (sym e)
    ∙ quiet (term_of (equation_of left right)) from (second - from)
    (λ k a b. no_term left right k (absent_between left from first k l a (omega arith)) (absent_between right from second k r a (omega arith)))

-- the terms with one more column, up to the next
pub terms_on : (left right : List ℕ) (column first second : ℕ) (old new : List (ℕ × ℤ)) → old ≡ filter_map (term_of (equation_of left right)) (below column)
    → new ≡ old ++ option_to_list (term_of (equation_of left right) column) → column + 1 ≤ second → second ≤ first → NoneBefore left (column + 1) first → NoneBefore right (column + 1) second
    → new ≡ filter_map (term_of (equation_of left right)) (below second)
terms_on left right column first second old new e f low high l r =
    let h : ℕ → Option (ℕ × ℤ) = term_of (equation_of left right) in
    f ∙ ap (λ ts. ts ++ option_to_list (h column)) e ∙ sym (filter_map-more h column) ∙ sym (quiet_between left right (column + 1) first second low high l r)

-- the terms of the n columns from a onwards
record AreTerms (a n : ℕ) (terms : List (ℕ × ℤ)) : Type 0 where
  low : All (λ term. a ≤ term.0) terms
  high : All (λ term. term.0 < a + n) terms
  ascending : AllPairs (λ one other. one.0 < other.0) terms
  nonzero : All (λ term. 1 ≤ unsigned_abs term.1) terms
  bounded : All (λ term. unsigned_abs term.1 ≤ 1000000) terms

some_coefficient : (a b : ℕ) (z : ℤ) → z ≡ pos a -ℤ pos b → a ≢ b → 1 ≤ unsigned_abs z
some_coefficient a b (pos n) e ne = omega (arith, ints)
some_coefficient a b (negsuc n) e ne = omega (arith, ints)

small_coefficient : (a b : ℕ) (z : ℤ) → z ≡ pos a -ℤ pos b → a ≤ 1000000 → b ≤ 1000000 → unsigned_abs z ≤ 1000000
small_coefficient a b (pos n) e la lb = omega (arith, ints)
small_coefficient a b (negsuc n) e la lb = omega (arith, ints)

are_terms : (e : Equation) (a n : ℕ) → length e.left ≤ 1000000 → length e.right ≤ 1000000 → AreTerms a n (filter_map (term_of e) (range_with_len a n))
are_terms e a zero l r = record {
  low = λ k d h. absurd (omega arith);
  high = λ k d h. absurd (omega arith);
  ascending = λ i j d h m. absurd (omega arith);
  nonzero = λ k d h. absurd (omega arith);
  bounded = λ k d h. absurd (omega arith);
}
are_terms e a (suc n) l r = go (times_in e.left a == times_in e.right a) refl (are_terms e (a + 1) n l r)
  where
    go : (b : Bool) → (times_in e.left a == times_in e.right a) ≡ b → AreTerms (a + 1) n (filter_map (term_of e) (range_with_len (a + 1) n))
        → AreTerms a (suc n) (cons_option (if b then None else Some (a, coefficient e a)) (filter_map (term_of e) (range_with_len (a + 1) n)))
    go true same rest = record {
      low = λ k d h. let m : a + 1 ≤ _ = rest.low k d h in omega arith;
      high = λ k d h. let m : _ < (a + 1) + n = rest.high k d h in omega arith;
      ascending = rest.ascending;
      nonzero = rest.nonzero;
      bounded = rest.bounded;
    }
    go false same rest =
        let t : ℕ × ℤ = (a, coefficient e a) in
        let ts : List (ℕ × ℤ) = filter_map (term_of e) (range_with_len (a + 1) n) in
        let separate : times_in e.left a ≢ times_in e.right a = eqb-false (times_in e.left a) (times_in e.right a) same in
        let few_left : times_in e.left a ≤ length e.left = count_by-le-length (λ m. m == a) e.left in
        let few_right : times_in e.right a ≤ length e.right = count_by-le-length (λ m. m == a) e.right in
        record {
          low = All-cons (λ term. a ≤ term.0) t ts (omega arith) (λ k d h. let m = rest.low k d h in omega (arith, m));
          high = All-cons (λ term. term.0 < a + suc n) t ts (omega arith) (λ k d h. let m = rest.high k d h in omega (arith, m));
          ascending = AllPairs-cons (λ one other. one.0 < other.0) t ts (λ k d h. let m = rest.low k d h in omega (arith, m)) rest.ascending;
          nonzero = All-cons (λ term. 1 ≤ unsigned_abs term.1) t ts (some_coefficient (times_in e.left a) (times_in e.right a) (coefficient e a) refl separate) rest.nonzero;
          bounded = All-cons (λ term. unsigned_abs term.1 ≤ 1000000) t ts (small_coefficient (times_in e.left a) (times_in e.right a) (coefficient e a) refl (omega arith) (omega arith)) rest.bounded;
        }

pub row_is_sparse : (e : Equation) (n : ℕ) → length e.left ≤ 1000000 → length e.right ≤ 1000000 → IsSparse (row_of n e)
row_is_sparse e n l r = let t : AreTerms 0 n (row_of n e) = are_terms e 0 n l r in record { ascending = t.ascending; nonzero = t.nonzero; bounded = t.bounded }

pub row_in_range : (e : Equation) (n : ℕ) → length e.left ≤ 1000000 → length e.right ≤ 1000000 → IsInRange n (row_of n e)
row_in_range e n l r = let t : AreTerms 0 n (row_of n e) = are_terms e 0 n l r in λ k d h. let m = t.high k d h in omega (arith, m)

-- there are no terms before the first column that occurs
pub first_terms : (left right : List ℕ) (first second : ℕ) → second ≤ first → NoneBefore left 0 first → NoneBefore right 0 second
    → [] ≡ filter_map (term_of (equation_of left right)) (below second)
first_terms left right first second high l r = sym (quiet_between left right 0 first second (omega arith) high l r)

pub made_row : (left right : List ℕ) (column n : ℕ) {terms : List (ℕ × ℤ)} → column ≡ n → terms ≡ filter_map (term_of (equation_of left right)) (below column) → terms ≡ row_of n (equation_of left right)
made_row left right column n e f = f ∙ ap (λ k. filter_map (term_of (equation_of left right)) (below k)) e
