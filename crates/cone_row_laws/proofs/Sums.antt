-- A row plus a multiple of another, and a negated row.
use Rattle.std.proofs.Common.{◌≡◌, ℕ, zero, suc, ◌+◌, ◌*◌, ℤ, pos, negsuc, neg_ℤ, List, [], ◌∷◌, ◌++◌, Contains, refl, ◌∙◌, sym, ap, arith}
use Rattle.std.specs.Prelude.{◌↔◌}
use Rattle.std.proofs.lemmas.List.Sums.{sum_by-append, sum_by-cons}
use Rattle.std.proofs.lemmas.List.Elements.{All-contains}
use Rattle.std.specs.Prelude.{slice_index}
use Rattle.cone_definitions.specs.Rows.{Row, IsZeroAt, positive_coefficient, negative_coefficient, plus_part, minus_part}
use Rattle.cone_row_laws.specs.Solutions.{HaveSameSolutions}
use Rattle.cone_row_laws.specs.Operations.{multiple_plus, multiple_minus, IsSumWith, negated}
use Rattle.cone_row_laws.proofs.Zeros.{row_replaced, row_dropped}

-- a multiple of a row is 0 at each vector at which the row is
multiples_zero : (factor : ℤ) (other : Row) (x : List ℕ) → IsZeroAt other x → multiple_plus factor other x ≡ multiple_minus factor other x
multiples_zero factor other x z = let h : plus_part other x ≡ minus_part other x = z in
    omega (arith, ap (λ n. positive_coefficient factor * n) h, ap (λ n. negative_coefficient factor * n) h)

pub sum_zero_alike : (row : Row) (factor : ℤ) (other sum : Row) → IsSumWith row factor other sum → (x : List ℕ) → IsZeroAt other x →
    IsZeroAt row x ↔ IsZeroAt sum x
sum_zero_alike row factor other sum h x z = let e = h x in let m = multiples_zero factor other x z in (
  λ k. let l : plus_part row x ≡ minus_part row x = k in omega (arith, e, m, l),
  λ k. let l : plus_part sum x ≡ minus_part sum x = k in omega (arith, e, m, l),
)

pub multiple_added : (columns : ℕ) (front back : List Row) (row other sum : Row) (factor : ℤ) → Contains (front ++ back) other → IsSumWith row factor other sum →
    HaveSameSolutions columns (front ++ row ∷ back) (front ++ sum ∷ back)
multiple_added columns front back row other sum factor h s = row_replaced columns front back row sum
    (λ x z. sum_zero_alike row factor other sum s x (All-contains (λ r. IsZeroAt r x) (front ++ back) other z h))

-- ---- negated rows

positive-negated : (z : ℤ) → positive_coefficient (neg_ℤ z) ≡ negative_coefficient z
positive-negated (pos zero) = refl
positive-negated (pos (suc n)) = refl
positive-negated (negsuc n) = omega arith

negative-negated : (z : ℤ) → negative_coefficient (neg_ℤ z) ≡ positive_coefficient z
negative-negated (pos zero) = refl
negative-negated (pos (suc n)) = omega arith
negative-negated (negsuc n) = refl

positive_term : List ℕ → ℕ × ℤ → ℕ
positive_term x term = positive_coefficient term.1 * slice_index x term.0

negative_term : List ℕ → ℕ × ℤ → ℕ
negative_term x term = negative_coefficient term.1 * slice_index x term.0

pub plus-negated : (row : Row) (x : List ℕ) → plus_part (negated row) x ≡ minus_part row x
unfolding positive_term negative_term
plus-negated [] x = refl
plus-negated (term ∷ row) x =
    sum_by-cons (positive_term x) (term.0, neg_ℤ term.1) (negated row) ∙
    ap (λ k. k * slice_index x term.0 + plus_part (negated row) x) (positive-negated term.1) ∙
    ap (λ n. negative_coefficient term.1 * slice_index x term.0 + n) (plus-negated row x) ∙
    sym (sum_by-cons (negative_term x) term row)

pub minus-negated : (row : Row) (x : List ℕ) → minus_part (negated row) x ≡ plus_part row x
unfolding positive_term negative_term
minus-negated [] x = refl
minus-negated (term ∷ row) x =
    sum_by-cons (negative_term x) (term.0, neg_ℤ term.1) (negated row) ∙
    ap (λ k. k * slice_index x term.0 + minus_part (negated row) x) (negative-negated term.1) ∙
    ap (λ n. positive_coefficient term.1 * slice_index x term.0 + n) (minus-negated row x) ∙
    sym (sum_by-cons (positive_term x) term row)

pub turned_zero : (row : Row) (x : List ℕ) → IsZeroAt row x ↔ IsZeroAt (negated row) x
turned_zero row x = (
  λ z. plus-negated row x ∙ sym z ∙ sym (minus-negated row x),
  λ z. sym (minus-negated row x) ∙ sym z ∙ plus-negated row x,
)

pub signs_turned : (columns : ℕ) (front back : List Row) (row : Row) → HaveSameSolutions columns (front ++ row ∷ back) (front ++ negated row ∷ back)
signs_turned columns front back row = row_replaced columns front back row (negated row) (λ x z. turned_zero row x)

pub turned_dropped : (columns : ℕ) (front back : List Row) (row : Row) → Contains (front ++ back) (negated row) →
    HaveSameSolutions columns (front ++ row ∷ back) (front ++ back)
turned_dropped columns front back row h = row_dropped columns front back row
    (λ x z. (turned_zero row x).1 (All-contains (λ r. IsZeroAt r x) (front ++ back) (negated row) z h))

-- ---- by terms

pub plus-append : (row other : Row) (x : List ℕ) → plus_part (row ++ other) x ≡ plus_part row x + plus_part other x
plus-append row other x = sum_by-append (λ term. positive_coefficient term.1 * slice_index x term.0) row other

pub minus-append : (row other : Row) (x : List ℕ) → minus_part (row ++ other) x ≡ minus_part row x + minus_part other x
minus-append row other x = sum_by-append (λ term. negative_coefficient term.1 * slice_index x term.0) row other

pub appended_sum : (row other : Row) → IsSumWith row (pos 1) other (row ++ other)
appended_sum row other x = omega (arith, plus-append row other x, minus-append row other x)

pub appended_difference : (row other : Row) → IsSumWith row (negsuc 0) other (row ++ negated other)
appended_difference row other x = omega (arith, plus-append row (negated other) x, minus-append row (negated other) x, plus-negated other x, minus-negated other x)
