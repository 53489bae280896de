-- The support of a combination is the union of the two supports.
use Rattle.std.proofs.Common.{◌≡◌, ℕ, ◌*◌, ◌/◌, ◌≤◌, ◌||◌, ⊎_elim, Bool, true, false, IsTrue, List, length, ltb, get_or, slice_index, sym, ◌∙◌, ap, ap₂, refl, arith}
use Rattle.std.proofs.lemmas.Bool.{cases_eq, lt-ltb, true≢false, or_parts}
use Rattle.std.proofs.lemmas.List.{ext_get_or, length-map}
use Rattle.cone_definitions.specs.Vectors.{IsNonzero, IsInside, IsInsideUnion}
use Rattle.cone_definitions.proofs.Entries.{entry-multiple}
use Rattle.cone_definitions.proofs.Combined.{u_inside_combined, w_inside_combined, combined_inside_union}
use Rattle.cone_definitions.proofs.Surfaces.{x_inside_multiple}
use Rattle.support_bits.specs.Columns.{support_of, IsUnion}
use Rattle.support_bits.proofs.WordLemmas.{get_or-support_of}
use Rattle.cone_arithmetic.specs.Combinations.{IsReducedBy}
use Rattle.cone_arithmetic.specs.Filled.{AreInside}
use Rattle.cone_arithmetic.proofs.EntryLemmas.{quotient_positive}
use Rattle.ray_steps.proofs.LargeLemmas.{reduced_width}

-- a disjunction is true if one of the truth values is
pub left_true : (a b : Bool) → a ≡ true → IsTrue (a || b)
left_true a b is = rw is refl

pub right_true : (a b : Bool) → b ≡ true → IsTrue (a || b)
right_true true b is = refl
right_true false b is = is

-- a number is positive if and only if one of two numbers is
pub either_positive : (a b x : ℕ) → (x ≡ 0 → a ≡ 0) → (x ≡ 0 → b ≡ 0) → (a ≡ 0 → b ≡ 0 → x ≡ 0) → (ltb 0 a || ltb 0 b) ≡ ltb 0 x
either_positive a b x of_a of_b of_x = ⊎_elim
    (λ gone. rw (of_a gone, of_b gone, gone) refl)
    (λ some. ⊎_elim
    (λ a_gone. ⊎_elim
    (λ b_gone. absurd (some (of_x a_gone b_gone)))
    (λ b_some. right_true (ltb 0 a) (ltb 0 b) (lt-ltb 0 b (omega (arith, b_some))) ∙ sym (lt-ltb 0 x (omega (arith, some))))
    (cases_eq b 0))
    (λ a_some. left_true (ltb 0 a) (ltb 0 b) (lt-ltb 0 a (omega (arith, a_some))) ∙ sym (lt-ltb 0 x (omega (arith, some))))
    (cases_eq a 0))
    (cases_eq x 0)

module _ (limit at_u at_w : ℕ) (u w x : List ℕ) (some_u : 1 ≤ at_u) (some_w : 1 ≤ at_w) (same : length u ≡ length w) (nonzero : IsNonzero u) (h : IsReducedBy limit at_u at_w u w x) where
  p : ℕ
  p = at_u / h.combines.divisor

  q : ℕ
  q = at_w / h.combines.divisor

  u_inside : IsInside u h.combination
  unfolding p q
  u_inside j gone = u_inside_combined (length w) p q u w same refl (quotient_positive at_w h.combines.divisor h.combines.greatest.1 some_w) j (sym (ap (λ z. slice_index z j) h.combines.sum) ∙ gone)

  w_inside : IsInside w h.combination
  unfolding p q
  w_inside j gone = w_inside_combined (length w) p q u w same refl (quotient_positive at_u h.combines.divisor h.combines.greatest.0 some_u) j (sym (ap (λ z. slice_index z j) h.combines.sum) ∙ gone)

  combination_nonzero : IsNonzero h.combination
  combination_nonzero = (nonzero.0, λ gone. nonzero.1 (u_inside nonzero.0 gone))

  x_inside : IsInsideUnion x u w
  unfolding p q
  x_inside j u_gone w_gone = x_inside_multiple h.divisor x h.combination h.is_multiple combination_nonzero j
      (ap (λ z. slice_index z j) h.combines.sum ∙ combined_inside_union (length w) p q u w same refl j u_gone w_gone)

  -- the combination is 0 at each column at which x is 0
  gone_there : (j : ℕ) → slice_index x j ≡ 0 → slice_index h.combination j ≡ 0
  gone_there j gone = ap (λ z. slice_index z j) h.is_multiple ∙ entry-multiple h.divisor x j ∙ ap (λ n. h.divisor * n) gone ∙ omega arith

  pub united : (a b union : List Bool) → a ≡ support_of u → b ≡ support_of w → IsUnion a b union → union ≡ support_of x
  united a b union a_is b_is is = ext_get_or false union (support_of x)
      (is.count ∙ ap length a_is ∙ length-map u (λ entry. ltb 0 entry) ∙ same ∙ sym (reduced_width limit at_u at_w u w x h same) ∙ sym (length-map x (λ entry. ltb 0 entry)))
      (λ j within. is.each j ∙ ap₂ (λ s t. get_or s j false || get_or t j false) a_is b_is ∙ ap₂ (λ s t. s || t) (get_or-support_of u j) (get_or-support_of w j)
      ∙ either_positive (slice_index u j) (slice_index w j) (slice_index x j) (λ gone. u_inside j (gone_there j gone)) (λ gone. w_inside j (gone_there j gone)) (x_inside j)
      ∙ sym (get_or-support_of x j))

gone_where : (x : List ℕ) (s : List Bool) (column : ℕ) → s ≡ support_of x → get_or s column false ≡ false → slice_index x column ≡ 0
gone_where x s column is none = ⊎_elim (λ gone. gone)
    (λ some. absurd (true≢false (sym (lt-ltb 0 (slice_index x column) (omega (arith, some))) ∙ sym (get_or-support_of x column) ∙ ap (λ t. get_or t column false) (sym is) ∙ none)))
    (cases_eq (slice_index x column) 0)

-- two vectors are 0 outside the union of their supports
pub outside_union : (u w : List ℕ) (a b union : List Bool) → a ≡ support_of u → b ≡ support_of w → IsUnion a b union → AreInside union u w
outside_union u w a b union a_is b_is is column none =
    let parts = or_parts (get_or a column false) (get_or b column false) (sym (is.each column) ∙ none) in
    (gone_where u a column a_is parts.0, gone_where w b column b_is parts.1)

pub union_width : (u w : List ℕ) (a b union : List Bool) → a ≡ support_of u → IsUnion a b union → length union ≡ length u
union_width u w a b union a_is is = is.count ∙ ap length a_is ∙ length-map u (λ entry. ltb 0 entry)
