-- Third rays by residuals.
use Rattle.std.proofs.Common.{◌≡◌, ◌≢◌, ℕ, zero, suc, ◌≤◌, ◌||◌, ◌↔◌, inl, inr, Bool, true, false, cond, eqb, ltb, List, length, get_or, refl, sym, ap, ap₂, ◌∙◌, arith}
use Rattle.std.proofs.lemmas.Bool.{cases_eq, cases_lt, cases_Bool, cond-true, cond-false, eqb-true, lt-ltb, or_left, or_right}
use Rattle.std.proofs.lemmas.List.{get_or_past}
use Rattle.std.proofs.lemmas.List.FromFn.{length-map-range_with_len, get_or-map-range_with_len}
use Rattle.cone_definitions.specs.Vectors.{IsInside, IsInsideUnion, ray_at}
use Rattle.cone_definitions.specs.Surfaces.{Clash, IsAdmissibleUnion}
use Rattle.cone_laws.specs.Unions.{is_in_union, union_size}
use Rattle.cone_laws.specs.Residuals.{residual, IsMinimalResidual, HasNoThirdPlace, IsCompatibleWith, IsMinimalAmongCompatible}
use Rattle.cone_laws.proofs.Counts.{count_weaker, count_stronger}

-- ---- entries of a residual

cond_zero : (b : Bool) (n : ℕ) → n ≡ 0 → cond b n 0 ≡ 0
cond_zero true n z = z
cond_zero false n z = refl

residual_at : (u x : List ℕ) (column : ℕ) → get_or (residual u x) column 0 ≡ cond (eqb (get_or u column 0) 0) (get_or x column 0) 0
residual_at u x column = elim (cases_lt column (length x)) [
  | inl less ↦ get_or-map-range_with_len (λ j. cond (eqb (get_or u j 0) 0) (get_or x j 0) 0) 0 (length x) column column 0 less (omega arith)
  | inr exceeded ↦ get_or_past (residual u x) column 0 (let n = length-map-range_with_len (λ j. cond (eqb (get_or u j 0) 0) (get_or x j 0) 0) 0 (length x) in omega arith)
      ∙ sym (cond_zero (eqb (get_or u column 0) 0) (get_or x column 0) (get_or_past x column 0 exceeded))
]

residual_beside : (u x : List ℕ) (column : ℕ) → get_or u column 0 ≡ 0 → get_or (residual u x) column 0 ≡ get_or x column 0
residual_beside u x column z = residual_at u x column ∙ cond-true (eqb (get_or u column 0) 0) (get_or x column 0) 0 (ap (λ n. eqb n 0) z)

residual_gone : (u x : List ℕ) (column : ℕ) → get_or u column 0 ≢ 0 → get_or (residual u x) column 0 ≡ 0
residual_gone u x column some = elim (cases_Bool (eqb (get_or u column 0) 0)) [
  | inl e ↦ absurd (some (eqb-true (get_or u column 0) 0 e))
  | inr e ↦ residual_at u x column ∙ cond-false (eqb (get_or u column 0) 0) (get_or x column 0) 0 e
]

-- ---- third rays

pub inside_by_residuals : (u w t : List ℕ) → IsInsideUnion t u w ↔ IsInside (residual u t) (residual u w)
inside_by_residuals u w t = (forth, back)
  where
    forth : IsInsideUnion t u w → IsInside (residual u t) (residual u w)
    forth inside column zero_w = elim (cases_eq (get_or u column 0) 0) [
      | inl z ↦ residual_beside u t column z ∙ inside column z (sym (residual_beside u w column z) ∙ zero_w)
      | inr some ↦ residual_gone u t column some
    ]

    back : IsInside (residual u t) (residual u w) → IsInsideUnion t u w
    back inside column at_u at_w = sym (residual_beside u t column at_u) ∙ inside column (residual_beside u w column at_u ∙ at_w)

pub minimal_has_no_third : (rays : List (List ℕ)) (i j : ℕ) → IsMinimalResidual rays i j ↔ HasNoThirdPlace rays i j
minimal_has_no_third rays i j = (forth, back)
  where
    forth : IsMinimalResidual rays i j → HasNoThirdPlace rays i j
    forth minimal k less inside = elim (cases_eq k i) [
      | inl first ↦ inl first
      | inr other ↦ inr (minimal k less other ((inside_by_residuals (ray_at rays i) (ray_at rays j) (ray_at rays k)).0 inside))
    ]

    back : HasNoThirdPlace rays i j → IsMinimalResidual rays i j
    back none k less other inside = elim (none k less ((inside_by_residuals (ray_at rays i) (ray_at rays j) (ray_at rays k)).1 inside)) [
      | inl first ↦ absurd (other first)
      | inr second ↦ second
    ]

pub inside_are_rivals : (pairs : List Clash) (u w t : List ℕ) → IsAdmissibleUnion pairs u w → IsInsideUnion t u w → IsCompatibleWith pairs u t
inside_are_rivals pairs u w t admissible inside k d less = elim (admissible k d less) [
  | inl first ↦ (inl first.0, inr (inside _ first.0 first.1))
  | inr second ↦ (inr (inside _ second.0 second.1), inl second.0)
]

pub rivals_decide : (pairs : List Clash) (rays : List (List ℕ)) (i j : ℕ) → IsAdmissibleUnion pairs (ray_at rays i) (ray_at rays j) → IsMinimalAmongCompatible pairs rays i j ↔ HasNoThirdPlace rays i j
rivals_decide pairs rays i j admissible = (
  λ minimal. (minimal_has_no_third rays i j).0 (λ k less other inside. minimal k less other
      (inside_are_rivals pairs (ray_at rays i) (ray_at rays j) (ray_at rays k) admissible ((inside_by_residuals (ray_at rays i) (ray_at rays j) (ray_at rays k)).1 inside)) inside),
  λ none k less other _ inside. (minimal_has_no_third rays i j).1 none k less other inside,
)

-- ---- smaller ones alone

in_weaker_union : (a b c : ℕ) → (a ≡ 0 → b ≡ 0 → c ≡ 0) → (ltb 0 a || ltb 0 c) ≡ true → (ltb 0 a || ltb 0 b) ≡ true
in_weaker_union (suc a) b c h p = or_left (ltb 0 (suc a)) (ltb 0 b) (lt-ltb 0 (suc a) (omega arith))
in_weaker_union zero (suc b) c h p = or_right (ltb 0 0) (ltb 0 (suc b)) (lt-ltb 0 (suc b) (omega arith))
in_weaker_union zero zero zero h p = p
in_weaker_union zero zero (suc c) h p = absurd (let e : suc c ≡ 0 = h refl refl in omega arith)

in_no_union : (a b : ℕ) → a ≡ 0 → b ≡ 0 → (ltb 0 a || ltb 0 b) ≡ false
in_no_union a b y z = ap₂ (λ m n. ltb 0 m || ltb 0 n) y z

in_union_by_second : (a b : ℕ) → b ≢ 0 → (ltb 0 a || ltb 0 b) ≡ true
in_union_by_second a b some = or_right (ltb 0 a) (ltb 0 b) (lt-ltb 0 b (omega arith))

pub smaller_alone : (columns : ℕ) (u w t : List ℕ) → IsInsideUnion t u w → union_size columns u t ≤ union_size columns u w
smaller_alone columns u w t inside = count_weaker (is_in_union u t) (is_in_union u w) 0 columns
    (λ j _ has. in_weaker_union (get_or u j 0) (get_or w j 0) (get_or t j 0) (inside j) has)

pub equal_spoil : (columns : ℕ) (u w t : List ℕ) → length w ≡ columns → IsInsideUnion t u w → union_size columns u w ≤ union_size columns u t → IsInsideUnion w u t
equal_spoil columns u w t wide inside limited column at_u at_t = elim (cases_eq (get_or w column 0) 0) [
  | inl z ↦ z
  | inr some ↦ elim (cases_lt column (length w)) [
    | inl less ↦ absurd (let more = count_stronger (is_in_union u t) (is_in_union u w) 0 columns column
        (λ j has. in_weaker_union (get_or u j 0) (get_or w j 0) (get_or t j 0) (inside j) has) (omega arith) (omega arith)
        (in_no_union (get_or u column 0) (get_or t column 0) at_u at_t) (in_union_by_second (get_or u column 0) (get_or w column 0) some) in omega (arith, limited, more))
    | inr exceeded ↦ get_or_past w column 0 exceeded
  ]
]
