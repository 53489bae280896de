-- The least listed vector inside another, and the least fraction: each exists, and there is one.
use Rattle.std.proofs.Common.{◌≡◌, ◌≢◌, ℕ, zero, suc, ◌*◌, ◌/◌, ◌<◌, ◌≤◌, ◌⊎◌, inl, inr, List, [], ◌∷◌, length, slice_index, slice_index_or, AllPairs, Contains, subst, subst₂, sym, ap, refl, ◌∙◌, arith}
use Rattle.std.proofs.Math.Nat.{le_of_mul-le-mul_left, mul-div_cancel', pos_of_dvd_of_pos, eq-one_of_dvd-one, one-dvd, mul-dvd-mul_left, mul-le-mul_left, dvd-zero}
use Rattle.std.proofs.lemmas.Nat.Gcd.{dvd_refl}
use Rattle.std.proofs.lemmas.List.{get_or_default}
use Rattle.std.specs.Int.{◌∣◌, IsGcd}
use Rattle.std.proofs.lemmas.Bool.{cases_eq, cases_order}
use Rattle.cone_definitions.specs.Vectors.{IsNonzero, IsInside, IsPrimitive, IsBefore}
use Rattle.cone_definitions.proofs.Below.{all_or_first}
use Rattle.cone_definitions.proofs.Ratio.{IsLeastRatio, least_ratio}
use Rattle.cone_definitions.proofs.Solutions.{mul_cancel}
use Rattle.cone_definitions.proofs.Divisors.{gcd_exists, one_from_divisor}
use Rattle.cone_definitions.proofs.OneRay.{same_primitive}
use Rattle.cone_definitions.proofs.Lexicographic.{before_asymmetric}
use Rattle.cone_definitions.proofs.Entries.{inside_or_not, nonzero_before}
use Rattle.sum_definitions.specs.Sums.{IsLeastInside, IsLeastFraction}

-- ---- the least listed vector inside r

pub one_least : (list : List (List ℕ)) (r v w : List ℕ) → IsLeastInside list r v → IsLeastInside list r w → v ≡ w
one_least list r v w a b = elim (a.least w b.listed b.inside) [
  | inl e ↦ e
  | inr before ↦ elim (b.least v a.listed a.inside) [
    | inl e ↦ sym e
    | inr after ↦ absurd (before_asymmetric v w before after)
  ]
]

-- the vector at the first place whose vector lies inside r
pub least_at : (list : List (List ℕ)) (r : List ℕ) (k : ℕ) → AllPairs IsBefore list → k < length list → IsInside (slice_index_or list k []) r →
    ((i : ℕ) → i < k → IsInside (slice_index_or list i []) r → ⊥) → IsLeastInside list r (slice_index_or list k [])
least_at list r k ascending l inside first = record {
  listed = (k, l, same_place (slice_index_or list k []));
  inside = inside;
  least = λ other c in_r. compare other c.0 c.1 c.2 in_r;
}
  where
    same_place : (d : List ℕ) → slice_index_or list k d ≡ slice_index_or list k []
    same_place d = get_or_default list k d [] l

    compare : (other : List ℕ) (i : ℕ) → i < length list → slice_index_or list i other ≡ other → IsInside other r → (slice_index_or list k [] ≡ other) ⊎ IsBefore (slice_index_or list k []) other
    compare other i m e in_r = elim (cases_order k i) [
      | inl same ↦ inl (sym (same_place other) ∙ ap (λ n. slice_index_or list n other) same ∙ e)
      | inr (inl less) ↦ inr (subst (λ v. IsBefore v other) (same_place other) (subst (IsBefore (slice_index_or list k other)) e (ascending k i other less m)))
      | inr (inr more) ↦ absurd (first i more (subst (λ v. IsInside v r) (sym (get_or_default list i [] other m ∙ e)) in_r))
    ]

pub some_least : (list : List (List ℕ)) (r v : List ℕ) → AllPairs IsBefore list → Contains list v → IsInside v r → (w : List ℕ) × IsLeastInside list r w
some_least list r v ascending c inside = elim (all_or_first (λ i. IsInside (slice_index_or list i []) r → ⊥) (λ i. IsInside (slice_index_or list i []) r) decide (length list)) [
  | inl none ↦ absurd (none c.0 c.1 (subst (λ w. IsInside w r) (sym (get_or_default list c.0 [] v c.1 ∙ c.2)) inside))
  | inr found ↦ (slice_index_or list found.0 [], least_at list r found.0 ascending found.1 found.3 found.2)
]
  where
    decide : (i : ℕ) → (IsInside (slice_index_or list i []) r → ⊥) ⊎ IsInside (slice_index_or list i []) r
    decide i = elim (inside_or_not (slice_index_or list i []) r) [
      | inl h ↦ inr h
      | inr out ↦ inl (λ h. out.2 (h out.0 out.1))
    ]

-- ---- the least fraction

-- q is not 0
pub some_q : (r v : List ℕ) (p q : ℕ) → IsLeastFraction r v p q → 1 ≤ q
some_q r v p q h = elim (cases_eq q 0) [
  | inr some ↦ omega arith
  | inl z ↦ let one : p ≡ 1 = eq-one_of_dvd-one (h.lowest.2 p (dvd_refl p) (subst (λ n. p ∣ n) (sym z) (dvd-zero p))) in
      let e : p * slice_index v h.column ≡ q * slice_index r h.column = h.reached in
      absurd (h.some (gone p q (slice_index v h.column) (slice_index r h.column) one z e))
]
  where
    gone : (p q a b : ℕ) → p ≡ 1 → q ≡ 0 → p * a ≡ q * b → a ≡ 0
    gone p q a b one z e = let f : 1 * a ≡ 0 * b = subst₂ (λ m n. m * a ≡ n * b) one z e in omega arith

cross : (p q p' q' a b : ℕ) → a ≢ 0 → p * a ≡ q * b → p' * a ≤ q' * b → q * p' ≤ q' * p
cross p q p' q' a b some here there = le_of_mul-le-mul_left {k = a} (let l : q * (p' * a) ≤ q * (q' * b) = mul-le-mul_left q there in omega (arith, l, ap (λ n. q' * n) here)) (omega arith)

pair_primitive : (p q : ℕ) → IsGcd p q 1 → IsPrimitive (p ∷ q ∷ [])
pair_primitive p q h d divides = eq-one_of_dvd-one (h.2 d (divides 0) (divides 1))

pub one_fraction : (r v : List ℕ) (p q p' q' : ℕ) → IsLeastFraction r v p q → IsLeastFraction r v p' q' → (p ≡ p') × (q ≡ q')
one_fraction r v p q p' q' a b = (ap (λ x. slice_index x 0) same, ap (λ x. slice_index x 1) same)
  where
    equal : q' * p ≡ q * p'
    equal = let one : q * p' ≤ q' * p = cross p q p' q' (slice_index v a.column) (slice_index r a.column) a.some a.reached (b.least a.column a.some) in
        let two : q' * p ≤ q * p' = cross p' q' p q (slice_index v b.column) (slice_index r b.column) b.some b.reached (a.least b.column b.some) in omega arith

    entries : (j : ℕ) → q' * slice_index (p ∷ q ∷ []) j ≡ q * slice_index (p' ∷ q' ∷ []) j
    entries zero = equal
    entries (suc zero) = omega arith
    entries (suc (suc j)) = omega arith

    same : p ∷ q ∷ [] ≡ p' ∷ q' ∷ []
    same = same_primitive 2 (p ∷ q ∷ []) (p' ∷ q' ∷ []) refl refl (1, λ z. let l : 1 ≤ q = some_q r v p q a in absurd (omega arith))
        (record { m = q'; c = q; some_m = some_q r v p' q' b; some_c = some_q r v p q a; same = entries }) (pair_primitive p q a.lowest) (pair_primitive p' q' b.lowest)

-- with a the entry of r and b that of v at the column of the least ratio, a / g over b / g is the least fraction
lowest : (a b g : ℕ) → 1 ≤ g → IsGcd a b g → IsGcd (a / g) (b / g) 1
lowest a b g some h = (
  one-dvd (a / g),
  one-dvd (b / g),
  λ d x y. subst (λ n. n ∣ 1) (sym (one_from_divisor g d some
      (h.2 (g * d) (subst (λ n. g * d ∣ n) (mul-div_cancel' g h.0) (mul-dvd-mul_left d g x)) (subst (λ n. g * d ∣ n) (mul-div_cancel' g h.1) (mul-dvd-mul_left d g y))))) (one-dvd 1),
)

scaled_equal : (g p q a b : ℕ) → 1 ≤ g → g * p ≡ a → g * q ≡ b → p * b ≡ q * a
scaled_equal g p q a b some e f = mul_cancel g (p * b) (q * a) some (omega (arith, ap (λ n. b * n) e, ap (λ n. a * n) f))

scaled_le : (g p q a b x y : ℕ) → 1 ≤ g → g * p ≡ a → g * q ≡ b → a * x ≤ b * y → p * x ≤ q * y
scaled_le g p q a b x y some e f l = le_of_mul-le-mul_left {k = g} (omega (arith, ap (λ n. x * n) e, ap (λ n. y * n) f)) (omega arith)

-- at the column of the least ratio, both entries divided by a common divisor of theirs that is the greatest
pub fraction_at : (r v : List ℕ) (k g : ℕ) → IsLeastRatio (slice_index r) (slice_index v) (length v) k → IsGcd (slice_index r k) (slice_index v k) g →
    IsLeastFraction r v (slice_index r k / g) (slice_index v k / g)
fraction_at r v k g h d = record {
  lowest = lowest (slice_index r k) (slice_index v k) g positive d;
  column = k;
  some = h.some;
  reached = scaled_equal g (slice_index r k / g) (slice_index v k / g) (slice_index r k) (slice_index v k) positive e f;
  least = λ j n. scaled_le g (slice_index r k / g) (slice_index v k / g) (slice_index r k) (slice_index v k) (slice_index v j) (slice_index r j) positive e f
      (h.least j (nonzero_before v (length v) j refl n));
}
  where
    positive : 1 ≤ g
    positive = pos_of_dvd_of_pos d.1 (let n : slice_index v k ≢ 0 = h.some in omega arith)

    e : g * (slice_index r k / g) ≡ slice_index r k
    e = mul-div_cancel' g d.0

    f : g * (slice_index v k / g) ≡ slice_index v k
    f = mul-div_cancel' g d.1

pub some_fraction : (r v : List ℕ) → IsNonzero v → (p : ℕ) × (q : ℕ) × IsLeastFraction r v p q
some_fraction r v some = elim (least_ratio (slice_index r) (slice_index v) (length v)) [
  | inl none ↦ absurd (some.1 (none some.0 (nonzero_before v (length v) some.0 refl some.1)))
  | inr found ↦ let g = gcd_exists (slice_index r found.0) (slice_index v found.0) in
      (slice_index r found.0 / g.0, slice_index v found.0 / g.0, fraction_at r v found.0 g.0 found.1 g.1)
]
