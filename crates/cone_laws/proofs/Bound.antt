-- The bound on the union of two rays with no third inside.
use Rattle.std.proofs.Common.{◌≡◌, ◌≢◌, ℕ, ◌+◌, ◌*◌, ◌<◌, ◌≤◌, ◌⊎◌, inl, inr, true, false, List, [], ◌∷◌, length, slice_index, subst, sym, ap, arith, pos}
use Rattle.std.proofs.lemmas.Bool.{cases_lt, ltb-true, le-ltb, or_cases, or_from}
use Rattle.std.proofs.lemmas.List.Elements.{All-head, All-tail}
use Rattle.cone_definitions.specs.Vectors.{IsNonzero, IsInsideUnion}
use Rattle.cone_definitions.specs.Rows.{Row, IsSolution, IsPrimitiveExtreme}
use Rattle.cone_definitions.proofs.Entries.{inside_or_not, nonzero_before}
use Rattle.cone_definitions.proofs.Solutions.{mul_cancel, solution_sum}
use Rattle.cone_definitions.proofs.OneRay.{same_ray}
use Rattle.cone_laws.specs.Unions.{is_in_union, union_size}
use Rattle.cone_laws.specs.Laws.{HasNoThird}
use Rattle.cone_laws.specs.Meeting.{AreEnough}
use Rattle.cone_laws.proofs.Counts.{some_counted}
use Rattle.cone_laws.proofs.Mixed.{IsBalanced, two_of, length-two_of, entry-two_of}
use Rattle.cone_laws.proofs.Frees.{IsDifference, Frees, frees}
use Rattle.cone_laws.proofs.Spanned.{IsSpanned, spanned}
use Rattle.cone_laws.proofs.Shifted.{IsShifted, shifted_solution}

-- ---- the columns that settle both multiples

-- multiples of u and w whose sum is k times u and w at a and b have that sum everywhere
pub IsSettled : List ℕ → List ℕ → ℕ → ℕ → Type 0
IsSettled u w a b = (c d k : ℕ) → c * slice_index u a + d * slice_index w a ≡ k * (slice_index u a + slice_index w a) →
    c * slice_index u b + d * slice_index w b ≡ k * (slice_index u b + slice_index w b) →
    (j : ℕ) → c * slice_index u j + d * slice_index w j ≡ k * (slice_index u j + slice_index w j)

factor_is : (c d k x y : ℕ) → x ≢ 0 → y ≡ 0 → c * x + d * y ≡ k * (x + y) → c ≡ k
factor_is c d k x y some z e = mul_cancel x c k (omega arith) (let f : c * x + d * 0 ≡ k * (x + 0) = subst (λ n. c * x + d * n ≡ k * (x + n)) z e in omega arith)

-- a column of u alone and one of w alone
settled_apart : (u w : List ℕ) (a b : ℕ) → slice_index u a ≢ 0 → slice_index w a ≡ 0 → slice_index w b ≢ 0 → slice_index u b ≡ 0 → IsSettled u w a b
unfolding IsSettled
settled_apart u w a b ua wa wb ub c d k e f j = let g : c ≡ k = factor_is c d k (slice_index u a) (slice_index w a) ua wa e in
    let h : d ≡ k = factor_is d c k (slice_index w b) (slice_index u b) wb ub (omega arith) in rw (g, h) (omega arith)

sums_are : (c d k x : ℕ) → x ≢ 0 → c * x + d * x ≡ k * (x + x) → c + d ≡ k + k
sums_are c d k x some e = mul_cancel x (c + d) (k + k) (omega arith) (omega arith)

same_sums : (c d k x : ℕ) → c + d ≡ k + k → c * x + d * x ≡ k * (x + x)
same_sums c d k x e = omega (arith, ap (λ n. n * x) e)

-- if u and w are equal: a column of both
settled_same : (u : List ℕ) (a : ℕ) → slice_index u a ≢ 0 → IsSettled u u a a
unfolding IsSettled
settled_same u a some c d k e f j = same_sums c d k (slice_index u j) (sums_are c d k (slice_index u a) some e)

pub record HaveSettled (u w : List ℕ) : Type 0 where
  pub a : ℕ
  pub b : ℕ
  pub settled : IsSettled u w a b

same_have : (u w : List ℕ) → u ≡ w → IsNonzero u → HaveSettled u w
same_have u w e some = subst (HaveSettled u) e (record { a = some.0; b = some.0; settled = settled_same u some.0 some.1 })

pub have_settled : (columns : ℕ) (rows : List Row) (u w : List ℕ) → IsPrimitiveExtreme columns rows u → IsPrimitiveExtreme columns rows w → HaveSettled u w
have_settled columns rows u w hu hw = elim (inside_or_not u w) [
  | inl i ↦ same_have u w (sym (same_ray columns rows w u hw.extreme hw.primitive hu.extreme.solution hu.extreme.nonzero hu.primitive i)) hu.extreme.nonzero
  | inr a ↦ elim (inside_or_not w u) [
    | inl i ↦ same_have u w (same_ray columns rows u w hu.extreme hu.primitive hw.extreme.solution hw.extreme.nonzero hw.primitive i) hu.extreme.nonzero
    | inr b ↦ record { a = a.0; b = b.0; settled = settled_apart u w a.0 b.0 a.2 a.1 b.2 b.1 }
  ]
]

-- ---- the row that reads one column

at_column : ℕ → Row
at_column a = (a, pos 1) ∷ []

same_at : (a : ℕ) (p m : List ℕ) → IsBalanced (at_column a) p m → slice_index p a ≡ slice_index m a
unfolding at_column
same_at a p m e = omega (arith, e)

-- ---- the union

in_union_some : (u w : List ℕ) (j : ℕ) → is_in_union u w j ≡ true → (slice_index u j ≢ 0) ⊎ (slice_index w j ≢ 0)
in_union_some u w j h = elim (or_cases _ _ h) [
  | inl e ↦ inl (λ z. let l : 0 < slice_index u j = ltb-true 0 (slice_index u j) e in omega arith)
  | inr e ↦ inr (λ z. let l : 0 < slice_index w j = ltb-true 0 (slice_index w j) e in omega arith)
]

in_union_none : (u w : List ℕ) (j : ℕ) → slice_index u j ≡ 0 → slice_index w j ≡ 0 → is_in_union u w j ≡ false
in_union_none u w j a b = or_from _ _ (le-ltb 0 (slice_index u j) (omega arith)) (le-ltb 0 (slice_index w j) (omega arith))

in_union_within : (columns : ℕ) (u w : List ℕ) → length u ≡ columns → length w ≡ columns → (j : ℕ) → is_in_union u w j ≡ true → j < columns
in_union_within columns u w eu ew j h = elim (in_union_some u w j h) [
  | inl s ↦ nonzero_before u columns j eu s
  | inr s ↦ nonzero_before w columns j ew s
]

-- ---- the bound

-- k * s is what x and m are together less p; a multiple n of x is c and d times u and w
back : (n c d k x m s p u w : ℕ) → 1 ≤ n → x + m ≡ k * s + p → s ≡ 1 * u + 1 * w → n * x ≡ c * u + d * w → p ≡ m → c * u + d * w ≡ n * k * (u + w)
back n c d k x m s p u w some e f g h = let t : x + m ≡ k * (1 * u + 1 * w) + m = subst (λ b. x + m ≡ k * (1 * u + 1 * w) + b) h (subst (λ b. x + m ≡ k * b + p) f e) in
    omega (arith, ap (λ b. n * b) t)

forth : (n c d k x m s p u w : ℕ) → 1 ≤ n → x + m ≡ k * s + p → s ≡ 1 * u + 1 * w → n * x ≡ c * u + d * w → c * u + d * w ≡ n * k * (u + w) → p ≡ m
forth n c d k x m s p u w some e f g h = let t : x + m ≡ k * (1 * u + 1 * w) + p = subst (λ b. x + m ≡ k * b + p) f e in
    mul_cancel n p m some (omega (arith, ap (λ b. n * b) t))

module _ (columns : ℕ) (rows others : List Row) (u w : List ℕ) (hu : IsPrimitiveExtreme columns rows u) (hw : IsPrimitiveExtreme columns rows w)
    (no_third : HasNoThird columns rows u w) (enough : AreEnough columns rows others u w) where
  both : List ℕ
  both = two_of columns 1 1 u w

  entry-both : (j : ℕ) → slice_index both j ≡ 1 * slice_index u j + 1 * slice_index w j
  unfolding both
  entry-both j = entry-two_of columns 1 1 u w hu.extreme.solution.width hw.extreme.solution.width j

  both_solution : IsSolution columns others both
  unfolding both
  both_solution = solution_sum columns others 1 1 1 (two_of columns 1 1 u w) u w (omega arith) (length-two_of columns 1 1 u w)
      (λ j. omega (arith, entry-both j)) enough.u_solution enough.w_solution

  -- a signed solution inside the union that is 0 at the two columns is 0
  vanishes : (h : HaveSettled u w) (p m : List ℕ) → IsDifference columns (at_column h.a ∷ at_column h.b ∷ others) (is_in_union u w) p m → (j : ℕ) → slice_index p j ≡ slice_index m j
  unfolding IsSettled
  vanishes h p m z j = forth s.m s.c s.d y.k (slice_index y.x j) (slice_index m j) (slice_index both j) (slice_index p j) (slice_index u j) (slice_index w j)
      s.some_m (y.sum j) (entry-both j) (s.sum j) (h.settled s.c s.d (s.m * y.k) (at_place h.a at_a) (at_place h.b at_b) j)
    where
      at_a : slice_index p h.a ≡ slice_index m h.a
      at_a = same_at h.a p m (All-head (λ row. IsBalanced row p m) (at_column h.a) (at_column h.b ∷ others) z.balanced)

      at_b : slice_index p h.b ≡ slice_index m h.b
      at_b = same_at h.b p m (All-head (λ row. IsBalanced row p m) (at_column h.b) others (All-tail (λ row. IsBalanced row p m) (at_column h.a) (at_column h.b ∷ others) z.balanced))

      outside : (i : ℕ) → slice_index both i ≡ 0 → slice_index p i ≡ slice_index m i
      outside i e = z.outside i (in_union_none u w i (omega (arith, entry-both i, e)) (omega (arith, entry-both i, e)))

      y : IsShifted columns others both p m
      y = shifted_solution columns both p m both_solution.width z.p_width z.m_width outside others both_solution
          (All-tail (λ row. IsBalanced row p m) (at_column h.b) others (All-tail (λ row. IsBalanced row p m) (at_column h.a) (at_column h.b ∷ others) z.balanced))

      inside : IsInsideUnion y.x u w
      inside i a b = let e : slice_index both i ≡ 0 = omega (arith, entry-both i, a, b) in
          let f : y.k * slice_index both i ≡ 0 = rw e (omega arith) in omega (arith, y.sum i, outside i e)

      s : IsSpanned u w y.x
      s = spanned columns rows u w no_third y.x (enough.inside_union y.x y.solution inside) inside

      at_place : (i : ℕ) → slice_index p i ≡ slice_index m i → s.c * slice_index u i + s.d * slice_index w i ≡ s.m * y.k * (slice_index u i + slice_index w i)
      at_place i e = back s.m s.c s.d y.k (slice_index y.x i) (slice_index m i) (slice_index both i) (slice_index p i) (slice_index u i) (slice_index w i)
          s.some_m (y.sum i) (entry-both i) (s.sum i) e

  none_free : (h : HaveSettled u w) → Frees columns (at_column h.a ∷ at_column h.b ∷ others) (is_in_union u w) → length others + 2 < union_size columns u w → ⊥
  none_free h F large = let c = some_counted F.free 0 columns (omega (arith, F.count)) in F.own c.0 c.1 (vanishes h (F.p c.0) (F.m c.0) (F.difference c.0 c.1) c.0)

  pub enough_bound : union_size columns u w ≤ length others + 2
  enough_bound = elim (cases_lt (length others + 2) (union_size columns u w)) [
    | inr small ↦ small
    | inl large ↦ let h = have_settled columns rows u w hu hw in
        absurd (none_free h (frees columns (at_column h.a ∷ at_column h.b ∷ others) (is_in_union u w) (in_union_within columns u w hu.extreme.solution.width hw.extreme.solution.width)) large)
  ]

all_enough : (columns : ℕ) (rows : List Row) (u w : List ℕ) → IsPrimitiveExtreme columns rows u → IsPrimitiveExtreme columns rows w → AreEnough columns rows rows u w
all_enough columns rows u w hu hw = record { u_solution = hu.extreme.solution; w_solution = hw.extreme.solution; inside_union = λ x sol inside. sol }

pub union_bound : (columns : ℕ) (rows : List Row) (u w : List ℕ) → IsPrimitiveExtreme columns rows u → IsPrimitiveExtreme columns rows w → HasNoThird columns rows u w →
    union_size columns u w ≤ length rows + 2
union_bound columns rows u w hu hw no_third = enough_bound columns rows rows u w hu hw no_third (all_enough columns rows u w hu hw)
