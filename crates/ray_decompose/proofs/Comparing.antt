-- Fractions are compared by their whole parts, and if these are equal by the remainders; and the least fraction of a
-- list.
use Rattle.std.proofs.Common.{◌≡◌, ◌≢◌, ℕ, suc, ◌+◌, ◌*◌, ◌/◌, ◌%◌, ◌<◌, ◌≤◌, ◌↔◌, IsTrue, nat_lt, List, slice_index, inl, inr, ap, arith, le_of_lt}
use Rattle.std.proofs.Math.Nat.{div-add-mod, mod-lt, mul-le-mul_left, mul-le-mul_right, le_of_mul-le-mul_left}
use Rattle.std.proofs.lemmas.Bool.{cases_order, cases_lt}
use Rattle.ray_decompose.specs.Fractions.{IsLeastColumn}

-- with the whole parts m and n and the rests r and s
record Parts (a b c d m r n s : ℕ) : Type 0 where
  pub first : b * m + r ≡ a
  pub second : d * n + s ≡ c
  pub r_less : r < b
  pub s_less : s < d

parts : (a b c d : ℕ) → 1 ≤ b → 1 ≤ d → Parts a b c d (a / b) (a % b) (c / d) (c % d)
parts a b c d some_b some_d = record {
  first = div-add-mod a b;
  second = div-add-mod c d;
  r_less = mod-lt a (omega arith);
  s_less = mod-lt c (omega arith);
}

less_whole : (a b c d m r n s : ℕ) → Parts a b c d m r n s → m < n → a * d ≤ c * b
less_whole a b c d m r n s h less =
    let rest : r * d ≤ b * d = mul-le-mul_right d (le_of_lt h.r_less) in
    let step : b * d * suc m ≤ b * d * n = mul-le-mul_left (b * d) (omega arith) in
    let e : (b * m + r) * d ≡ a * d = ap (λ t. t * d) h.first in
    let f : (d * n + s) * b ≡ c * b = ap (λ t. t * b) h.second in omega arith

more_whole : (a b c d m r n s : ℕ) → Parts a b c d m r n s → n < m → c * b < a * d
more_whole a b c d m r n s h more =
    let rest : suc s * b ≤ d * b = mul-le-mul_right b (let l : s < d = h.s_less in omega arith) in
    let some : 1 ≤ b = (let l : r < b = h.r_less in omega arith) in
    let step : b * d * suc n ≤ b * d * m = mul-le-mul_left (b * d) (omega arith) in
    let e : (b * m + r) * d ≡ a * d = ap (λ t. t * d) h.first in
    let f : (d * n + s) * b ≡ c * b = ap (λ t. t * b) h.second in omega arith

same_whole : (a b c d m r n s : ℕ) → Parts a b c d m r n s → m ≡ n → (d * r ≤ b * s) ↔ (a * d ≤ c * b)
same_whole a b c d m r n s h same = (λ l. omega (arith, e, f, g), λ l. omega (arith, e, f, g))
  where
    e : (b * m + r) * d ≡ a * d
    e = ap (λ t. t * d) h.first

    f : (d * n + s) * b ≡ c * b
    f = ap (λ t. t * b) h.second

    g : b * d * m ≡ b * d * n
    g = ap (λ t. b * d * t) same

lt_of : (m n : ℕ) → IsTrue (nat_lt m n) → m < n
lt_of m n h = grind arith

of_lt : (m n : ℕ) → m < n → IsTrue (nat_lt m n)
of_lt m n h = grind arith

pub by_whole_parts : (a b c d : ℕ) → 1 ≤ b → 1 ≤ d → a / b ≢ c / d → IsTrue (nat_lt (a / b) (c / d)) ↔ (a * d ≤ c * b)
by_whole_parts a b c d some_b some_d other = (
  λ t. less_whole a b c d (a / b) (a % b) (c / d) (c % d) p (lt_of (a / b) (c / d) t),
  λ l. elim (cases_order (a / b) (c / d)) [
    | inl e ↦ absurd (other e)
    | inr (inl less) ↦ of_lt (a / b) (c / d) less
    | inr (inr more) ↦ let m : c * b < a * d = more_whole a b c d (a / b) (a % b) (c / d) (c % d) p more in absurd (omega arith)
  ],
)
  where
    p : Parts a b c d (a / b) (a % b) (c / d) (c % d)
    p = parts a b c d some_b some_d

pub by_rests : (a b c d : ℕ) → 1 ≤ b → 1 ≤ d → a / b ≡ c / d → (d * (a % b) ≤ b * (c % d)) ↔ (a * d ≤ c * b)
by_rests a b c d some_b some_d same = same_whole a b c d (a / b) (a % b) (c / d) (c % d) (parts a b c d some_b some_d) same

pub no_first_rest : (b d r s : ℕ) → r ≡ 0 → d * r ≤ b * s
no_first_rest b d r s z = rw z (omega arith)

pub no_second_rest : (b d r s : ℕ) → 1 ≤ d → r ≢ 0 → s ≡ 0 → d * r ≤ b * s → ⊥
no_second_rest b d r s some n z l = let m : d * 1 ≤ d * r = mul-le-mul_left d (omega arith) in let w : b * s ≡ 0 = rw z (omega arith) in omega arith

-- ---- the least fraction of a list

not_zero : (a b vk vn : ℕ) → vn ≡ 0 → a * vn ≤ b * vk
not_zero a b vk vn z = rw z (omega arith)

ratio_trans : (xk vk xn vn xj vj : ℕ) → vk ≢ 0 → xn * vk ≤ xk * vn → xk * vj ≤ xj * vk → xn * vj ≤ xj * vn
ratio_trans xk vk xn vn xj vj some less least =
    let p : xn * vk * vj ≤ xk * vn * vj = mul-le-mul_right vj less in
    let q : vn * (xk * vj) ≤ vn * (xj * vk) = mul-le-mul_left vn least in
    le_of_mul-le-mul_left {k = vk} (omega arith) (omega arith)

-- the least column so far is the least with one more column
pub kept_least : (r v : List ℕ) (n k : ℕ) → IsLeastColumn r v n k → slice_index r k * slice_index v n ≤ slice_index r n * slice_index v k → IsLeastColumn r v (n + 1) k
kept_least r v n k h here = record {
  in_range = let l : k < n = h.in_range in omega arith;
  some = h.some;
  least = λ j l. elim (cases_lt j n) [
    | inl less ↦ h.least j less
    | inr not ↦ let e : j ≡ n = omega arith in rw e here
  ];
}

pub zero_least : (r v : List ℕ) (n k : ℕ) → IsLeastColumn r v n k → slice_index v n ≡ 0 → IsLeastColumn r v (n + 1) k
zero_least r v n k h z = kept_least r v n k h (not_zero (slice_index r k) (slice_index r n) (slice_index v k) (slice_index v n) z)

pub new_least : (r v : List ℕ) (n k : ℕ) → IsLeastColumn r v n k → slice_index v n ≢ 0 → (slice_index r k * slice_index v n ≤ slice_index r n * slice_index v k → ⊥) → IsLeastColumn r v (n + 1) n
new_least r v n k h some not_kept = record {
  in_range = omega arith;
  some = some;
  least = λ j l. elim (cases_lt j n) [
    | inl less ↦ ratio_trans (slice_index r k) (slice_index v k) (slice_index r n) (slice_index v n) (slice_index r j) (slice_index v j) h.some less_here (h.least j less)
    | inr not ↦ let e : j ≡ n = omega arith in rw e (omega arith)
  ];
}
  where
    less_here : slice_index r n * slice_index v k ≤ slice_index r k * slice_index v n
    less_here = elim (cases_lt (slice_index r n * slice_index v k) (slice_index r k * slice_index v n)) [
      | inl l ↦ le_of_lt l
      | inr l ↦ absurd (not_kept l)
    ]
