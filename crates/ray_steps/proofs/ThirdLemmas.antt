-- The compatible rays, one after another, for plain values.
use Rattle.std.proofs.Common.{◌≡◌, ◌≢◌, ℕ, ◌+◌, ◌<◌, ◌≤◌, List, [], Bool, length, get_or, slice_index_or, subst, ◌∙◌, ap, arith}
use Rattle.support_bits.specs.Columns.{IsInsideUnionOf}
use Rattle.ray_steps.specs.CompatibleLists.{IsThirdInside}

pub from_zero : (k : ℕ) → 0 ≤ k
from_zero k = omega arith

-- the ray of an index that was read is a third one
pub third_found : (places read : List ℕ) (supports : List (List Bool)) (i j m : ℕ) (a b : List Bool) → read ≡ places → m < length read →
    (m < length places → IsInsideUnionOf (slice_index_or supports m []) a b) → (get_or read m 0 ≢ i) × (get_or read m 0 ≢ j) → (m < length places) × IsThirdInside places supports i j a b m
third_found places read supports i j m a b same within inside third =
    let less = subst (λ ps. m < length ps) same within in
    let at = ap (λ ps. get_or ps m 0) same in
    (less, ((λ e. third.0 (at ∙ e)), (λ e. third.1 (at ∙ e)), inside less))

pub next_start : (places read : List ℕ) (m n : ℕ) → read ≡ places → n ≡ length places → m < length read → m + 1 ≤ n
next_start places read m n same count within = let k = ap length same in omega arith

pub before_end : (places read : List ℕ) (k m : ℕ) → read ≡ places → length read ≤ m → k < length places → k < m
before_end places read k m same exceeded within = let n = ap length same in omega arith

pub within_supports : (places read : List ℕ) (m n : ℕ) → read ≡ places → n ≡ length places → m < length read → m < n
within_supports places read m n same count within = let k = ap length same in omega arith
