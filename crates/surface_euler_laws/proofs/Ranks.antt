-- How many marked indices are before an index, and the marked index before which there are exactly r.
use Rattle.std.proofs.Common.{◌≡◌, ℕ, zero, suc, ◌+◌, ◌-◌, ◌<◌, ◌≤◌, Bool, true, false, cond, List, [], ◌∷◌, ◌⊎◌, inl, inr, refl, sym, ap, ◌∙◌, subst, arith}
use Rattle.std.specs.Prelude.{sum_by, slice_index}
use Rattle.std.proofs.lemmas.Bool.{cases_lt, lt-ltb, le-ltb}
use Rattle.table_definitions.specs.Lists.{below}
use Rattle.table_definitions.proofs.Listed.{below-among}
use Rattle.surface_laws.specs.PieceLaws.{first_nonzero}
use Rattle.surface_laws.proofs.ArcPieces.{from_end}
use Rattle.surface_laws.proofs.Counting.{sum_by_same, below_sum, sum_back, last_term}
use Rattle.surface_euler_laws.proofs.Shapes.{first_test}

pub first_part : (f : ℕ → ℕ) (j n : ℕ) → j < n → sum_by f (below j) + f j ≤ sum_by f (below n)
first_part f j n l =
    let e : suc j + (n - suc j) ≡ n = omega arith in
    let all : sum_by f (below (suc j + (n - suc j))) ≡ sum_by f (below (suc j)) + sum_by (λ a. f (suc j + a)) (below (n - suc j)) = below_sum f (suc j) (n - suc j) in
    let same : sum_by f (below (suc j + (n - suc j))) ≡ sum_by f (below n) = ap (λ m. sum_by f (below m)) e in
    let last = last_term f j in
    omega arith

-- the marked index before which there are exactly r marked ones
pub select : (f : ℕ → ℕ) → ((j : ℕ) → (f j ≡ 0) ⊎ (f j ≡ 1)) → (n r : ℕ) → r < sum_by f (below n) → (j : ℕ) × (j < n) × (f j ≡ 1) × (sum_by f (below j) ≡ r)
select f each zero r l = absurd (omega arith)
select f each (suc n) r l = elim (cases_lt r (sum_by f (below n))) [
  | inl low ↦ (let s = select f each n r low in let m : s.0 < suc n = omega (arith, s.1) in (s.0, m, s.2, s.3))
  | inr high ↦ (let last = last_term f n in elim (each n) [
    | inl z ↦ absurd (omega arith)
    | inr o ↦ (let m : n < suc n = omega arith in (n, m, o, omega arith))
  ])
]

-- the rank of a marked index among the marked ones, if both are counted from the end
pub from_either : (f : ℕ → ℕ) (e j : ℕ) (b : Bool) → j < e → f (from_end e b j) ≡ 1 → from_end (sum_by f (below e)) b (sum_by (λ a. f (from_end e b a)) (below j)) ≡ sum_by f (below (from_end e b j))
from_either f e j true l one = refl
from_either f e j false l one =
    let z : ℕ = e - 1 - j in
    let whole : suc (e - 1 - j) + j ≡ e = omega arith in
    let g : ℕ → ℕ = λ a. f (suc (e - 1 - j) + a) in
    let split : sum_by f (below (suc (e - 1 - j) + j)) ≡ sum_by f (below (suc (e - 1 - j))) + sum_by (λ a. f (suc (e - 1 - j) + a)) (below j) = below_sum f (suc (e - 1 - j)) j in
    let same : sum_by f (below (suc (e - 1 - j) + j)) ≡ sum_by f (below e) = ap (λ m. sum_by f (below m)) whole in
    let last : sum_by f (below (suc (e - 1 - j))) ≡ sum_by f (below (e - 1 - j)) + f (e - 1 - j) = last_term f (e - 1 - j) in
    let back : sum_by (λ a. f (e - 1 - a)) (below j) ≡ sum_by (λ a. f (suc (e - 1 - j) + a)) (below j) =
    sum_by_same (λ a. f (e - 1 - a)) (λ a. f (suc (e - 1 - j) + (j - 1 - a))) (below j) (λ a m. let la : a < j = below-among a j m in let q : e - 1 - a ≡ suc (e - 1 - j) + (j - 1 - a) = omega arith in ap f q)
    ∙ sum_back (λ a. f (suc (e - 1 - j) + a)) j in
    omega arith

-- if a vector is 0 where xs is, and is not 0 in the first nonzero column of xs, this is its own first nonzero column
pub first_same : (xs ys : List ℕ) → ((c : ℕ) → slice_index xs c ≡ 0 → slice_index ys c ≡ 0) → (os : List ℕ) (q : ℕ) → 0 < slice_index ys (first_nonzero xs os q) → first_nonzero ys os q ≡ first_nonzero xs os q
first_same xs ys inside [] q l = refl
first_same xs ys inside (o ∷ os) q l = elim (cases_lt 0 (slice_index xs o)) [
  | inl some ↦ (let e : first_nonzero xs (o ∷ os) q ≡ o = first_test xs o os q true (lt-ltb 0 (slice_index xs o) some) in
      let there : 0 < slice_index ys o = subst (λ c. 0 < slice_index ys c) e l in
      first_test ys o os q true (lt-ltb 0 (slice_index ys o) there) ∙ sym e)
  | inr none ↦ (let e : first_nonzero xs (o ∷ os) q ≡ first_nonzero xs os q = first_test xs o os q false (le-ltb 0 (slice_index xs o) none) in
      let z : slice_index ys o ≡ 0 = inside o (omega arith) in
      first_test ys o os q false (le-ltb 0 (slice_index ys o) (omega arith)) ∙ first_same xs ys inside os q (subst (λ c. 0 < slice_index ys c) e l) ∙ sym e)
]
