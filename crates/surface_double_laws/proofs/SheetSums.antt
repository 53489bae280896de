-- Sums over the m sheets of a multiple of a surface.
use Rattle.std.proofs.Common.{◌≡◌, ◌≢◌, ℕ, zero, suc, ◌*◌, ◌<◌, Bool, true, false, cond, refl, ap, ◌∙◌, arith}
use Rattle.std.specs.Prelude.{◌==◌, sum_by}
use Rattle.std.proofs.lemmas.Bool.{eq-eqb, ne_eqb}
use Rattle.table_definitions.specs.Lists.{below}
use Rattle.surface_laws.proofs.ArcPieces.{from_end}
use Rattle.surface_laws.proofs.Counting.{sum_back, last_term, one_term}

pub sum_from_end : (f : ℕ → ℕ) (m : ℕ) (b : Bool) → sum_by (λ k. f (from_end m b k)) (below m) ≡ sum_by f (below m)
sum_from_end f m true = refl
sum_from_end f m false = sum_back f m

pub constant_sum : (k n : ℕ) → sum_by (λ (t : ℕ). k) (below n) ≡ k * n
constant_sum k zero = omega arith
constant_sum k (suc n) = let a = last_term (λ (t : ℕ). k) n in let b = constant_sum k n in omega (arith, a, b)

-- 1 at one number, and else 0
abbrev pub only : ℕ → ℕ → ℕ
only r k = cond (k == r) 1 0

pub only_there : (r : ℕ) → only r r ≡ 1
only_there r = ap (λ b. cond b 1 0) (eq-eqb r r refl)

pub only_off : (r k : ℕ) → k ≢ r → only r k ≡ 0
only_off r k ne = ap (λ b. cond b 1 0) (ne_eqb k r ne)

pub only_sum : (r m : ℕ) → r < m → sum_by (only r) (below m) ≡ 1
only_sum r m l = one_term (only r) r m (λ k ne. only_off r k ne) l ∙ only_there r
