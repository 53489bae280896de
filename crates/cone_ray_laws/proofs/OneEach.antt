-- The vector 1 1 1 and the row x + y - 2 z.
use Rattle.std.proofs.Common.{◌≡◌, ℕ, zero, suc, ◌+◌, ◌*◌, ◌⊎◌, inl, inr, [], ◌∷◌, slice_index, ap, refl, arith}
use Rattle.std.proofs.lemmas.Bool.{cases_eq}
use Rattle.std.proofs.lemmas.List.Elements.{All-nil, All-cons, All-head}
use Rattle.cone_definitions.specs.Rows.{IsSolution, IsZeroAt}
use Rattle.cone_definitions.specs.WorkedRow.{worked_row, one_each, y_surface}
use Rattle.cone_definitions.proofs.Worked.{one_each_solution}
use Rattle.cone_ray_laws.specs.Rays.{IsOnRay, SumsOfOneAreOnRay, OneIsNotExtreme}

two_solution : IsSolution 3 (worked_row ∷ []) y_surface
two_solution = record { width = refl; zero = All-cons (λ row. IsZeroAt row y_surface) worked_row [] refl (All-nil _) }

inside_one : (column : ℕ) → slice_index one_each column ≡ 0 → slice_index y_surface column ≡ 0
inside_one zero e = absurd (omega arith)
inside_one (suc zero) e = absurd (omega arith)
inside_one (suc (suc zero)) e = absurd (omega arith)
inside_one (suc (suc (suc k))) e = refl

pub one_not_extreme : OneIsNotExtreme
one_not_extreme = (
  one_each_solution,
  (0, λ e. absurd (omega arith)),
  λ h. let e : 1 ≡ 0 = h.least y_surface two_solution (1, λ z. absurd (omega arith)) inside_one 0 refl in absurd (omega arith),
)

-- a solution whose entries are all 0 or all 1
all_same : (a b c d e f : ℕ) → 1 ≡ a + d → 1 ≡ b + e → 1 ≡ c + f → a + b ≡ 2 * c → ((a ≡ 0) × (b ≡ 0) × (c ≡ 0)) ⊎ ((a ≡ 1) × (b ≡ 1) × (c ≡ 1))
all_same a b c d e f p q r s = elim (cases_eq c 0) [
  | inl z ↦ inl (omega arith, omega arith, z)
  | inr n ↦ inr (omega arith, omega arith, omega arith)
]

on_one : (a b c : ℕ) → ((a ≡ 0) × (b ≡ 0) × (c ≡ 0)) ⊎ ((a ≡ 1) × (b ≡ 1) × (c ≡ 1)) → IsOnRay one_each (a ∷ b ∷ c ∷ [])
on_one a b c (inl (p, q, r)) = record { y_times = 1; x_times = 0; some_y = omega arith; same = rw p (rw q (rw r refl)) }
on_one a b c (inr (p, q, r)) = record { y_times = 1; x_times = 1; some_y = omega arith; same = rw p (rw q (rw r refl)) }

zero_row : (a b c : ℕ) → IsSolution 3 (worked_row ∷ []) (a ∷ b ∷ c ∷ []) → a + b ≡ 2 * c
zero_row a b c s = let e : IsZeroAt worked_row (a ∷ b ∷ c ∷ []) = All-head (λ row. IsZeroAt row (a ∷ b ∷ c ∷ [])) worked_row [] s.zero in omega arith

pub sums_of_one : SumsOfOneAreOnRay
sums_of_one [] z sy sz e = absurd (omega (arith, sy.width))
sums_of_one (a ∷ []) z sy sz e = absurd (omega (arith, sy.width))
sums_of_one (a ∷ b ∷ []) z sy sz e = absurd (omega (arith, sy.width))
sums_of_one (a ∷ b ∷ c ∷ g ∷ y) z sy sz e = absurd (omega (arith, sy.width))
sums_of_one (a ∷ b ∷ c ∷ []) [] sy sz e = absurd (omega (arith, sz.width))
sums_of_one (a ∷ b ∷ c ∷ []) (d ∷ []) sy sz e = absurd (omega (arith, sz.width))
sums_of_one (a ∷ b ∷ c ∷ []) (d ∷ f ∷ []) sy sz e = absurd (omega (arith, sz.width))
sums_of_one (a ∷ b ∷ c ∷ []) (d ∷ f ∷ g ∷ h ∷ z) sy sz e = absurd (omega (arith, sz.width))
sums_of_one (a ∷ b ∷ c ∷ []) (d ∷ f ∷ g ∷ []) sy sz e =
    let p : 1 ≡ a + d = ap (λ v. slice_index v 0) e in
    let q : 1 ≡ b + f = ap (λ v. slice_index v 1) e in
    let r : 1 ≡ c + g = ap (λ v. slice_index v 2) e in
    (on_one a b c (all_same a b c d f g p q r (zero_row a b c sy)), on_one d f g (all_same d f g a b c (omega arith) (omega arith) (omega arith) (zero_row d f g sz)))
