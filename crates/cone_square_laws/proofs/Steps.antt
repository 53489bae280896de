-- The numbers of a step, if no entry of a ray exceeds b.
use Rattle.std.proofs.Common.{◌≡◌, ℕ, ◌+◌, ◌*◌, ◌/◌, ◌≤◌, List, [], ◌∷◌, ℤ, length, slice_index, sym, arith, ap, refl, ◌∙◌, sum_by, div-le_self, mul-le-mul_left, mul-le-mul_right, mul-le-mul}
use Rattle.std.proofs.lemmas.List.Sums.{sum_by-cons}
use Rattle.cone_definitions.specs.Vectors.{multiple}
use Rattle.cone_definitions.specs.Rows.{Row, plus_part, minus_part, value_at, magnitude_at, positive_coefficient, negative_coefficient}
use Rattle.cone_definitions.specs.Elimination.{Step, IsRay, IsWithin}
use Rattle.cone_definitions.specs.Elimination.IsNumber.{plus, minus, entry}
use Rattle.cone_definitions.proofs.Entries.{length-multiple, entry-multiple, entry-sum_of}
use Rattle.cone_bound_laws.specs.Caps.{magnitude, row_size}
use Rattle.cone_bound_laws.proofs.Light.{term_sum}

module _ (b : ℕ) where
  term_sum_most : (weigh : ℤ → ℕ) (row : Row) (x : List ℕ) → ((j : ℕ) → slice_index x j ≤ b) → term_sum weigh row x ≤ sum_by (λ t. weigh t.1) row * b
  term_sum_most weigh [] x h = omega arith
  term_sum_most weigh (term ∷ row) x h =
      let e : term_sum weigh (term ∷ row) x ≡ weigh term.1 * slice_index x term.0 + term_sum weigh row x = sum_by-cons (λ (t : ℕ × ℤ). weigh t.1 * slice_index x t.0) term row in
      let f : sum_by (λ (t : ℕ × ℤ). weigh t.1) (term ∷ row) * b ≡ (weigh term.1 + sum_by (λ (t : ℕ × ℤ). weigh t.1) row) * b = ap (λ n. n * b) (sum_by-cons (λ (t : ℕ × ℤ). weigh t.1) term row) in
      omega (arith, e, f, mul-le-mul_left (weigh term.1) (h term.0), term_sum_most weigh row x h)

  abbrev plus_size : Row → ℕ
  plus_size row = sum_by (λ t. positive_coefficient t.1) row

  abbrev minus_size : Row → ℕ
  minus_size row = sum_by (λ t. negative_coefficient t.1) row

  sizes : (row : Row) → plus_size row + minus_size row ≡ row_size row
  sizes [] = refl
  sizes (term ∷ row) = omega (
    arith,
    sum_by-cons (λ (t : ℕ × ℤ). positive_coefficient t.1) term row,
    sum_by-cons (λ (t : ℕ × ℤ). negative_coefficient t.1) term row,
    sum_by-cons (λ (t : ℕ × ℤ). magnitude t.1) term row,
    sizes row,
  )

  plus_most : (row : Row) (x : List ℕ) → ((j : ℕ) → slice_index x j ≤ b) → plus_part row x ≤ plus_size row * b
  plus_most row x h = term_sum_most positive_coefficient row x h

  minus_most : (row : Row) (x : List ℕ) → ((j : ℕ) → slice_index x j ≤ b) → minus_part row x ≤ minus_size row * b
  minus_most row x h = term_sum_most negative_coefficient row x h

  once_more : (n size : ℕ) → 1 ≤ b → n ≤ size → n * b ≤ size * (b * b)
  once_more n size some l = let p : n * b ≤ size * b = mul-le-mul_right b l in let q : (size * b) * 1 ≤ (size * b) * b = mul-le-mul_left (size * b) some in omega (arith, p, q)

  -- a and c, each at most a size times b, times entries
  combined_most : (a c d u w p m size : ℕ) → a ≤ p * b → c ≤ m * b → u ≤ b → w ≤ b → p + m ≤ size → (a / d) * w + (c / d) * u ≤ size * (b * b)
  combined_most a c d u w p m size ha hc hu hw l =
      let x : (a / d) * w ≤ (p * b) * b = mul-le-mul (le_through (a / d) a (p * b) (div-le_self a d) ha) hw in
      let y : (c / d) * u ≤ (m * b) * b = mul-le-mul (le_through (c / d) c (m * b) (div-le_self c d) hc) hu in
      let z : (p + m) * (b * b) ≤ size * (b * b) = mul-le-mul_right (b * b) l in omega (arith, x, y, z)
    where
      le_through : (i j k : ℕ) → i ≤ j → j ≤ k → i ≤ k
      le_through i j k e f = omega (arith, e, f)

  pub step_within : (limit size : ℕ) (step : Step) → 1 ≤ b → row_size step.row ≤ size → size * (b * b) ≤ limit → ((x : List ℕ) → IsRay step x → (j : ℕ) → slice_index x j ≤ b) → IsWithin limit step
  step_within limit size step some l most rays n (plus x r) = let e : plus_size step.row + minus_size step.row ≡ row_size step.row = sizes step.row in omega (arith, plus_most step.row x (rays x r), once_more (plus_size step.row) size some (omega (arith, e, l)), most)
  step_within limit size step some l most rays n (minus x r) = let e : plus_size step.row + minus_size step.row ≡ row_size step.row = sizes step.row in omega (arith, minus_most step.row x (rays x r), once_more (minus_size step.row) size some (omega (arith, e, l)), most)
  step_within limit size step some l most rays n (entry u w z column pair combination) =
      let a : ℕ = value_at step.row u in
      let c : ℕ = magnitude_at step.row w in
      let d : ℕ = combination.divisor in
      let eu : length u ≡ step.columns = pair.u_ray.extreme.solution.width in
      let ew : length w ≡ step.columns = pair.w_ray.extreme.solution.width in
      let e : slice_index z column ≡ (a / d) * slice_index w column + (c / d) * slice_index u column =
      ap (λ y. slice_index y column) combination.sum
      ∙ entry-sum_of (multiple (a / d) w) (multiple (c / d) u) (length-multiple (a / d) w ∙ ew ∙ sym (length-multiple (c / d) u ∙ eu)) column
      ∙ (let p : slice_index (multiple (a / d) w) column ≡ (a / d) * slice_index w column = entry-multiple (a / d) w column in
      let q : slice_index (multiple (c / d) u) column ≡ (c / d) * slice_index u column = entry-multiple (c / d) u column in omega (arith, p, q)) in
      let m : (a / d) * slice_index w column + (c / d) * slice_index u column ≤ size * (b * b) =
      combined_most a c d (slice_index u column) (slice_index w column) (plus_size step.row) (minus_size step.row) size
      (omega (arith, plus_most step.row u (rays u pair.u_ray))) (omega (arith, minus_most step.row w (rays w pair.w_ray)))
      (rays u pair.u_ray column) (rays w pair.w_ray column) (omega (arith, sizes step.row, l)) in
      omega (arith, e, m, most)
