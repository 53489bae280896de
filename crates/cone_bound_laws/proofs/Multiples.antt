-- A signed solution inside the support of a primitive extreme ray is a multiple of it, so none of the ray's entries is
-- greater in magnitude.
use Rattle.std.proofs.Common.{◌≡◌, ◌≢◌, ℕ, ◌+◌, ◌*◌, ◌≤◌, inl, inr, List, length, slice_index, All, ap, sym, arith, ◌∙◌, mul-le-mul_left}
use Rattle.std.proofs.lemmas.Bool.{cases_order}
use Rattle.cone_definitions.specs.Vectors.{IsInside}
use Rattle.cone_definitions.specs.Rows.{Row, IsSolution, IsPrimitiveExtreme}
use Rattle.cone_definitions.proofs.Entries.{zero_or_nonzero}
use Rattle.cone_definitions.proofs.OneRay.{proportional, one_ray, times_one}
use Rattle.cone_laws.proofs.Mixed.{IsBalanced}
use Rattle.cone_laws.proofs.Shifted.{IsShifted, shifted_solution}
use Rattle.cone_bound_laws.proofs.Minors.{IsWithin}

module _ (columns : ℕ) (rows : List Row) (x : List ℕ) (hx : IsPrimitiveExtreme columns rows x) where
  -- a solution inside x is a multiple of it
  multiple_inside : (y : List ℕ) → IsSolution columns rows y → IsInside y x → (c : ℕ) × ((j : ℕ) → slice_index y j ≡ c * slice_index x j)
  multiple_inside y sy inside = elim (zero_or_nonzero y) [
    | inl z ↦ (0, λ j. omega (arith, z j))
    | inr some ↦ let r = one_ray columns x y hx.extreme.solution.width sy.width hx.extreme.nonzero (proportional columns rows x y hx.extreme sy some inside) in
        (r.b, λ j. let e : slice_index x j ≡ slice_index r.s j = times_one x r.a r.s hx.primitive r.x_is j in r.y_is j ∙ ap (λ n. r.b * n) (sym e))
  ]

  module _ (p m : List ℕ) (ep : length p ≡ columns) (em : length m ≡ columns) (outside : (j : ℕ) → slice_index x j ≡ 0 → slice_index p j ≡ slice_index m j)
      (balanced : All (λ row. IsBalanced row p m) rows) where
    shifted : IsShifted columns rows x p m
    shifted = shifted_solution columns x p m hx.extreme.solution.width ep em outside rows hx.extreme.solution balanced

    inside_x : (s : IsShifted columns rows x p m) → IsInside s.x x
    inside_x s j z = let e : s.k * slice_index x j ≡ 0 = rw z (omega arith) in omega (arith, s.sum j, outside j z)

    -- k times x and p are c times x and m
    factors : (k : ℕ) × (c : ℕ) × ((j : ℕ) → k * slice_index x j + slice_index p j ≡ c * slice_index x j + slice_index m j)
    factors = let s = shifted in let c = multiple_inside s.x s.solution (inside_x s) in (s.k, c.0, λ j. omega (arith, s.sum j, c.1 j))

    pub entries_at_most : (b i : ℕ) → slice_index p i ≢ slice_index m i → ((j : ℕ) → IsWithin b (slice_index p j) (slice_index m j)) → (j : ℕ) → slice_index x j ≤ b
    entries_at_most b i ne within j = let f = factors in let w = within j in elim (cases_order f.0 f.1) [
      | inl same ↦ absurd (ne (let g : f.0 * slice_index x i ≡ f.1 * slice_index x i = ap (λ n. n * slice_index x i) same in omega (arith, f.2 i)))
      | inr (inl less) ↦ let g : slice_index x j * (f.0 + 1) ≤ slice_index x j * f.1 = mul-le-mul_left (slice_index x j) (omega arith) in omega (arith, f.2 j, w.above)
      | inr (inr more) ↦ let g : slice_index x j * (f.1 + 1) ≤ slice_index x j * f.0 = mul-le-mul_left (slice_index x j) (omega arith) in omega (arith, f.2 j, w.below)
    ]
