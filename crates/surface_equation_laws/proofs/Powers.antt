-- The products of the caps, and the bounds as powers.
use Rattle.std.proofs.Common.{◌≡◌, ℕ, zero, suc, ◌+◌, ◌*◌, ◌-◌, ◌<◌, ◌≤◌, ◌↔◌, refl, sym, ap, ◌∙◌, arith, inl, inr, Bool, true, false}
use Rattle.std.specs.Prelude.{◌^◌, ◌&&◌, ◌==◌, if◌then◌else◌}
use Rattle.std.proofs.lemmas.Bool.{eq-eqb, ne_eqb, cases_lt}
use Rattle.std.proofs.lemmas.Nat.{mul-pow}
use Rattle.std.proofs.Math.Nat.{pow-succ', pow-le-pow_right, mul-le-mul}
use Rattle.surface_definitions.specs.Coordinates.{has_triangles, has_octagons}
use Rattle.surface_definitions.specs.declared.Coords.{Coords}
use Rattle.surface_definitions.specs.declared.Coords.TheVariants.{Standard, Quad, Octagon}
use Rattle.cone_bound_laws.specs.Caps.{caps_product}
use Rattle.surface_equation_laws.specs.Caps.{cap_of, groups_of, size_of}
use Rattle.surface_equation_laws.specs.OneForm.{cap_in}
use Rattle.surface_equation_laws.specs.Bounds.{entry_bound, number_bound}
use Rattle.surface_equation_laws.specs.BoundedTables.{most_tetrahedra}

fours : (cap : ℕ → ℕ) (k : ℕ) → ((g : ℕ) → g < k → cap g ≡ 4) → caps_product cap k ≡ 4 ^ k
unfolding caps_product
fours cap zero h = refl
fours cap (suc k) h = (λ i. h k (omega arith) i * fours cap k (λ g l. h g (omega arith)) i) ∙ sym (pow-succ' 4 k)

eight_more : (n : ℕ) → caps_product (cap_of Octagon n) (n + 1) ≡ 8 * 4 ^ n
unfolding caps_product
eight_more n =
    let e : n + 1 ≡ suc n = omega arith in
    let top : cap_of Octagon n n ≡ 8 = ap (λ b. if b then 8 else 4) (eq-eqb n n refl) in
    let rest : caps_product (cap_of Octagon n) n ≡ 4 ^ n = fours (cap_of Octagon n) n (λ g l. ap (λ b. if b then 8 else 4) (ne_eqb g n (λ s. omega arith))) in
    ap (caps_product (cap_of Octagon n)) e ∙ (λ i. top i * rest i)

pub products : (coords : Coords) (n : ℕ) → caps_product (cap_of coords n) (groups_of coords n) ≡ entry_bound coords n
products coords n = go (has_octagons coords)
  where
    go : (o : Bool) → caps_product (λ g. if o && (g == n) then 8 else 4) (if o then n + 1 else n) ≡ (if o then 8 * 4 ^ n else 4 ^ n)
    go true = eight_more n
    go false = fours (λ g. 4) n (λ g l. refl)

-- the same by the caps of the one form
four_below : (n g : ℕ) → g < n → cap_in n g ≡ 4
four_below n g l = ap (λ b. if b then 8 else 4) (ne_eqb g n (λ s. omega arith))

pub one_products : (coords : Coords) (n : ℕ) → caps_product (cap_in n) (groups_of coords n) ≡ entry_bound coords n
one_products coords n = go (has_octagons coords)
  where
    go : (o : Bool) → caps_product (cap_in n) (if o then n + 1 else n) ≡ (if o then 8 * 4 ^ n else 4 ^ n)
    go true = eight_more n
    go false = fours (cap_in n) n (four_below n)

square : (n : ℕ) → 4 ^ n * 4 ^ n ≡ 16 ^ n
square n = sym (mul-pow 4 4 n)

-- a square with the factor of octagons
eights : (p s : ℕ) → p * p ≡ s → (8 * p) * (8 * p) ≡ 64 * s
eights p s e = omega (arith, ap (λ k. 64 * k) e)

pub squares : (coords : Coords) (n : ℕ) → size_of coords n * (entry_bound coords n * entry_bound coords n) ≡ number_bound coords n
squares coords n = ap (λ s. size_of coords n * s) (go (has_octagons coords))
  where
    go : (o : Bool) → (if o then 8 * 4 ^ n else 4 ^ n) * (if o then 8 * 4 ^ n else 4 ^ n) ≡ (if o then 64 * 16 ^ n else 16 ^ n)
    go true = eights (4 ^ n) (16 ^ n) (square n)
    go false = square n

-- ---- in numbers

sixteens : (n m : ℕ) → n ≤ m → 16 ^ n ≤ 16 ^ m
sixteens n m l = pow-le-pow_right (omega arith) l

rises : (coords : Coords) (n m : ℕ) → n ≤ m → number_bound coords n ≤ number_bound coords m
rises coords n m l = mul-le-mul (sizes (has_triangles coords) (if has_octagons coords then 8 else 4)) (powers (has_octagons coords))
  where
    sizes : (t : Bool) (k : ℕ) → (if t then k else 12 * n) ≤ (if t then k else 12 * m)
    sizes true k = omega arith
    sizes false k = omega arith

    powers : (o : Bool) → (if o then 64 * 16 ^ n else 16 ^ n) ≤ (if o then 64 * 16 ^ m else 16 ^ m)
    powers true = let p = sixteens n m l in omega arith
    powers false = sixteens n m l

holds : (coords : Coords) → number_bound coords (most_tetrahedra coords) ≤ 2 ^ 127 - 1
holds Standard = omega arith
holds Quad = omega arith
holds Octagon = omega arith

ends : (coords : Coords) → 2 ^ 127 ≤ number_bound coords (most_tetrahedra coords + 1)
ends Standard = omega arith
ends Quad = omega arith
ends Octagon = omega arith

pub most : (coords : Coords) (n : ℕ) → (number_bound coords n ≤ 2 ^ 127 - 1) ↔ (n ≤ most_tetrahedra coords)
most coords n = (forth, back)
  where
    back : n ≤ most_tetrahedra coords → number_bound coords n ≤ 2 ^ 127 - 1
    back l = let r = rises coords n (most_tetrahedra coords) l in let h = holds coords in omega arith

    forth : number_bound coords n ≤ 2 ^ 127 - 1 → n ≤ most_tetrahedra coords
    forth b = elim (cases_lt (most_tetrahedra coords) n) [
      | inl more ↦ (let r : number_bound coords (most_tetrahedra coords + 1) ≤ number_bound coords n = rises coords (most_tetrahedra coords + 1) n (omega arith) in
          let f = ends coords in absurd (omega arith))
      | inr limited ↦ limited
    ]
