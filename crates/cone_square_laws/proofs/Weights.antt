-- Caps of weights, squared, are caps of sums of squares.
use Rattle.std.proofs.Common.{◌≡◌, ℕ, zero, suc, ◌*◌, ◌≤◌, List, false, refl, ap, arith, ◌∙◌, mul-le-mul}
use Rattle.cone_definitions.specs.Rows.{Row}
use Rattle.cone_definitions.specs.Surfaces.{Clash}
use Rattle.cone_bound_laws.specs.Caps.{HasCaps, caps_product, column_weight}
use Rattle.cone_square_laws.specs.Squares.{HasSquareCaps}
use Rattle.cone_square_laws.proofs.Columns.{squares_less}

product_squared : (cap : ℕ → ℕ) (n : ℕ) → caps_product (λ g. cap g * cap g) n ≡ caps_product cap n * caps_product cap n
unfolding caps_product
product_squared cap zero = refl
product_squared cap (suc n) = ap (λ k. (cap n * cap n) * k) (product_squared cap n) ∙ exchanged (cap n) (caps_product cap n)
  where
    exchanged : (a b : ℕ) → (a * a) * (b * b) ≡ (a * b) * (a * b)
    exchanged a b = omega arith

square_up : (n m : ℕ) → n ≤ m → n * n ≤ m * m
square_up n m l = mul-le-mul l l

pub weights_suffice : (limit columns : ℕ) (rows : List Row) (pairs : List Clash) (group cap : ℕ → ℕ) (groups size : ℕ) →
    HasCaps columns rows pairs (λ _. false) group cap groups size → size * (caps_product cap groups * caps_product cap groups) ≤ limit →
    HasSquareCaps columns rows pairs group (λ g. cap g * cap g) groups size × (size * caps_product (λ g. cap g * cap g) groups ≤ limit)
weights_suffice limit columns rows pairs group cap groups size h most = (
  record {
    some_cap = λ g l. square_up 1 (cap g) (h.some_cap g l);
    light = λ j l. omega (arith, squares_less rows j, square_up (column_weight rows j) (cap (group j)) (h.light j l refl));
    grouped = λ j l. h.grouped j l refl;
    clash = λ i j less l same. h.clash i j less l refl refl same;
    small = h.small;
  },
  omega (arith, most, ap (λ k. size * k) (product_squared cap groups)),
)
