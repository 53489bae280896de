-- The certificate of columns in groups of three, and the product that it has.
use Rattle.std.proofs.Common.{◌≡◌, ℕ, ◌+◌, ◌*◌, ◌/◌, ◌<◌, ◌≤◌, inl, inr, List, length, slice_index, max, All, refl, ap, subst, arith}
use Rattle.std.proofs.lemmas.Bool.{cases_eq}
use Rattle.cone_definitions.specs.Systems.{System}
use Rattle.cone_bound_laws.specs.Caps.{row_size, caps_product}
use Rattle.cone_square_laws.specs.Squares.{sum_of_squares}
use Rattle.number_bounds.specs.Squares.{AreSquares}
use Rattle.number_bounds.specs.Triples.{triple_cap, triples_product, AreTriplesBounded}
use Rattle.number_bounds.proofs.ColumnCaps.{product_more}
use Rattle.number_bounds.proofs.Past.{caps_up, ones, no_square}

some_cap : (squares : List ℕ) (g : ℕ) → 1 ≤ triple_cap squares g
some_cap squares g = omega arith

-- a column is the first, the second or the third of its group
light : (squares : List ℕ) (j : ℕ) → slice_index squares j ≤ triple_cap squares (j / 3)
light squares j = elim (cases_eq j (3 * (j / 3))) [
  | inl e ↦ let f : slice_index squares j ≡ slice_index squares (3 * (j / 3)) = ap (λ k. slice_index squares k) e in omega (arith, f)
  | inr first ↦ elim (cases_eq j (3 * (j / 3) + 1)) [
    | inl e ↦ let f : slice_index squares j ≡ slice_index squares (3 * (j / 3) + 1) = ap (λ k. slice_index squares k) e in omega (arith, f)
    | inr second ↦ let e : j ≡ 3 * (j / 3) + 2 = omega (arith, first, second) in
        let f : slice_index squares j ≡ slice_index squares (3 * (j / 3) + 2) = ap (λ k. slice_index squares k) e in omega (arith, f)
  ]
]

pub bounded : (system : System) (limit : ℕ) (squares : List ℕ) (size product : ℕ) → 3 * (system.columns / 3) ≡ system.columns → AreSquares system squares →
    All (λ row. row_size row ≤ size) system.rows → product ≡ caps_product (triple_cap squares) (length squares / 3) → size * product ≤ limit → AreTriplesBounded system limit
bounded system limit squares size product whole summed small is most = record {
  squares = squares;
  size = size;
  caps = λ pairs clash. record {
    some_cap = λ g l. some_cap squares g;
    light = λ j l. subst (λ w. w ≤ triple_cap squares (j / 3)) (summed.each j) (light squares j);
    grouped = λ j l. omega (arith, whole, l);
    clash = clash;
    small = small;
  };
  most = subst (λ p. size * p ≤ limit) (subst (λ n. product ≡ caps_product (triple_cap squares) (n / 3)) summed.count is) most;
}

-- if the product of the groups so far and the next one reaches the bound, that of all groups does
pub product_past : (squares : List ℕ) (i old factor most : ℕ) → i < length squares / 3 → old ≡ caps_product (triple_cap squares) i → factor ≡ triple_cap squares i → most ≤ old * factor →
    most ≤ caps_product (triple_cap squares) (length squares / 3)
product_past squares i old factor most l so_far one exceeded =
    let here = product_more (triple_cap squares) i old (old * factor) factor so_far one refl in
    let up = caps_up (triple_cap squares) (some_cap squares) (i + 1) (length squares / 3) (omega arith) in
    omega (arith, here, up, exceeded)

pub product_is : (system : System) (squares : List ℕ) → AreSquares system squares → caps_product (triple_cap squares) (length squares / 3) ≡ triples_product system
product_is system squares summed =
    λ i. caps_product (λ g. max (max (max (summed.each (3 * g) i) (summed.each (3 * g + 1) i)) (summed.each (3 * g + 2) i)) 1) (summed.count i / 3)

pub no_product : (system : System) → All (λ row. row_size row ≤ 0) system.rows → triples_product system ≡ 1
no_product system none = ones (λ g. max (max (max (sum_of_squares system.rows (3 * g)) (sum_of_squares system.rows (3 * g + 1))) (sum_of_squares system.rows (3 * g + 2))) 1) (system.columns / 3)
    (λ g. omega (arith, no_square system.rows (3 * g) none, no_square system.rows (3 * g + 1) none, no_square system.rows (3 * g + 2) none))
