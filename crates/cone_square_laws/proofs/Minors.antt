-- The coefficient of the product of columns for all rows is their minor, so the square of the minor is at most the
-- product of the columns' sums of squares.
use Rattle.std.proofs.Common.{◌≡◌, ℕ, zero, suc, ◌+◌, ◌-◌, ◌*◌, ◌≤◌, ◌<◌, List, [], ◌∷◌, map, inl, inr, ap, arith, sym, refl, subst, ◌∙◌, mul-le-mul}
use Rattle.std.proofs.lemmas.Bool.{cases_lt}
use Rattle.cone_definitions.specs.Rows.{Row}
use Rattle.cone_bound_laws.proofs.Forms.{Column, behind, cut}
use Rattle.cone_bound_laws.proofs.Minors.{minor, one, IsWithin}
use Rattle.cone_square_laws.proofs.Algebra.{Form, leaf, Vector, negated, wedge, wedge-negated, negated-negated}
use Rattle.cone_square_laws.proofs.Products.{unit, wedges, top, squares_product, hadamard}
use Rattle.cone_square_laws.proofs.Linear.{IsLinear, linear_next, linear_mixed, linear_top, linear_turned, with_row, row_more}

-- a column's entries in the rows
abbrev pub vector : Column → Vector Row
vector c = record { plus = c.plus; minus = c.minus }

abbrev pub vectors : List Column → List (Vector Row)
vectors cs = map vector cs

module _ (row : Row) (rows : List Row) where
  -- a linear function of the choices with the row is its cut by the row
  linear_cut : (n : Form rows → ℕ) → IsLinear rows n → (f g : List Column → ℕ) → ((cs : List Column) → n (wedges Row rows (vectors cs)) ≡ f cs) →
      ((cs : List Column) → n (negated Row (wedges Row rows (vectors cs))) ≡ g cs) → (cs : List Column) → n (with_row Row row rows (vectors cs)) ≡ cut row f g cs
  unfolding with_row cut wedges
  linear_cut n lin f g ef eg [] = lin.zero
  linear_cut n lin f g ef eg (c ∷ cs) =
      let w : Form rows = wedges Row rows (vectors cs) in
      let rest : n (negated Row (wedge Row (vector c) rows (with_row Row row rows (vectors cs)))) ≡ cut row (behind c g) (behind c f) cs =
      linear_cut (λ x. n (negated Row (wedge Row (vector c) rows x))) (linear_next Row (vector c) rows n lin) (behind c g) (behind c f) (λ ds. eg (c ∷ ds))
      (λ ds. ap (λ x. n (negated Row x)) (wedge-negated Row (vector c) rows (wedges Row rows (vectors ds))) ∙ ap n (negated-negated Row (wedges Row rows (vectors (c ∷ ds)))) ∙ ef (c ∷ ds)) cs in
      omega (
        arith,
        linear_mixed Row rows n lin (c.plus row) (c.minus row) w (negated Row (wedge Row (vector c) rows (with_row Row row rows (vectors cs)))),
        ap (λ k. c.plus row * k) (ef cs),
        ap (λ k. c.minus row * k) (eg cs),
        rest,
      )

no_rows : (c : Vector Row) (x : Form []) → wedge Row c [] x ≡ leaf 0 0
unfolding wedge
no_rows c (leaf p m) = refl

-- the coefficients for all rows
pub record HasMinors (rows : List Row) : Type 0 where
  pub up : (cs : List Column) → top Row (wedges Row rows (vectors cs)) ≡ (minor rows).up cs
  pub down : (cs : List Column) → top Row (negated Row (wedges Row rows (vectors cs))) ≡ (minor rows).down cs

none_up : (cs : List Column) → top Row (wedges Row [] (vectors cs)) ≡ one cs
unfolding one top wedges unit
none_up [] = refl
none_up (c ∷ cs) = ap (top Row) (no_rows (vector c) (wedges Row [] (vectors cs)))

none_down : (cs : List Column) → top Row (negated Row (wedges Row [] (vectors cs))) ≡ 0
unfolding top wedges unit negated
none_down [] = refl
none_down (c ∷ cs) = ap (λ x. top Row (negated Row x)) (no_rows (vector c) (wedges Row [] (vectors cs)))

pub has_minors : (rows : List Row) → HasMinors rows
unfolding minor top negated
has_minors [] = record { up = none_up; down = none_down }
has_minors (row ∷ rows) = let h = has_minors rows in record {
  up = λ cs. first cs ∙ linear_cut row rows (top Row) (linear_top Row rows) (minor rows).up (minor rows).down h.up h.down cs;
  down = λ cs. second cs ∙ linear_cut row rows (λ x. top Row (negated Row x)) (linear_turned Row rows (top Row) (linear_top Row rows)) (minor rows).down (minor rows).up h.down
      (λ ds. ap (top Row) (negated-negated Row (wedges Row rows (vectors ds))) ∙ h.up ds) cs;
}
  where
    first : (cs : List Column) → top Row (wedges Row (row ∷ rows) (vectors cs)) ≡ top Row (with_row Row row rows (vectors cs))
    first cs = ap (top Row) (row_more Row row rows (vectors cs))

    second : (cs : List Column) → top Row (negated Row (wedges Row (row ∷ rows) (vectors cs))) ≡ top Row (negated Row (with_row Row row rows (vectors cs)))
    second cs = ap (λ x. top Row (negated Row x)) (row_more Row row rows (vectors cs))

-- if s is less than the square of b + 1, a difference whose square is at most s is at most b
pub root_within : (b s x y : ℕ) → s < (b + 1) * (b + 1) → x * x + y * y ≤ 2 * (x * y) + s → IsWithin b x y
root_within b s x y less h = record { above = one_side b s x y less h; below = one_side b s y x less (omega arith) }
  where
    separate : (b s d y : ℕ) → s < (b + 1) * (b + 1) → b + 1 ≤ d → (y + d) * (y + d) + y * y ≤ 2 * ((y + d) * y) + s → ⊥
    separate b s d y less l h = omega (arith, h, mul-le-mul l l)

    one_side : (b s x y : ℕ) → s < (b + 1) * (b + 1) → x * x + y * y ≤ 2 * (x * y) + s → x ≤ y + b
    one_side b s x y less h = elim (cases_lt (y + b) x) [
      | inr l ↦ l
      | inl l ↦ let e : y + (x - y) ≡ x = omega arith in absurd (separate b s (x - y) y less (omega arith) (subst (λ n. n * n + y * y ≤ 2 * (n * y) + s) (sym e) h))
    ]

pub minors_within : (rows : List Row) (cs : List Column) (b : ℕ) → squares_product Row rows (vectors cs) < (b + 1) * (b + 1) → IsWithin b ((minor rows).up cs) ((minor rows).down cs)
minors_within rows cs b less = let h = has_minors rows in
    root_within b (squares_product Row rows (vectors cs)) ((minor rows).up cs) ((minor rows).down cs) less
    (let e = h.up cs in let d = h.down cs in rw (sym e, sym d) (hadamard Row rows (vectors cs)))

-- the greatest number whose square is at most s
pub record Root (s : ℕ) : Type 0 where
  pub root : ℕ
  pub within : root * root ≤ s
  pub exceeded : s < (root + 1) * (root + 1)

pub root_of : (s : ℕ) → Root s
root_of zero = record { root = 0; within = omega arith; exceeded = omega arith }
root_of (suc s) = let r = root_of s in elim (cases_lt (suc s) ((r.root + 1) * (r.root + 1))) [
  | inl l ↦ record { root = r.root; within = omega (arith, r.within); exceeded = l }
  | inr l ↦ record { root = r.root + 1; within = l; exceeded = omega (arith, r.exceeded) }
]
