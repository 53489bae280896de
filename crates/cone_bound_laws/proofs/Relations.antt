-- If multiples of columns add up to 0 in each row, so do the same multiples of the minors with each of these columns at
-- the front.
use Rattle.std.proofs.Common.{◌≡◌, ℕ, ◌+◌, ◌*◌, List, [], ◌∷◌, ap, arith, sym, refl, ◌∙◌}
use Rattle.cone_definitions.specs.Rows.{Row}
use Rattle.cone_bound_laws.proofs.Forms.{Column, behind, cut, zero_cut}
use Rattle.cone_bound_laws.proofs.Minors.{minor, one}

-- the cut of a linear combination
cut_sum : (row : Row) (k : ℕ) (f f_down g g_down : List Column → ℕ) (xs : List Column) →
    cut row (λ ys. k * f ys + g ys) (λ ys. k * f_down ys + g_down ys) xs ≡ k * cut row f f_down xs + cut row g g_down xs
unfolding cut
cut_sum row k f f_down g g_down [] = omega arith
cut_sum row k f f_down g g_down (c ∷ rest) = omega (arith, cut_sum row k (behind c f_down) (behind c f) (behind c g_down) (behind c g) rest)

cut_none : (row : Row) (xs : List Column) → cut row (λ ys. 0) (λ ys. 0) xs ≡ 0
unfolding cut
cut_none row [] = refl
cut_none row (c ∷ rest) = omega (arith, cut_none row rest)

-- ---- columns with their multiples

unfoldable pub plus_sum : Row → List (ℕ × Column) → ℕ
plus_sum row [] = 0
plus_sum row (t ∷ ts) = t.0 * t.1.plus row + plus_sum row ts

unfoldable pub minus_sum : Row → List (ℕ × Column) → ℕ
minus_sum row [] = 0
minus_sum row (t ∷ ts) = t.0 * t.1.minus row + minus_sum row ts

-- the sum of the multiples of the form, with each of the columns at the front
unfoldable pub in_front : (List Column → ℕ) → List (ℕ × Column) → List Column → ℕ
in_front f [] xs = 0
in_front f (t ∷ ts) xs = t.0 * f (t.1 ∷ xs) + in_front f ts xs

-- their forms, each cut
each_cut : Row → (List Column → ℕ) → (List Column → ℕ) → List (ℕ × Column) → List Column → ℕ
each_cut row f f_down [] xs = 0
each_cut row f f_down (t ∷ ts) xs = t.0 * cut row (behind t.1 f) (behind t.1 f_down) xs + each_cut row f f_down ts xs

in_front_cut : (row : Row) (f f_down : List Column → ℕ) (ts : List (ℕ × Column)) (xs : List Column) → cut row (in_front f ts) (in_front f_down ts) xs ≡ each_cut row f f_down ts xs
unfolding in_front each_cut
in_front_cut row f f_down [] xs = cut_none row xs
in_front_cut row f f_down (t ∷ ts) xs = cut_sum row t.0 (behind t.1 f) (behind t.1 f_down) (in_front f ts) (in_front f_down ts) xs ∙ ap (λ n. t.0 * cut row (behind t.1 f) (behind t.1 f_down) xs + n) (in_front_cut row f f_down ts xs)

in_front_of_cut : (row : Row) (f f_down : List Column → ℕ) (ts : List (ℕ × Column)) (xs : List Column) →
    in_front (cut row f f_down) ts xs ≡ plus_sum row ts * f xs + minus_sum row ts * f_down xs + each_cut row f_down f ts xs
unfolding in_front each_cut plus_sum minus_sum cut
in_front_of_cut row f f_down [] xs = omega arith
in_front_of_cut row f f_down (t ∷ ts) xs = omega (arith, in_front_of_cut row f f_down ts xs)

unfoldable pub Related : List (ℕ × Column) → List Row → Type 0
Related ts [] = Unit {0}
Related ts (row ∷ rows) = (plus_sum row ts ≡ minus_sum row ts) × Related ts rows

none_in_front : (ts : List (ℕ × Column)) (xs : List Column) → in_front one ts xs ≡ in_front (λ ys. 0) ts xs
unfolding in_front one
none_in_front [] xs = refl
none_in_front (t ∷ ts) xs = omega (arith, none_in_front ts xs)

pub related_minors : (rows : List Row) (ts : List (ℕ × Column)) → Related ts rows → (xs : List Column) → in_front (minor rows).up ts xs ≡ in_front (minor rows).down ts xs
unfolding minor Related
related_minors [] ts h xs = none_in_front ts xs
related_minors (row ∷ rows) ts h xs =
    let z : cut row (in_front (minor rows).down ts) (in_front (minor rows).up ts) xs ≡ cut row (in_front (minor rows).up ts) (in_front (minor rows).down ts) xs =
    zero_cut row (in_front (minor rows).down ts) (in_front (minor rows).up ts) (λ ys. sym (related_minors rows ts h.1 ys)) xs in
    omega (
      arith,
      in_front_of_cut row (minor rows).up (minor rows).down ts xs,
      in_front_of_cut row (minor rows).down (minor rows).up ts xs,
      in_front_cut row (minor rows).up (minor rows).down ts xs,
      in_front_cut row (minor rows).down (minor rows).up ts xs,
      ap (λ n. n * (minor rows).up xs) h.0,
      ap (λ n. n * (minor rows).down xs) h.0,
    )
