-- The minors of rows: cuts by one row after another. With alternating signs, they are determinants.
use Rattle.std.proofs.Common.{◌≡◌, ℕ, ◌+◌, ◌*◌, ◌≤◌, List, [], ◌∷◌, ◌++◌, ap, arith}
use Rattle.cone_definitions.specs.Rows.{Row}
use Rattle.cone_bound_laws.proofs.Forms.{Column, behind, both, cut, mixed_cut, zero_cut, cuts_exchanged, cut_twice}

-- two functions on lists of columns, which represent their difference
pub record Form : Type 0 where
  pub up : List Column → ℕ
  pub down : List Column → ℕ

-- 1 for no columns, and 0 for others
unfoldable pub one : List Column → ℕ
one [] = 1
one (c ∷ rest) = 0

abbrev pub none : List Column → ℕ
none = λ xs. 0

unfoldable pub minor : List Row → Form
minor [] = record { up = one; down = none }
minor (row ∷ rows) = record { up = cut row (minor rows).up (minor rows).down; down = cut row (minor rows).down (minor rows).up }

-- ---- a row that occurs twice

pub repeated_row : (before : List Row) (row : Row) (after : List Row) (xs : List Column) →
    (minor (row ∷ before ++ row ∷ after)).up xs ≡ (minor (row ∷ before ++ row ∷ after)).down xs
unfolding minor
repeated_row [] row after xs = cut_twice row (minor after).up (minor after).down xs
repeated_row (other ∷ before) row after xs =
    omega (
      arith,
      cuts_exchanged row other (minor (before ++ row ∷ after)).up (minor (before ++ row ∷ after)).down xs,
      zero_cut other (minor (row ∷ before ++ row ∷ after)).up (minor (row ∷ before ++ row ∷ after)).down (repeated_row before row after) xs,
    )

-- ---- two columns exchanged

-- the sign changes if two neighbours are exchanged
abbrev pub Swaps : (List Column → ℕ) → (List Column → ℕ) → Type 0
Swaps f f_down = (before : List Column) (c d : Column) (after : List Column) →
    f (before ++ c ∷ d ∷ after) + f (before ++ d ∷ c ∷ after) ≡ f_down (before ++ c ∷ d ∷ after) + f_down (before ++ d ∷ c ∷ after)

pub Swaps-behind : (f f_down : List Column → ℕ) (c : Column) → Swaps f f_down → Swaps (behind c f) (behind c f_down)
Swaps-behind f f_down c h before d e after = h (c ∷ before) d e after

-- if two forms add up to 0, so do their cuts
opposite_cuts : (row : Row) (f f_down g g_down : List Column → ℕ) → ((xs : List Column) → f xs + g xs ≡ f_down xs + g_down xs) →
    (xs : List Column) → cut row f f_down xs + cut row g g_down xs ≡ cut row f_down f xs + cut row g_down g xs
opposite_cuts row f f_down g g_down e xs = omega (
  arith,
  mixed_cut row 0 1 g g_down none none f f_down (λ ys. let h : f ys + g ys ≡ f_down ys + g_down ys = e ys in omega arith) xs,
)

cut_swaps : (before : List Column) (row : Row) (f f_down : List Column → ℕ) → Swaps f f_down → (c d : Column) (after : List Column) →
    cut row f f_down (before ++ c ∷ d ∷ after) + cut row f f_down (before ++ d ∷ c ∷ after)
    ≡ cut row f_down f (before ++ c ∷ d ∷ after) + cut row f_down f (before ++ d ∷ c ∷ after)
unfolding cut
cut_swaps [] row f f_down h c d after = omega (
  arith,
  opposite_cuts row (behind d (behind c f)) (behind d (behind c f_down)) (behind c (behind d f)) (behind c (behind d f_down)) (λ xs. h [] c d xs) after,
)
cut_swaps (a ∷ before) row f f_down h c d after = omega (
  arith,
  ap (λ n. a.plus row * n) (h before c d after),
  ap (λ n. a.minus row * n) (h before c d after),
  cut_swaps before row (behind a f) (behind a f_down) (Swaps-behind f f_down a h) c d after,
)

pub minor_swaps : (rows : List Row) → Swaps (minor rows).up (minor rows).down
unfolding minor one
minor_swaps [] [] c d after = omega arith
minor_swaps [] (a ∷ before) c d after = omega arith
minor_swaps (row ∷ rows) before c d after = cut_swaps before row (minor rows).up (minor rows).down (minor_swaps rows) c d after

-- ---- a column that occurs twice

pub repeated_column : (between : List Column) (f f_down : List Column → ℕ) → Swaps f f_down → (c : Column) (after : List Column) →
    f (c ∷ between ++ c ∷ after) ≡ f_down (c ∷ between ++ c ∷ after)
repeated_column [] f f_down h c after = let e : f (c ∷ c ∷ after) + f (c ∷ c ∷ after) ≡ f_down (c ∷ c ∷ after) + f_down (c ∷ c ∷ after) = h [] c c after in omega arith
repeated_column (d ∷ between) f f_down h c after =
    let e : f (c ∷ d ∷ between ++ c ∷ after) + f (d ∷ c ∷ between ++ c ∷ after) ≡ f_down (c ∷ d ∷ between ++ c ∷ after) + f_down (d ∷ c ∷ between ++ c ∷ after) = h [] c d (between ++ c ∷ after) in
    let g : f (d ∷ c ∷ between ++ c ∷ after) ≡ f_down (d ∷ c ∷ between ++ c ∷ after) = repeated_column between (behind d f) (behind d f_down) (Swaps-behind f f_down d h) c after in
    omega arith

-- ---- the difference is at most b

pub record IsWithin (b x y : ℕ) : Type 0 where
  pub above : x ≤ y + b
  pub below : y ≤ x + b

-- a column is moved to the front
pub from_front : (before : List Column) (f f_down : List Column → ℕ) → Swaps f f_down → (b : ℕ) (c : Column) (after : List Column) →
    IsWithin b (f (c ∷ before ++ after)) (f_down (c ∷ before ++ after)) → IsWithin b (f (before ++ c ∷ after)) (f_down (before ++ c ∷ after))
from_front [] f f_down h b c after w = w
from_front (a ∷ before) f f_down h b c after w =
    let e : f (a ∷ c ∷ before ++ after) + f (c ∷ a ∷ before ++ after) ≡ f_down (a ∷ c ∷ before ++ after) + f_down (c ∷ a ∷ before ++ after) = h [] a c (before ++ after) in
    let v : IsWithin b (f (a ∷ c ∷ before ++ after)) (f_down (a ∷ c ∷ before ++ after)) = record { above = omega (arith, w.above, w.below); below = omega (arith, w.above, w.below) } in
    from_front before (behind a f) (behind a f_down) (Swaps-behind f f_down a h) b c after v

-- ---- the sum of two columns at the front

abbrev pub Adds : (List Column → ℕ) → (List Column → ℕ) → Type 0
Adds f f_down = (c d : Column) (xs : List Column) → f (both c d ∷ xs) + (f_down (c ∷ xs) + f_down (d ∷ xs)) ≡ f_down (both c d ∷ xs) + (f (c ∷ xs) + f (d ∷ xs))

cut_adds : (row : Row) (f f_down : List Column → ℕ) → Adds f f_down → Adds (cut row f f_down) (cut row f_down f)
unfolding cut both
cut_adds row f f_down h c d xs = omega (
  arith,
  mixed_cut row 1 0 (behind c f) (behind c f_down) (behind d f) (behind d f_down) (behind (both c d) f) (behind (both c d) f_down)
      (λ ys. let e : f (both c d ∷ ys) + (f_down (c ∷ ys) + f_down (d ∷ ys)) ≡ f_down (both c d ∷ ys) + (f (c ∷ ys) + f (d ∷ ys)) = h c d ys in omega arith) xs,
)

pub minor_adds : (rows : List Row) → Adds (minor rows).up (minor rows).down
unfolding minor one
minor_adds [] c d xs = omega arith
minor_adds (row ∷ rows) c d xs = cut_adds row (minor rows).up (minor rows).down (minor_adds rows) c d xs
