-- Maps on oriented surfaces by permutations of their darts: a dart is an edge with a direction.
use Rattle.std.specs.Prelude.{◌≡◌, ◌≢◌, ℕ, ◌+◌, ◌*◌, ◌%◌, ◌<◌, Bool}

-- no number below n is carried to one that is not below n, and no two are carried to one
pub record IsPermutationBelow (n : ℕ) (f : ℕ → ℕ) : Type 0 where
  pub within : (d : ℕ) → d < n → f d < n
  pub injective : (d e : ℕ) → d < n → e < n → f d ≡ f e → d ≡ e

-- the cycles of f on the numbers below n, numbered from 0: each truth value that f does not change is the same at all
-- numbers of a cycle
pub record AreCycles (n : ℕ) (f : ℕ → ℕ) (cycle : ℕ → ℕ) (count : ℕ) : Type 0 where
  pub in_range : (d : ℕ) → d < n → cycle d < count
  pub none_empty : (c : ℕ) → c < count → (d : ℕ) × (d < n) × (cycle d ≡ c)
  pub kept : (d : ℕ) → d < n → cycle (f d) ≡ cycle d
  pub joined : (h : ℕ → Bool) → ((d : ℕ) → d < n → h (f d) ≡ h d) → (d e : ℕ) → d < n → e < n → cycle d ≡ cycle e → h d ≡ h e

-- n darts: `back` gives the other direction of the same edge, `turn` the next dart that begins at the same point, and
-- `next` the next dart around the same face
pub record IsOrientedMap (n : ℕ) (back turn next : ℕ → ℕ) : Type 0 where
  pub turns : IsPermutationBelow n turn
  pub back_within : (d : ℕ) → d < n → back d < n
  pub back_twice : (d : ℕ) → d < n → back (back d) ≡ d
  pub back_differs : (d : ℕ) → d < n → back d ≢ d
  pub next_is : (d : ℕ) → d < n → next d ≡ turn (back d)

-- Theorem: the numbers of points, edges and faces of an oriented map have an even sum, of the parity of its Euler
-- characteristic.
abbrev pub OrientedMapsAreEven : Type 0
OrientedMapsAreEven =
    (n : ℕ) (back turn next point face : ℕ → ℕ) (points edges faces : ℕ) → IsOrientedMap n back turn next → AreCycles n turn point points → AreCycles n next face faces
    → n ≡ 2 * edges → (points + edges + faces) % 2 ≡ 0
