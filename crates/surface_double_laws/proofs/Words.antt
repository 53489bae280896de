-- The parity of four different vertices in an order.
use Rattle.std.proofs.Common.{◌≡◌, ℕ, Bool, not, List, [], ◌∷◌, refl}
use Rattle.std.specs.Prelude.{if◌then◌else◌}
use mathlib.Core.Bool.{beq}
use Rattle.table_definitions.specs.Permutation.{image, is_odd, is_permutation, inversions, compose, IsPermutationOfFour}
use Rattle.table_definitions.proofs.Permutations.{bool_equal}
use Rattle.table_definitions.proofs.PermutationLaws.{is_odd-compose}
use Rattle.surface_euler_laws.proofs.Four.{Four, by_four}

abbrev pub word : ℕ → ℕ → ℕ → ℕ → List ℕ
word v f u w = v ∷ f ∷ u ∷ w ∷ []

pub word_permutes : (v f u w : ℕ) → Four v f u w → IsPermutationOfFour (word v f u w)
unfolding is_permutation
word_permutes v f u w h = by_four (λ v f u w. is_permutation (word v f u w)) refl v f u w h

-- whether they are an odd permutation
abbrev pub odd : ℕ → ℕ → ℕ → ℕ → Bool
odd v f u w = is_odd (word v f u w)

pub odd_round : (v f u w : ℕ) → Four v f u w → odd v u w f ≡ odd v f u w
unfolding is_odd inversions
odd_round v f u w h = bool_equal (odd v u w f) (odd v f u w) (by_four (λ v f u w. beq (odd v u w f) (odd v f u w)) refl v f u w h)

pub odd_over : (v f u w : ℕ) → Four v f u w → odd w u v f ≡ not (odd v f u w)
unfolding is_odd inversions
odd_over v f u w h = bool_equal (odd w u v f) (not (odd v f u w)) (by_four (λ v f u w. beq (odd w u v f) (not (odd v f u w))) refl v f u w h)

pub odd_ends : (v f u w : ℕ) → Four v f u w → odd v f w u ≡ not (odd v f u w)
unfolding is_odd inversions
odd_ends v f u w h = bool_equal (odd v f w u) (not (odd v f u w)) (by_four (λ v f u w. beq (odd v f w u) (not (odd v f u w))) refl v f u w h)

pub odd_faces : (v f u w : ℕ) → Four v f u w → odd v w u f ≡ not (odd v f u w)
unfolding is_odd inversions
odd_faces v f u w h = bool_equal (odd v w u f) (not (odd v f u w)) (by_four (λ v f u w. beq (odd v w u f) (not (odd v f u w))) refl v f u w h)

pub odd_both : (v f u w : ℕ) → Four v f u w → odd u w v f ≡ odd v f u w
unfolding is_odd inversions
odd_both v f u w h = bool_equal (odd u w v f) (odd v f u w) (by_four (λ v f u w. beq (odd u w v f) (odd v f u w)) refl v f u w h)

-- across a gluing
pub odd_across : (p : List ℕ) (v f u w : ℕ) → IsPermutationOfFour p → Four v f u w → odd (image p v) (image p f) (image p u) (image p w) ≡ (if is_odd p then not (odd v f u w) else odd v f u w)
unfolding compose
odd_across p v f u w h k = is_odd-compose p (word v f u w) h (word_permutes v f u w k)
