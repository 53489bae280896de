-- Further laws of the permutations of four. In those on images the vertex is the argument before the proof that p
-- permutes.
use Rattle.std.proofs.Common.{◌≡◌, ℕ, zero, suc, ◌<◌, Bool, true, List, refl, sym, ◌∙◌, subst, arith, ⊎_elim, ◌≢◌}
use Rattle.std.specs.Prelude.{◌==◌, ◌&&◌, not, if◌then◌else◌}
use Rattle.std.specs.List.{list_all}
use Rattle.std.specs.Bool.{beq}
use Rattle.std.proofs.lemmas.Bool.{and_parts, cases_eq, eqb-true, eq-eqb}
use Rattle.table_definitions.specs.Permutation.{IsPermutationOfFour, image, preimage, inverse, compose, is_odd, inversions, words}
use Rattle.table_definitions.proofs.Permutations as permutations
use Rattle.table_definitions.proofs.Permutations.{by_words, by_pairs, bool_equal}

-- images are below 4, and taking images and preimages are inverse to each other
pub image_below : (p : List ℕ) (v : ℕ) → IsPermutationOfFour p → v < 4 → image p v < 4
image_below p v h l = permutations.image_below p h v l

pub preimage-image : (p : List ℕ) (v : ℕ) → IsPermutationOfFour p → v < 4 → preimage p (image p v) ≡ v
preimage-image p v h l = permutations.preimage-image p h v l

pub image-preimage : (p : List ℕ) (v : ℕ) → IsPermutationOfFour p → v < 4 → image p (preimage p v) ≡ v
image-preimage p v h l = permutations.image-preimage p h v l

-- the inverse maps an image back
pub image-of_inverse : (p : List ℕ) (v : ℕ) → IsPermutationOfFour p → v < 4 → image (inverse p) (image p v) ≡ v
image-of_inverse p v h l = permutations.image-inverse p (image p v) (image_below p v h l) ∙ preimage-image p v h l

-- a test of each number below n
all_below : (ℕ → Bool) → ℕ → Bool
all_below f zero = true
all_below f (suc n) = f n && all_below f n

all_below_at : (f : ℕ → Bool) (n a : ℕ) → all_below f n ≡ true → a < n → f a ≡ true
unfolding all_below
all_below_at f zero a e h = absurd (omega arith)
all_below_at f (suc n) a e h =
    ⊎_elim (λ s. let P : ℕ → Type 0 = λ k. f k ≡ true in subst P (sym s) (and_parts (f n) (all_below f n) e).0)
    (λ separate. let less : a < n = omega arith in all_below_at f n a (and_parts (f n) (all_below f n) e).1 less)
    (cases_eq a n)

-- a composition is odd if and only if exactly one of the two permutations is
pub is_odd-compose : (p q : List ℕ) → IsPermutationOfFour p → IsPermutationOfFour q → is_odd (compose p q) ≡ (if is_odd p then not (is_odd q) else is_odd q)
unfolding is_odd inversions compose
is_odd-compose p q hp hq = bool_equal (is_odd (compose p q)) (if is_odd p then not (is_odd q) else is_odd q)
    (by_pairs (λ r s. beq (is_odd (compose r s)) (if is_odd r then not (is_odd s) else is_odd s)) refl p q hp hq)

-- different vertices have different images
pub image_same : (p : List ℕ) (v w : ℕ) → IsPermutationOfFour p → v < 4 → w < 4 → (image p v == image p w) ≡ (v == w)
image_same p v w h lv lw =
    bool_equal (image p v == image p w) (v == w)
    (all_below_at (λ x. beq (image p v == image p x) (v == x)) 4 w
    (all_below_at (λ y. all_below (λ x. beq (image p y == image p x) (y == x)) 4) 4 v (by_words (λ q. all_below (λ y. all_below (λ x. beq (image q y == image q x) (y == x)) 4) 4) tests p h) lv) lw)
  where
    tests : list_all (λ q. all_below (λ y. all_below (λ x. beq (image q y == image q x) (y == x)) 4) 4) words ≡ true
    tests = unfold all_below in refl

pub images_apart : (p : List ℕ) (v w : ℕ) → IsPermutationOfFour p → v < 4 → w < 4 → v ≢ w → image p v ≢ image p w
images_apart p v w h lv lw separate same = separate (eqb-true v w (sym (image_same p v w h lv lw) ∙ eq-eqb (image p v) (image p w) same))
