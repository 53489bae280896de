-- Lists that consist of blocks of one length.
use Rattle.std.proofs.Common.{◌≡◌, ℕ, zero, suc, ◌+◌, ◌*◌, ◌<◌, List, length, flat_map, ap, ◌∙◌, arith}
use Rattle.std.specs.Prelude.{slice_index}
use Rattle.std.specs.List.{range_with_len}
use Rattle.std.proofs.lemmas.List.{length-append, get_or_append_left, get_or-append-add}
use Rattle.table_definitions.specs.Lists.{below}

module _ (w : ℕ) (block : ℕ → List ℕ) (wide : (t : ℕ) → length (block t) ≡ w) where
  block_from : (a n t k : ℕ) → t < n → k < w → slice_index (flat_map block (range_with_len a n)) (w * t + k) ≡ slice_index (block (a + t)) k
  block_from a zero t k lt lk = absurd (omega arith)
  block_from a (suc n) zero k lt lk =
      let i : w * 0 + k ≡ k = omega arith in
      let at : a ≡ a + 0 = omega arith in
      let inside : k < length (block a) = omega (arith, wide a) in
      ap (slice_index (flat_map block (range_with_len a (suc n)))) i ∙ get_or_append_left (block a) (flat_map block (range_with_len (a + 1) n)) 0 k inside ∙ ap (λ u. slice_index (block u) k) at
  block_from a (suc n) (suc t) k lt lk =
      let i : w * suc t + k ≡ length (block a) + (w * t + k) = omega (arith, wide a) in
      let at : a + 1 + t ≡ a + suc t = omega arith in
      ap (slice_index (flat_map block (range_with_len a (suc n)))) i ∙ get_or-append-add (block a) (flat_map block (range_with_len (a + 1) n)) (w * t + k) 0
      ∙ block_from (a + 1) n t k (omega arith) lk ∙ ap (λ u. slice_index (block u) k) at

  pub block-at : (n t k : ℕ) → t < n → k < w → slice_index (flat_map block (below n)) (w * t + k) ≡ slice_index (block t) k
  block-at n t k lt lk = let at : 0 + t ≡ t = omega arith in block_from 0 n t k lt lk ∙ ap (λ u. slice_index (block u) k) at

  length_from : (a n : ℕ) → length (flat_map block (range_with_len a n)) ≡ w * n
  length_from a zero = let z : 0 ≡ w * 0 = omega arith in z
  length_from a (suc n) = omega (arith, length-append (block a) (flat_map block (range_with_len (a + 1) n)), wide a, length_from (a + 1) n)

  pub length-blocks : (n : ℕ) → length (flat_map block (below n)) ≡ w * n
  length-blocks n = length_from 0 n
