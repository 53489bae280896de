-- The permutations of four, computed.
use Rattle.table_definitions.proofs.Computed.{computed}
use Rattle.std.proofs.Common.{◌≡◌, ℕ, true, List, [], ◌∷◌, map, refl}
use Rattle.std.specs.Prelude.{filter, ◌&&◌}
use Rattle.std.specs.List.{list_all, flat_map}
use Rattle.table_definitions.specs.Lists.{below, same_list}
use Rattle.table_definitions.specs.Permutation.{four, is_permutation, image, preimage, inverse, compose, identity, is_odd, words, index}

-- every list of four numbers below four, in lexicographic order
all_lists : List (List ℕ)
all_lists = flat_map (λ a. flat_map (λ b. flat_map (λ c. map (λ d. a ∷ b ∷ c ∷ d ∷ []) four) four) four) four

-- the words are the permutations among them
words_lem : filter is_permutation all_lists ≡ words
unfolding computed all_lists
words_lem = refl

-- each permutation is at its index
indexes : map index words ≡ below 24
unfolding computed
indexes = refl

-- the inverse is one on both sides
inverses : list_all (λ p. same_list (compose p (inverse p)) identity && same_list (compose (inverse p) p) identity) words ≡ true
unfolding computed
inverses = refl

-- 1230 maps 0 to 1, is odd, and has the index 9 and the inverse 3012
turn : (image (1 ∷ 2 ∷ 3 ∷ 0 ∷ []) 0 ≡ 1) × (preimage (1 ∷ 2 ∷ 3 ∷ 0 ∷ []) 0 ≡ 3) × (is_odd (1 ∷ 2 ∷ 3 ∷ 0 ∷ []) ≡ true) × (index (1 ∷ 2 ∷ 3 ∷ 0 ∷ []) ≡ 9) × (inverse (1 ∷ 2 ∷ 3 ∷ 0 ∷ []) ≡ 3 ∷ 0 ∷ 1 ∷ 2 ∷ [])
unfolding computed
turn = (refl, refl, refl, refl, refl)
