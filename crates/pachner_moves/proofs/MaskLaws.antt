-- What holds of cores, mask by mask.
use Rattle.std.proofs.Common.{◌≡◌, ℕ, zero, suc, ◌*◌, ◌<◌, ◌≤◌, ◌/◌, ◌%◌, ◌^◌, Bool, true, false, List, [], ◌∷◌, length, refl, Option, Some, arith, inl, inr}
use Rattle.std.specs.Prelude.{◌⊎◌, ◌||◌, filter, ◌==◌, ◌&&◌, nat_lt, slice_index, bit_and, if◌then◌else◌, not}
use Rattle.std.proofs.lemmas.Bool.{eqb-true, or_cases}
use Rattle.table_definitions.specs.Lists.{has, below, same_list}
use Rattle.std.specs.List.{list_all}
use Rattle.table_definitions.specs.Permutation.{four, is_permutation, IsPermutationOfFour, inverse, preimage, index}
use Rattle.move_definitions.specs.Moves.{IsCore, vertices_by_label}
use Rattle.table_definitions.proofs.ListFacts.{list_all-below, same_list-true}
use Rattle.pachner_moves.specs.Cores.{core_of}

abbrev same_test : Bool → Bool → Bool
same_test a b = if a then b else not b

same_test-true : (a b : Bool) → same_test a b ≡ true → a ≡ b
same_test-true true true h = refl
same_test-true true false h = cc
same_test-true false true h = cc
same_test-true false false h = refl

abbrev bit : ℕ → ℕ → Bool
bit m v = bit_and (m / (2 ^ v)) 1 == 1

pub has_is : (m v : ℕ) → m < 16 → v < 4 → bit m v ≡ has (core_of m) v
has_is m v lm lv =
    same_test-true (bit m v) (has (core_of m) v)
    (list_all-below (λ w. same_test (bit m w) (has (core_of m) w)) 4 (list_all-below (λ k. list_all (λ w. same_test (bit k w) (has (core_of k) w)) (below 4)) 16 refl m lm) v lv)

pub size_is : (m : ℕ) → m < 16 → slice_index (0 ∷ 1 ∷ 1 ∷ 2 ∷ 1 ∷ 2 ∷ 2 ∷ 3 ∷ 1 ∷ 2 ∷ 2 ∷ 3 ∷ 2 ∷ 3 ∷ 3 ∷ 4 ∷ []) m ≡ length (core_of m)
size_is m l =
    eqb-true (slice_index (0 ∷ 1 ∷ 1 ∷ 2 ∷ 1 ∷ 2 ∷ 2 ∷ 3 ∷ 1 ∷ 2 ∷ 2 ∷ 3 ∷ 2 ∷ 3 ∷ 3 ∷ 4 ∷ []) m) (length (core_of m))
    (list_all-below (λ k. slice_index (0 ∷ 1 ∷ 1 ∷ 2 ∷ 1 ∷ 2 ∷ 2 ∷ 3 ∷ 1 ∷ 2 ∷ 2 ∷ 3 ∷ 2 ∷ 3 ∷ 3 ∷ 4 ∷ []) k == length (core_of k)) 16 refl m l)

pub labels_permute : (m : ℕ) → m < 16 → IsPermutationOfFour (inverse (vertices_by_label (core_of m)))
unfolding is_permutation inverse preimage
labels_permute m l = list_all-below (λ k. is_permutation (inverse (vertices_by_label (core_of k)))) 16 refl m l

pub labels_index : (m : ℕ) → m < 16 → index (inverse (vertices_by_label (core_of m))) ≡ slice_index (0 ∷ 0 ∷ 6 ∷ 0 ∷ 8 ∷ 2 ∷ 12 ∷ 0 ∷ 9 ∷ 3 ∷ 13 ∷ 1 ∷ 16 ∷ 4 ∷ 18 ∷ 0 ∷ []) m
unfolding index inverse preimage
labels_index m l =
    eqb-true (index (inverse (vertices_by_label (core_of m)))) (slice_index (0 ∷ 0 ∷ 6 ∷ 0 ∷ 8 ∷ 2 ∷ 12 ∷ 0 ∷ 9 ∷ 3 ∷ 13 ∷ 1 ∷ 16 ∷ 4 ∷ 18 ∷ 0 ∷ []) m)
    (list_all-below (λ k. index (inverse (vertices_by_label (core_of k))) == slice_index (0 ∷ 0 ∷ 6 ∷ 0 ∷ 8 ∷ 2 ∷ 12 ∷ 0 ∷ 9 ∷ 3 ∷ 13 ∷ 1 ∷ 16 ∷ 4 ∷ 18 ∷ 0 ∷ []) k) 16 refl m l)

pub some_same : (o : Option (List ℕ)) (p q : List ℕ) → o ≡ Some p → o ≡ Some q → p ≡ q
some_same o p q e f = cc

pub is_core : (m : ℕ) → 0 < m → m < 16 → IsCore (core_of m)
is_core m l h = pick (or_cases (m == 0) (nat_lt 0 (length (core_of m)) && same_list (filter (has (core_of m)) four) (core_of m)) (list_all-below (λ k. (k == 0) || (nat_lt 0 (length (core_of k)) && same_list (filter (has (core_of k)) four) (core_of k))) 16 refl m h))
  where
    pick : ((m == 0) ≡ true) ⊎ ((nat_lt 0 (length (core_of m)) && same_list (filter (has (core_of m)) four) (core_of m)) ≡ true) → IsCore (core_of m)
    pick (inl e) = absurd (let q = eqb-true m 0 e in omega arith)
    pick (inr e) = e

-- the mask of one vertex

pub bit_low : (v : ℕ) → v < 4 → (1 * 2 ^ v) % 256 ≤ 8
bit_low zero l = omega arith
bit_low (suc zero) l = omega arith
bit_low (suc (suc zero)) l = omega arith
bit_low (suc (suc (suc zero))) l = omega arith
bit_low (suc (suc (suc (suc v)))) l = absurd (omega arith)

pub one_vertex : (v : ℕ) → v < 4 → core_of ((1 * 2 ^ v) % 256) ≡ v ∷ []
one_vertex v l = same_list-true (core_of ((1 * 2 ^ v) % 256)) (v ∷ []) (list_all-below (λ k. same_list (core_of ((1 * 2 ^ k) % 256)) (k ∷ [])) 4 refl v l)
