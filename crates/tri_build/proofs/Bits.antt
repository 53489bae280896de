-- The mask of the images of a core's vertices.
use Rattle.std.proofs.Common.{◌≡◌, ℕ, ◌+◌, ◌^◌, ◌<◌, Bool, true, List, refl, sym, subst}
use Rattle.std.specs.Prelude.{◌&&◌, nat_lt, if◌then◌else◌}
use Rattle.std.specs.List.{list_all}
use Rattle.std.proofs.lemmas.Bool.{ltb-true, and_parts}
use Rattle.table_definitions.specs.Lists.{has, same_list}
use Rattle.table_definitions.specs.Permutation.{IsPermutationOfFour, image, words}
use Rattle.table_definitions.proofs.ListFacts.{same_list-true}
use Rattle.table_definitions.proofs.Permutations.{by_words}
use Rattle.move_definitions.specs.Moves.{IsCore}
use Rattle.move_definitions.proofs.CoreTests.{cores, on_cores}
use Rattle.certificate_definitions.specs.CarriedMoves.{core_under}
use Rattle.pachner_moves.specs.Cores.{core_of}

abbrev pub bit : List ℕ → List ℕ → ℕ → ℕ
bit q core v = if has core v then 2 ^ image q v else 0

abbrev pub mask_under : List ℕ → List ℕ → ℕ
mask_under q core = bit q core 0 + bit q core 1 + bit q core 2 + bit q core 3

mask_test : List ℕ → List ℕ → Bool
mask_test q core = nat_lt 0 (mask_under q core) && (nat_lt (mask_under q core) 16 && same_list (core_of (mask_under q core)) (core_under q core))

mask_tested : (q core : List ℕ) → IsPermutationOfFour q → IsCore core → mask_test q core ≡ true
mask_tested q core h c = by_words (λ q. mask_test q core) (on_cores (λ vs. list_all (λ q. mask_test q vs) words) all core c) q h
  where
    all : list_all (λ vs. list_all (λ q. mask_test q vs) words) cores ≡ true
    all = unfold mask_test in refl

-- the mask is that of the image of the core
pub record IsMaskOf (mask : ℕ) (core : List ℕ) : Type 0 where
  pub some : 0 < mask
  pub four : mask < 16
  pub vertices : core_of mask ≡ core

pub mask_is : (q core : List ℕ) → IsPermutationOfFour q → IsCore core → IsMaskOf (mask_under q core) (core_under q core)
unfolding mask_test
mask_is q core h c =
    let p = and_parts (nat_lt 0 (mask_under q core)) (nat_lt (mask_under q core) 16 && same_list (core_of (mask_under q core)) (core_under q core)) (mask_tested q core h c) in
    let r = and_parts (nat_lt (mask_under q core) 16) (same_list (core_of (mask_under q core)) (core_under q core)) p.1 in
    record { some = ltb-true 0 (mask_under q core) p.0; four = ltb-true (mask_under q core) 16 r.0; vertices = same_list-true (core_of (mask_under q core)) (core_under q core) r.1 }

pub bits_are : (q core : List ℕ) (a b c d : ℕ) → IsPermutationOfFour q → IsCore core → a ≡ bit q core 0 → b ≡ bit q core 1 → c ≡ bit q core 2 → d ≡ bit q core 3 → IsMaskOf (a + b + c + d) (core_under q core)
bits_are q core a b c d h k ea eb ec ed =
    let sum : a + b + c + d ≡ mask_under q core = λ i. ea i + eb i + ec i + ed i in
    subst (λ m. IsMaskOf m (core_under q core)) (sym sum) (mask_is q core h k)
