-- The parities of the maps of facets to a new one agree as signs: across an odd gluing between facets they are equal,
-- and across an even one they differ.
use mathlib.Core.Bool.{beq}
use Rattle.std.proofs.Common.{◌≡◌, ◌≢◌, ℕ, ◌<◌, Bool, true, false, List, map, refl, sym, ap, ◌∙◌}
use Rattle.std.specs.Prelude.{◌==◌, ◌||◌, not}
use Rattle.std.specs.List.{list_all}
use Rattle.basic_lemmas.proofs.Numbers.{given_apart}
use Rattle.table_definitions.specs.Lists.{below, substitute}
use Rattle.table_definitions.specs.Permutation.{IsPermutationOfFour, preimage, compose, inversions, is_odd}
use Rattle.table_definitions.proofs.ListFacts.{list_all-below}
use Rattle.table_definitions.proofs.Permutations.{bool_equal, is_odd-compose}
use Rattle.move_laws.proofs.Parities.{flip, behind, crossing-compose}
use Rattle.move_laws.proofs.Labels.{AreLabels, length-labels, label_tests, on_labels}
use Rattle.move_laws.proofs.Renamed.{across}
use Rattle.move_laws.proofs.SecondStand.{crossing, crossing_permutes}

-- ---- over Booleans

pub flip_over : (o c a : Bool) → flip (behind o c) (behind o a) ≡ flip c a
flip_over true true true = refl
flip_over true true false = refl
flip_over true false true = refl
flip_over true false false = refl
flip_over false true true = refl
flip_over false true false = refl
flip_over false false true = refl
flip_over false false false = refl

next_from : (c o b : Bool) → b ≡ not (not (beq c o)) → c ≡ behind o b
next_from true true b e = sym e
next_from true false b e = ap not (sym e)
next_from false true b e = sym e
next_from false false b e = ap not (sym e)

-- ---- over labels

old_at : (i : ℕ) (labels : List ℕ) (k j : ℕ) → Bool
old_at i labels k j = (k == i) || ((j == i) || ((j == k) || beq (is_odd (crossing i j labels)) (not (is_odd (crossing k j (map (substitute k i) labels))))))

old_test : ℕ → List ℕ → Bool
old_test i labels = list_all (λ k. list_all (old_at i labels k) (below 5)) (below 5)

old_tests : label_tests old_test ≡ true
old_tests = unfold old_test old_at is_odd inversions preimage in refl

-- from an old facet to another that it is glued to
pub old_parity : (i k j : ℕ) (f g p : List ℕ) → AreLabels i f → AreLabels k g → IsPermutationOfFour p → k < 5 → j < 5 → k ≢ i → j ≢ i → j ≢ k → compose g p ≡ map (substitute k i) f
    → is_odd (crossing k j g) ≡ behind (is_odd p) (is_odd (crossing i j f))
old_parity i k j f g p hf hg hp lk lj ki ji jk e =
    next_from (is_odd (crossing k j g)) (is_odd p) (is_odd (crossing i j f)) (bool_equal _ _ at ∙ ap not (ap (λ (ls : List ℕ). is_odd (crossing k j ls)) (sym e) ∙ ap is_odd (sym (crossing-compose k j g p (length-labels k g hg) hp))
    ∙ is_odd-compose (crossing k j g) p (crossing_permutes k j g hg lj jk) hp))
  where
    test : Bool
    test = beq (is_odd (crossing i j f)) (not (is_odd (crossing k j (map (substitute k i) f))))

    at : test ≡ true
    at = given_apart j k test (given_apart j i ((j == k) || test) (given_apart k i ((j == i) || ((j == k) || test)) (unfold old_at in list_all-below (old_at i f k) 5 (list_all-below (λ k. list_all (old_at i f k) (below 5)) 5
        (unfold old_test in on_labels old_test old_tests i f hf) k lk) j lj) ki) ji) jk

new_at : (i : ℕ) (labels : List ℕ) (j l : ℕ) → Bool
new_at i labels j l = (j == i) || ((l == i) || ((j == l) || beq (is_odd (crossing i l labels)) (behind (is_odd (across j l)) (is_odd (crossing i j labels)))))

new_test : ℕ → List ℕ → Bool
new_test i labels = list_all (λ j. list_all (new_at i labels j) (below 5)) (below 5)

new_tests : label_tests new_test ≡ true
new_tests = unfold new_test new_at is_odd inversions preimage in refl

-- from a new facet to another
pub new_parity : (i j l : ℕ) (labels : List ℕ) → AreLabels i labels → j < 5 → l < 5 → j ≢ i → l ≢ i → j ≢ l → is_odd (crossing i l labels) ≡ behind (is_odd (across j l)) (is_odd (crossing i j labels))
new_parity i j l labels h lj ll ji li d = bool_equal (is_odd (crossing i l labels)) (behind (is_odd (across j l)) (is_odd (crossing i j labels))) at
  where
    test : Bool
    test = beq (is_odd (crossing i l labels)) (behind (is_odd (across j l)) (is_odd (crossing i j labels)))

    at : test ≡ true
    at = given_apart j l test (given_apart l i ((j == l) || test) (given_apart j i ((l == i) || ((j == l) || test)) (unfold new_at in list_all-below (new_at i labels j) 5 (list_all-below (λ j. list_all (new_at i labels j) (below 5)) 5
        (unfold new_test in on_labels new_test new_tests i labels h) j lj) l ll) ji) li) d
