-- Signs of facets, by the parities of the maps of their vertices to those of new facets.
use mathlib.Core.Bool.{beq}
use Rattle.std.proofs.Common.{◌≡◌, ◌≢◌, ℕ, ◌<◌, Bool, true, false, List, length, map, refl, sym, ap, ◌∙◌, arith}
use Rattle.std.specs.Prelude.{◌==◌, ◌||◌, not, if◌then◌else◌}
use Rattle.std.specs.List.{list_all}
use Rattle.std.proofs.lemmas.List.{length-map}
use Rattle.basic_lemmas.proofs.Numbers.{given_apart}
use Rattle.table_definitions.specs.Lists.{below, substitute}
use Rattle.table_definitions.specs.Permutation.{IsPermutationOfFour, image, preimage, inverse, compose, inversions, is_odd, words}
use Rattle.table_definitions.proofs.ListFacts.{list_all-below}
use Rattle.table_definitions.proofs.Permutations.{by_words, bool_equal, is_odd-compose, is_odd-inverse, image_below, length-permutation, compose_permutes, inverse_permutes}
use Rattle.move_laws.proofs.Labels.{ascending, AreLabels, length-labels, image-map, labels_by}
use Rattle.move_laws.proofs.Matched.{same_four, image-composed, length-composed}
use Rattle.move_laws.proofs.Renamed.{across}
use Rattle.move_laws.proofs.SecondStand.{crossing, crossing_permutes}

-- the other sign if the parity is odd
abbrev pub flip : Bool → Bool → Bool
flip odd s = if odd then not s else s

-- the sign across a gluing: the same if the gluing is odd, and otherwise the other
abbrev pub behind : Bool → Bool → Bool
behind odd s = if odd then s else not s

-- ---- over Booleans

flip_twice : (b p a : Bool) → flip (not (not (beq b p))) a ≡ flip b (behind p a)
flip_twice true true true = refl
flip_twice true true false = refl
flip_twice true false true = refl
flip_twice true false false = refl
flip_twice false true true = refl
flip_twice false true false = refl
flip_twice false false true = refl
flip_twice false false false = refl

pub flip_behind : (o b a : Bool) → flip (behind o b) a ≡ behind o (flip b a)
flip_behind true true true = refl
flip_behind true true false = refl
flip_behind true false true = refl
flip_behind true false false = refl
flip_behind false true true = refl
flip_behind false true false = refl
flip_behind false false true = refl
flip_behind false false false = refl

flip_across : (r g s a : Bool) → flip r (behind g a) ≡ behind (not (beq r (not (beq g s)))) (flip s a)
flip_across true true true true = refl
flip_across true true true false = refl
flip_across true true false true = refl
flip_across true true false false = refl
flip_across true false true true = refl
flip_across true false true false = refl
flip_across true false false true = refl
flip_across true false false false = refl
flip_across false true true true = refl
flip_across false true true false = refl
flip_across false true false true = refl
flip_across false true false false = refl
flip_across false false true true = refl
flip_across false false true false = refl
flip_across false false false true = refl
flip_across false false false false = refl

flip_back : (r g s a : Bool) → flip r (behind (not (beq r (not (beq g s)))) a) ≡ behind g (flip s a)
flip_back true true true true = refl
flip_back true true true false = refl
flip_back true true false true = refl
flip_back true true false false = refl
flip_back true false true true = refl
flip_back true false true false = refl
flip_back true false false true = refl
flip_back true false false false = refl
flip_back false true true true = refl
flip_back false true true false = refl
flip_back false true false true = refl
flip_back false true false false = refl
flip_back false false true true = refl
flip_back false false true false = refl
flip_back false false false true = refl
flip_back false false false false = refl

-- ---- over permutations

stood_parity : (r g s : List ℕ) → IsPermutationOfFour r → IsPermutationOfFour g → IsPermutationOfFour s →
    is_odd (compose r (compose g (inverse s))) ≡ not (beq (is_odd r) (not (beq (is_odd g) (is_odd s))))
stood_parity r g s hr hg hs = is_odd-compose r (compose g (inverse s)) hr (compose_permutes g (inverse s) hg (inverse_permutes s hs))
    ∙ ap (λ o. not (beq (is_odd r) o)) (is_odd-compose g (inverse s) hg (inverse_permutes s hs) ∙ ap (λ o. not (beq (is_odd g) o)) (is_odd-inverse s hs))

-- the sign across the image of a gluing
pub across_sign : (r g s : List ℕ) → IsPermutationOfFour r → IsPermutationOfFour g → IsPermutationOfFour s → (a : Bool) →
    flip (is_odd r) (behind (is_odd g) a) ≡ behind (is_odd (compose r (compose g (inverse s)))) (flip (is_odd s) a)
across_sign r g s hr hg hs a = flip_across (is_odd r) (is_odd g) (is_odd s) a ∙ ap (λ o. behind o (flip (is_odd s) a)) (sym (stood_parity r g s hr hg hs))

-- the sign across a gluing, by that across its image
pub back_sign : (r g s : List ℕ) → IsPermutationOfFour r → IsPermutationOfFour g → IsPermutationOfFour s → (a : Bool) →
    flip (is_odd r) (behind (is_odd (compose r (compose g (inverse s)))) a) ≡ behind (is_odd g) (flip (is_odd s) a)
back_sign r g s hr hg hs a = ap (λ o. flip (is_odd r) (behind o a)) (stood_parity r g s hr hg hs) ∙ flip_back (is_odd r) (is_odd g) (is_odd s) a

-- the signs of new facets, computed from the facet of the move's tetrahedron, agree across the gluings between them
inner_test : List ℕ → Bool
inner_test q = list_all (λ j. list_all (λ l. (j == l) || beq (is_odd (crossing 4 l q)) (behind (is_odd (across j l)) (is_odd (crossing 4 j q)))) (below 4)) (below 4)

inner_tests : list_all inner_test words ≡ true
inner_tests = unfold inner_test is_odd inversions preimage in refl

pub inner_sign : (q : List ℕ) → IsPermutationOfFour q → (j l : ℕ) → j < 4 → l < 4 → j ≢ l → (a : Bool) →
    flip (is_odd (crossing 4 l q)) a ≡ behind (is_odd (across j l)) (flip (is_odd (crossing 4 j q)) a)
inner_sign q h j l lj ll d a = ap (λ o. flip o a) (bool_equal _ _ at) ∙ flip_behind (is_odd (across j l)) (is_odd (crossing 4 j q)) a
  where
    at : beq (is_odd (crossing 4 l q)) (behind (is_odd (across j l)) (is_odd (crossing 4 j q))) ≡ true
    at = given_apart j l _ (list_all-below (λ l. (j == l) || beq (is_odd (crossing 4 l q)) (behind (is_odd (across j l)) (is_odd (crossing 4 j q)))) 4
        (list_all-below (λ j. list_all (λ l. (j == l) || beq (is_odd (crossing 4 l q)) (behind (is_odd (across j l)) (is_odd (crossing 4 j q)))) (below 4)) 4
        (unfold inner_test in by_words inner_test inner_tests q h) j lj) l ll) d

-- an old facet is mapped to a new one with the other parity than the move's tetrahedron, the gluing between the two
-- left aside
old_test : List ℕ → Bool
old_test q = list_all (λ i. list_all (λ j. (j == i) || beq (is_odd (crossing 4 j q)) (not (is_odd (crossing i j (labels_by i q))))) (below 4)) (below 4)

old_tests : list_all old_test words ≡ true
old_tests = unfold old_test is_odd inversions preimage in refl

pub crossing-compose : (i j : ℕ) (labels p : List ℕ) → length labels ≡ 4 → IsPermutationOfFour p → compose (crossing i j labels) p ≡ crossing i j (compose labels p)
crossing-compose i j labels p e h = same_four (compose (crossing i j labels) p) (crossing i j (compose labels p))
    (length-composed (crossing i j labels) p ∙ four)
    (length-map (compose labels p) (λ l. preimage (ascending j) (substitute j i l)) ∙ length-composed labels p ∙ four)
    (λ v l. (let low : image p v < 4 = image_below p h v l in
    image-composed (crossing i j labels) p v (omega (arith, four))
    ∙ image-map (λ l. preimage (ascending j) (substitute j i l)) labels (image p v) (omega arith)
    ∙ ap (λ l. preimage (ascending j) (substitute j i l)) (sym (image-composed labels p v (omega (arith, four))))
    ∙ sym (image-map (λ l. preimage (ascending j) (substitute j i l)) (compose labels p) v (omega (arith, four, length-composed labels p)))))
  where
    four : length p ≡ 4
    four = length-permutation p h

pub old_sign : (q p labels : List ℕ) (i j : ℕ) → IsPermutationOfFour q → IsPermutationOfFour p → AreLabels i labels → i < 4 → j < 4 → j ≢ i →
    compose labels p ≡ map (substitute i 4) q → (a : Bool) → flip (is_odd (crossing 4 j q)) a ≡ flip (is_odd (crossing i j labels)) (behind (is_odd p) a)
old_sign q p labels i j hq hp hl li lj d e a = ap (λ o. flip o a) (bool_equal _ _ at ∙ ap not parity) ∙ flip_twice (is_odd (crossing i j labels)) (is_odd p) a
  where
    at : beq (is_odd (crossing 4 j q)) (not (is_odd (crossing i j (labels_by i q)))) ≡ true
    at = given_apart j i _ (list_all-below (λ j. (j == i) || beq (is_odd (crossing 4 j q)) (not (is_odd (crossing i j (labels_by i q))))) 4
        (list_all-below (λ i. list_all (λ j. (j == i) || beq (is_odd (crossing 4 j q)) (not (is_odd (crossing i j (labels_by i q))))) (below 4)) 4
        (unfold old_test in by_words old_test old_tests q hq) i li) j lj) d

    parity : is_odd (crossing i j (labels_by i q)) ≡ not (beq (is_odd (crossing i j labels)) (is_odd p))
    parity = ap (λ (ls : List ℕ). is_odd (crossing i j ls)) (sym e) ∙ ap is_odd (sym (crossing-compose i j labels p (length-labels i labels hl) hp))
        ∙ is_odd-compose (crossing i j labels) p (crossing_permutes i j labels hl (omega arith) d) hp
