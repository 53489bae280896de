-- The labels of facets: those of facet i are the numbers below 5 without i, in some order.
use Rattle.std.proofs.Common.{◌≡◌, ℕ, ◌<◌, Bool, true, List, length, map, refl, sym, ap, ◌∙◌, subst, arith}
use Rattle.std.specs.Prelude.{◌&&◌, ◌||◌, ◌==◌, ◌≢◌, nat_lt, not, filter, slice_index}
use Rattle.std.specs.List.{list_all}
use Rattle.std.proofs.lemmas.Bool.{eqb-true, ltb-true, and_parts}
use Rattle.std.proofs.lemmas.List.{get_or-map, length-map}
use Rattle.basic_lemmas.proofs.Numbers.{not_equal, given_apart}
use Rattle.table_definitions.specs.Lists.{below, same_list, substitute}
use Rattle.table_definitions.specs.Permutation.{IsPermutationOfFour, is_permutation, image, preimage, words}
use Rattle.table_definitions.proofs.ListFacts.{list_all-below, same_list-true}
use Rattle.table_definitions.proofs.Permutations.{by_words, length-permutation}

-- a permutation with 4 in the place of i
abbrev pub labels_by : ℕ → List ℕ → List ℕ
labels_by i q = map (substitute i 4) q

-- labels of facet i
pub record AreLabels (i : ℕ) (labels : List ℕ) : Type 0 where
  pub missing : i < 5
  pub perm : List ℕ
  pub permutes : IsPermutationOfFour perm
  pub is : labels ≡ labels_by i perm

-- a test of labels
abbrev pub label_tests : (ℕ → List ℕ → Bool) → Bool
label_tests t = list_all (λ i. list_all (λ q. t i (labels_by i q)) words) (below 5)

pub on_labels : (t : ℕ → List ℕ → Bool) → label_tests t ≡ true → (i : ℕ) (labels : List ℕ) → AreLabels i labels → t i labels ≡ true
on_labels t all i labels h =
    let at : t i (labels_by i h.perm) ≡ true = by_words (λ q. t i (labels_by i q)) (list_all-below (λ k. list_all (λ q. t k (labels_by k q)) words) 5 all i h.missing) h.perm h.permutes in
    let P : List ℕ → Type 0 = λ ls. t i ls ≡ true in
    subst P (sym h.is) at

pub length-labels : (i : ℕ) (labels : List ℕ) → AreLabels i labels → length labels ≡ 4
length-labels i labels h = ap length h.is ∙ length-map h.perm (substitute i 4) ∙ length-permutation h.perm h.permutes

-- a vertex has a label below 5 other than the missing one, and is the vertex with that label
vertex_test : ℕ → List ℕ → Bool
vertex_test i labels = list_all (λ v. nat_lt (slice_index labels v) 5 && (not (slice_index labels v == i) && (preimage labels (slice_index labels v) == v))) (below 4)

vertex_tests : label_tests vertex_test ≡ true
unfolding vertex_test preimage
vertex_tests = refl

pub record HasLabel (i : ℕ) (labels : List ℕ) (v : ℕ) : Type 0 where
  pub small : image labels v < 5
  pub present : image labels v ≢ i
  pub vertex : preimage labels (image labels v) ≡ v

pub label_at : (i : ℕ) (labels : List ℕ) → AreLabels i labels → (v : ℕ) → v < 4 → HasLabel i labels v
unfolding vertex_test
label_at i labels h v l =
    let at = list_all-below (λ v. nat_lt (slice_index labels v) 5 && (not (slice_index labels v == i) && (preimage labels (slice_index labels v) == v))) 4 (on_labels vertex_test vertex_tests i labels h) v l in
    let p = and_parts (nat_lt (slice_index labels v) 5) (not (slice_index labels v == i) && (preimage labels (slice_index labels v) == v)) at in
    let q = and_parts (not (slice_index labels v == i)) (preimage labels (slice_index labels v) == v) p.1 in
    record { small = ltb-true (image labels v) 5 p.0; present = not_equal (image labels v) i q.0; vertex = eqb-true (preimage labels (image labels v)) v q.1 }

-- and each label other than the missing one has a vertex
place_test : ℕ → List ℕ → Bool
place_test i labels = list_all (λ l. (l == i) || (nat_lt (preimage labels l) 4 && (slice_index labels (preimage labels l) == l))) (below 5)

place_tests : label_tests place_test ≡ true
unfolding place_test preimage
place_tests = refl

pub record HasVertex (labels : List ℕ) (l : ℕ) : Type 0 where
  pub small : preimage labels l < 4
  pub label : image labels (preimage labels l) ≡ l

pub vertex_at : (i : ℕ) (labels : List ℕ) → AreLabels i labels → (l : ℕ) → l < 5 → l ≢ i → HasVertex labels l
unfolding place_test
vertex_at i labels h l small separate =
    let at = list_all-below (λ l. (l == i) || (nat_lt (preimage labels l) 4 && (slice_index labels (preimage labels l) == l))) 5 (on_labels place_test place_tests i labels h) l small in
    let p = and_parts (nat_lt (preimage labels l) 4) (slice_index labels (preimage labels l) == l) (given_apart l i (nat_lt (preimage labels l) 4 && (slice_index labels (preimage labels l) == l)) at separate) in
    record { small = ltb-true (preimage labels l) 4 p.0; label = eqb-true (image labels (preimage labels l)) l p.1 }

-- a permutation is labels of facet 4
pub own_labels : (q : List ℕ) → IsPermutationOfFour q → AreLabels 4 q
own_labels q h = record {
  missing = omega arith;
  perm = q;
  permutes = h;
  is = sym (same_list-true (labels_by 4 q) q (by_words (λ q. same_list (labels_by 4 q) q) refl q h));
}

-- the labels of a new facet, in ascending order
abbrev pub ascending : ℕ → List ℕ
ascending j = filter (λ l. not (l == j)) (below 5)

pub new_labels : (j : ℕ) → j < 5 → AreLabels j (ascending j)
unfolding is_permutation
new_labels j l = record {
  missing = l;
  perm = map (substitute 4 j) (ascending j);
  permutes = list_all-below (λ k. is_permutation (map (substitute 4 k) (ascending k))) 5 refl j l;
  is = same_list-true (ascending j) (labels_by j (map (substitute 4 j) (ascending j))) (list_all-below (λ k. same_list (ascending k) (labels_by k (map (substitute 4 k) (ascending k)))) 5 refl j l);
}

-- the label of a vertex under a map of labels
pub image-map : (h : ℕ → ℕ) (labels : List ℕ) (v : ℕ) → v < length labels → image (map h labels) v ≡ h (image labels v)
image-map h labels v l = get_or-map h labels v 0 0 l
