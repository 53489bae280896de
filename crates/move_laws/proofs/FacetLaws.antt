-- Each vertex of a facet of a move has a label, and each label but the missing one a vertex.
use Rattle.std.proofs.Common.{◌≡◌, ℕ, zero, suc, ◌<◌, Bool, true, List, length, refl, sym, ap, ◌∙◌, arith, inl, inr}
use Rattle.std.specs.Prelude.{◌⊎◌, ◌==◌, ◌&&◌, ◌||◌, ◌≢◌, nat_lt, not, filter}
use Rattle.std.specs.List.{list_all}
use Rattle.std.proofs.lemmas.Bool.{eqb-true, ltb-true, or_cases, cases_eq}
use Rattle.basic_lemmas.proofs.Numbers.{not_equal}
use Rattle.table_definitions.specs.Lists.{below, substitute}
use Rattle.table_definitions.specs.Permutation.{image, preimage, inverse, IsPermutationOfFour}
use Rattle.table_definitions.specs.Table.{Gluing, Row}
use Rattle.table_definitions.proofs.InPlace.{in_place-back}
use Rattle.table_definitions.proofs.ListFacts.{list_all-below, both_true}
use Rattle.table_definitions.proofs.Permutations.{length-permutation, image_below, preimage_below, image-preimage, preimage-image}
use Rattle.move_definitions.specs.Moves.{Move, Facet, IsCore, vertices_by_label, own_facet, vertex_of, facet_across, new_facet, label_by_label}
use Rattle.move_definitions.proofs.CoreTests.{core_size, own_permutes}
use Rattle.move_laws.specs.Facets.{IsFacet}
use Rattle.move_laws.proofs.LabelLaws.{facet_from, goes_below, goes_other, by_is}

-- a test of labels
vertex_test : ℕ → List ℕ → ℕ → Bool
vertex_test i labels v = nat_lt (image labels v) 5 && (not (image labels v == i) && (preimage labels (image labels v) == v))

label_test : ℕ → List ℕ → ℕ → Bool
label_test i labels l = (l == i) || (nat_lt (preimage labels l) 4 && (image labels (preimage labels l) == l))

facet_test : ℕ → List ℕ → Bool
facet_test i labels = (length labels == 4) && (list_all (vertex_test i labels) (below 4) && list_all (label_test i labels) (below 5))

passed : (f : Facet) → f.missing < 5 → facet_test f.missing f.labels ≡ true → IsFacet f
unfolding facet_test vertex_test label_test
passed f limited h =
    let p = both_true (length f.labels == 4) (list_all (vertex_test f.missing f.labels) (below 4) && list_all (label_test f.missing f.labels) (below 5)) h in
    let q = both_true (list_all (vertex_test f.missing f.labels) (below 4)) (list_all (label_test f.missing f.labels) (below 5)) p.1 in
    record {
      missing_below = limited;
      four_labels = eqb-true (length f.labels) 4 p.0;
      label_below = λ v l. ltb-true (image f.labels v) 5 (vertices q.0 v l).0;
      label_other = λ v l. not_equal (image f.labels v) f.missing (vertices q.0 v l).1;
      vertex_back = λ v l. eqb-true (preimage f.labels (image f.labels v)) v (vertices q.0 v l).2;
      vertex_below = λ l b d. ltb-true (preimage f.labels l) 4 (labels q.1 l b d).0;
      label_back = λ l b d. eqb-true (image f.labels (preimage f.labels l)) l (labels q.1 l b d).1;
    }
  where
    vertices : list_all (vertex_test f.missing f.labels) (below 4) ≡ true → (v : ℕ) → v < 4
        → (nat_lt (image f.labels v) 5 ≡ true) × (not (image f.labels v == f.missing) ≡ true) × ((preimage f.labels (image f.labels v) == v) ≡ true)
    vertices t v l =
        let a = both_true (nat_lt (image f.labels v) 5) (not (image f.labels v == f.missing) && (preimage f.labels (image f.labels v) == v)) (list_all-below (vertex_test f.missing f.labels) 4 t v l) in
        let b = both_true (not (image f.labels v == f.missing)) (preimage f.labels (image f.labels v) == v) a.1 in
        (a.0, b.0, b.1)

    labels : list_all (label_test f.missing f.labels) (below 5) ≡ true → (l : ℕ) → l < 5 → l ≢ f.missing
        → (nat_lt (preimage f.labels l) 4 ≡ true) × ((image f.labels (preimage f.labels l) == l) ≡ true)
    labels t l b d = pick (or_cases (l == f.missing) (nat_lt (preimage f.labels l) 4 && (image f.labels (preimage f.labels l) == l)) (list_all-below (label_test f.missing f.labels) 5 t l b))
      where
        pick : ((l == f.missing) ≡ true) ⊎ ((nat_lt (preimage f.labels l) 4 && (image f.labels (preimage f.labels l) == l)) ≡ true)
            → (nat_lt (preimage f.labels l) 4 ≡ true) × ((image f.labels (preimage f.labels l) == l) ≡ true)
        pick (inl e) = absurd (d (eqb-true l f.missing e))
        pick (inr e) = both_true (nat_lt (preimage f.labels l) 4) (image f.labels (preimage f.labels l) == l) e

-- a new facet
new_tests : (i : ℕ) → i < 5 → facet_test i (filter (λ l. not (l == i)) (below 5)) ≡ true
unfolding facet_test vertex_test label_test preimage
new_tests i b = list_all-below (λ k. facet_test k (filter (λ l. not (l == k)) (below 5))) 5 refl i b

pub new_is_facet : (rows : List Row) (m : Move) (j : ℕ) → j < 5 → IsFacet (new_facet rows m j)
new_is_facet rows m j l = passed (new_facet rows m j) l (new_tests j l)

-- a permutation labels a facet whose missing label is 4
pub permuted : (t : ℕ) (p : List ℕ) → IsPermutationOfFour p → IsFacet (record { tet = t; missing = 4; labels = p })
permuted t p h =
    facet_from (record { tet = t; missing = 4; labels = p }) (preimage p) (omega arith) (length-permutation p h) (λ v l. (let b = image_below p h v l in omega arith)) (λ v l e. absurd (let b = image_below p h v l in omega arith))
    (λ v l. preimage-image p h v l) (λ l b d. preimage_below p h l (below_four l b d)) (λ l b d. image-preimage p h l (below_four l b d))
  where
    below_four : (l : ℕ) → l < 5 → l ≢ 4 → l < 4
    below_four l b d = by_case (cases_eq l 4)
      where
        by_case : (l ≡ 4) ⊎ (l ≢ 4) → l < 4
        by_case (inl e) = absurd (d e)
        by_case (inr e) = grind arith

pub core_some : (core : List ℕ) → IsCore core → 0 < length core
core_some core h = (core_size core h).0

pub core_few : (core : List ℕ) → IsCore core → length core < 5
core_few core h = (core_size core h).1

pub own_is_facet : (m : Move) → IsCore m.core → IsFacet (own_facet m)
own_is_facet m h = permuted m.tet (inverse (vertices_by_label m.core)) (own_permutes m.core h)

-- the labels of the facet across a face of the move's tetrahedron
behind_at : (own : Facet) (i : ℕ) (g : Gluing) (v : ℕ) → v < 4 → image (facet_across own i g).labels v ≡ substitute i 4 (image own.labels (preimage g.perm v))
behind_at own i g zero l = refl
behind_at own i g (suc zero) l = refl
behind_at own i g (suc (suc zero)) l = refl
behind_at own i g (suc (suc (suc zero))) l = refl
behind_at own i g (suc (suc (suc (suc v)))) l = absurd (omega arith)

pub behind_is_facet : (own : Facet) (i : ℕ) (g : Gluing) → IsFacet own → own.missing ≡ 4 → i < 4 → IsPermutationOfFour g.perm → IsFacet (facet_across own i g)
behind_is_facet own i g O four_missing small h =
    facet_from (facet_across own i g) (λ l. image g.perm (vertex_of own (substitute 4 i l))) (omega arith) refl
    (λ v l. (let e = behind_at own i g v l in let b = goes_below 4 i (label v) (omega arith) (O.label_below (preimage g.perm v) (back v l)) in omega arith))
    (λ v l e. goes_other 4 i (label v) (λ q. absurd (omega arith)) (sym (behind_at own i g v l) ∙ e))
    (λ v l. ap (λ k. image g.perm (vertex_of own (substitute 4 i k))) (behind_at own i g v l) ∙ ap (λ k. image g.perm (vertex_of own k)) (in_place-back 4 i (label v) (other v l))
    ∙ ap (image g.perm) (O.vertex_back (preimage g.perm v) (back v l)) ∙ image-preimage g.perm h v l)
    (λ l b d. image_below g.perm h (vertex_of own (substitute 4 i l)) (inside l b d))
    (λ l b d. behind_at own i g (image g.perm (vertex_of own (substitute 4 i l))) (image_below g.perm h (vertex_of own (substitute 4 i l)) (inside l b d))
    ∙ ap (λ v. substitute i 4 (image own.labels v)) (preimage-image g.perm h (vertex_of own (substitute 4 i l)) (inside l b d))
    ∙ ap (substitute i 4) (O.label_back (substitute 4 i l) (goes_below i 4 l (omega arith) b) (not_four l d)) ∙ in_place-back i 4 l d)
  where
    label : ℕ → ℕ
    label v = image own.labels (preimage g.perm v)

    back : (v : ℕ) → v < 4 → preimage g.perm v < 4
    back v l = preimage_below g.perm h v l

    other : (v : ℕ) → v < 4 → label v ≢ 4
    other v l e = O.label_other (preimage g.perm v) (back v l) (e ∙ sym four_missing)

    not_four : (l : ℕ) → l ≢ i → substitute 4 i l ≢ own.missing
    not_four l d e = goes_other i 4 l (λ q. absurd (omega arith)) (e ∙ four_missing)

    inside : (l : ℕ) → l < 5 → l ≢ i → vertex_of own (substitute 4 i l) < 4
    inside l b d = O.vertex_below (substitute 4 i l) (goes_below i 4 l (omega arith) b) (not_four l d)

-- the move's tetrahedron is glued to the facet across its face label by label
pub behind_glued : (own : Facet) (i : ℕ) (g : Gluing) → IsFacet own → own.missing ≡ 4 → i < 4 → IsPermutationOfFour g.perm → g.perm ≡ label_by_label own (facet_across own i g)
behind_glued own i g O four_missing small h =
    by_is own (facet_across own i g) g.perm O (behind_is_facet own i g O four_missing small h) (λ e. absurd (let q : 4 ≡ i = sym four_missing ∙ e in omega arith)) h (λ v l. image_below g.perm h v l)
    (λ v l. behind_at own i g (image g.perm v) (image_below g.perm h v l) ∙ ap (λ w. substitute i 4 (image own.labels w)) (preimage-image g.perm h v l) ∙ ap (λ k. substitute i k (image own.labels v)) (sym four_missing))
