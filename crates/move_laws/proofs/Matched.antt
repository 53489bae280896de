-- The old facets of a legal move are glued among themselves label by label.
use Rattle.std.proofs.Common.{◌≡◌, ℕ, zero, suc, ◌<◌, ◌≤◌, Bool, true, false, List, length, map, Option, Some, None, refl, sym, ap, ◌∙◌, subst, arith, inl, inr}
use Rattle.std.specs.Prelude.{◌⊎◌, ◌==◌, ◌≢◌, nat_lt, filter, option_map, if◌then◌else◌}
use Rattle.std.proofs.lemmas.Bool.{eqb-true, lt-ltb, and_parts, cases_lt}
use Rattle.std.proofs.lemmas.List.{ext_get_or, get_or-map, length-map}
use Rattle.table_definitions.specs.Lists.{same_list, substitute, pairs_of}
use Rattle.table_definitions.specs.Permutation.{four, IsPermutationOfFour, image, preimage, inverse, compose}
use Rattle.table_definitions.specs.Table.{Gluing, Row, glue, other_side, inverse_gluing, IsTable}
use Rattle.table_definitions.proofs.TableLaws.{Among, Among-pairs, first_some-none}
use Rattle.move_definitions.specs.declared.MoveFault.{MoveFault}
use Rattle.move_definitions.specs.declared.MoveFault.TheVariants.{NotMatched}
use Rattle.move_definitions.specs.Moves.{Move, IsCore, Facet, own_facet, opposite, facet_across, facet, found_labels, is_matched, pair_fault, vertices_by_label}
use Rattle.table_definitions.proofs.ListFacts.{same_list-true}
use Rattle.table_definitions.proofs.Permutations.{image_below, preimage_below, image-preimage, preimage-image, image-inverse, inverse_permutes, length-permutation}
use Rattle.table_definitions.proofs.Listed.{Among-filter}
use Rattle.table_definitions.proofs.InPlace.{in_place-back, in_place-same}
use Rattle.table_definitions.proofs.Faces.{face_at}
use Rattle.move_definitions.proofs.CoreTests.{core_size, own_permutes}
use Rattle.move_laws.proofs.Labels.{AreLabels, label_at, HasVertex, vertex_at, length-labels, image-map}
use Rattle.move_laws.proofs.Legal.{IsFacet, facet_is, HasNoFault, found_label, facet-found}

-- the face of f opposite label k is glued to g; label k is mapped to label i, and the others to themselves
pub record AreGlued (rows : List Row) (i k : ℕ) (f g : Facet) : Type 0 where
  pub by : Gluing
  pub glued : glue rows (opposite f k) ≡ Some by
  pub tet : by.tet ≡ g.tet
  pub labels : compose g.labels by.perm ≡ map (substitute k i) f.labels

-- lists of four with the same elements
pub same_four : (xs ys : List ℕ) → length xs ≡ 4 → length ys ≡ 4 → ((v : ℕ) → v < 4 → image xs v ≡ image ys v) → xs ≡ ys
same_four xs ys a b same = ext_get_or 0 xs ys (a ∙ sym b) (λ v l. same v (omega arith))

pub image-composed : (p q : List ℕ) (v : ℕ) → v < length q → image (compose p q) v ≡ image p (image q v)
unfolding compose
image-composed p q v l = get_or-map (image p) q v 0 0 l

pub length-composed : (p q : List ℕ) → length (compose p q) ≡ length q
unfolding compose
length-composed p q = length-map q (image p)

pub image-four : (h : ℕ → ℕ) (v : ℕ) → v < 4 → image (map h four) v ≡ h v
image-four h zero l = refl
image-four h (suc zero) l = refl
image-four h (suc (suc zero)) l = refl
image-four h (suc (suc (suc zero))) l = refl
image-four h (suc (suc (suc (suc v)))) l = absurd (omega arith)

-- between the facet of the move's tetrahedron and one across a face

behind_glued : (k : ℕ) (q p : List ℕ) → IsPermutationOfFour q → IsPermutationOfFour p → compose (map (λ v. substitute k 4 (image q (preimage p v))) four) p ≡ map (substitute k 4) q
behind_glued k q p hq hp =
    same_four (compose b p) (map (substitute k 4) q) (length-composed b p ∙ length-permutation p hp) (length-map q (substitute k 4) ∙ length-permutation q hq)
    (λ v l. image-composed b p v (rw (length-permutation p hp) l)
    ∙ image-four (λ v. substitute k 4 (image q (preimage p v))) (image p v) (image_below p hp v l)
    ∙ ap (λ w. substitute k 4 (image q w)) (preimage-image p hp v l)
    ∙ sym (image-map (substitute k 4) q v (rw (length-permutation q hq) l)))
  where
    b : List ℕ
    b = map (λ v. substitute k 4 (image q (preimage p v))) four

from_behind : (rows : List Row) (m : Move) (k : ℕ) (o : Option Gluing) (f : Facet) → IsTable rows → IsCore m.core → glue rows (opposite (own_facet m) k) ≡ o → option_map (facet_across (own_facet m) k) o ≡ Some f → AreGlued rows 4 k (own_facet m) f
from_behind rows m k None f table c g e = absurd cc
from_behind rows m k (Some by) f table c g e =
    let is : facet_across (own_facet m) k by ≡ f = cc in
    let own : AreGlued rows 4 k (own_facet m) (facet_across (own_facet m) k by) = record {
      by = by;
      glued = g;
      tet = refl;
      labels = behind_glued k (inverse (vertices_by_label m.core)) by.perm (own_permutes m.core c) (table.permutes (opposite (own_facet m) k) by g);
    } in
    subst (λ (x : Facet). AreGlued rows 4 k (own_facet m) x) is own

own_glued : (rows : List Row) (m : Move) (k : ℕ) (f : Facet) → IsTable rows → IsCore m.core → k < 4 → facet rows m k ≡ Some f → AreGlued rows 4 k (own_facet m) f
own_glued rows m k f table c l e = from_behind rows m k (glue rows (opposite (own_facet m) k)) f table c refl (sym (facet-found rows m k l) ∙ e)

-- between facets across faces, the smaller label first

is_glued : (rows : List Row) (i k : ℕ) (f g : Facet) (o : Option Gluing) → f.missing ≡ i → g.missing ≡ k → glue rows (opposite f g.missing) ≡ o → is_matched f g o ≡ true → AreGlued rows i k f g
is_glued rows i k f g None ei ek e t = cc
is_glued rows i k f g (Some by) ei ek e t =
    let p : ((by.tet == g.tet) ≡ true) × (same_list (compose g.labels by.perm) (map (substitute g.missing f.missing) f.labels) ≡ true) = and_parts (by.tet == g.tet) (same_list (compose g.labels by.perm) (map (substitute g.missing f.missing) f.labels)) t in
    record {
      by = by;
      glued = ap (λ l. glue rows (opposite f l)) (sym ek) ∙ e;
      tet = eqb-true by.tet g.tet p.0;
      labels = same_list-true (compose g.labels by.perm) (map (substitute g.missing f.missing) f.labels) p.1 ∙ ap (λ l. map (substitute l f.missing) f.labels) ek ∙ ap (λ l. map (substitute k l) f.labels) ei;
    }

allowed : (b : Bool) (e : MoveFault) → (if b then None else Some e) ≡ None → b ≡ true
allowed true e h = refl
allowed false e h = absurd cc

found_glued : (rows : List Row) (m : Move) (i k : ℕ) (f g : Facet) → IsTable rows → HasNoFault rows m → IsCore m.core → length m.core ≤ i → i < k → k < 4 → facet rows m i ≡ Some f → facet rows m k ≡ Some g → AreGlued rows i k f g
found_glued rows m i k f g table h c low less high ef eg =
    let size : length m.core < 5 = (core_size m.core c).1 in
    let is : IsFacet rows i f = facet_is rows m i f table c h.in_range (omega arith) ef in
    let is' : IsFacet rows k g = facet_is rows m k g table c h.in_range (omega arith) eg in
    let among : Among {A = ℕ × ℕ} (i, k) (filter (λ (p : ℕ × ℕ). nat_lt p.0 p.1) (pairs_of (found_labels m) (found_labels m))) =
    Among-filter (λ (p : ℕ × ℕ). nat_lt p.0 p.1) (i, k) (pairs_of (found_labels m) (found_labels m))
    (Among-pairs i k (found_labels m) (found_labels m) (found_label (length m.core) i size low (omega arith)) (found_label (length m.core) k size (omega arith) high)) (lt-ltb i k less) in
    let none : pair_fault rows (facet rows m i) (facet rows m k) ≡ None =
    first_some-none (λ (p : ℕ × ℕ). pair_fault rows (facet rows m p.0) (facet rows m p.1)) (i, k) (filter (λ (p : ℕ × ℕ). nat_lt p.0 p.1) (pairs_of (found_labels m) (found_labels m))) h.pairs among in
    let here : pair_fault rows (Some f) (Some g) ≡ None = ap (λ (o : Option Facet). pair_fault rows o (Some g)) (sym ef) ∙ ap (λ (o : Option Facet). pair_fault rows (facet rows m i) o) (sym eg) ∙ none in
    is_glued rows i k f g (glue rows (opposite f g.missing)) is.missing is'.missing refl (allowed (is_matched f g (glue rows (opposite f g.missing))) (NotMatched f.missing g.missing) here)

-- between facets across faces, in the other order

turned_labels : (i k : ℕ) (a b p : List ℕ) → AreLabels i a → AreLabels k b → IsPermutationOfFour p → compose b p ≡ map (substitute k i) a → compose a (inverse p) ≡ map (substitute i k) b
turned_labels i k a b p ha hb hp e =
    same_four (compose a (inverse p)) (map (substitute i k) b) (length-composed a (inverse p) ∙ length-permutation (inverse p) (inverse_permutes p hp)) (length-map b (substitute i k) ∙ length-labels k b hb) at
  where
    at : (v : ℕ) → v < 4 → image (compose a (inverse p)) v ≡ image (map (substitute i k) b) v
    at v l =
        let w : ℕ = preimage p v in
        let lw : w < 4 = preimage_below p hp v l in
        let there : image b v ≡ substitute k i (image a w) =
        ap (image b) (sym (image-preimage p hp v l)) ∙ sym (image-composed b p w (rw (length-permutation p hp) lw)) ∙ ap (λ (xs : List ℕ). image xs w) e
        ∙ image-map (substitute k i) a w (rw (length-labels i a ha) lw) in
        image-composed a (inverse p) v (rw (length-permutation (inverse p) (inverse_permutes p hp)) l)
        ∙ ap (image a) (image-inverse p v l)
        ∙ sym (in_place-back i k (image a w) (label_at i a ha w lw).present)
        ∙ ap (substitute i k) (sym there)
        ∙ sym (image-map (substitute i k) b v (rw (length-labels k b hb) l))

pub label_across : (i k : ℕ) (a b p : List ℕ) (v : ℕ) → AreLabels i a → IsPermutationOfFour p → compose b p ≡ map (substitute k i) a → v < 4 → image b (image p v) ≡ substitute k i (image a v)
label_across i k a b p v ha hp e l =
    sym (image-composed b p v (rw (length-permutation p hp) l)) ∙ ap (λ (xs : List ℕ). image xs v) e ∙ image-map (substitute k i) a v (rw (length-labels i a ha) l)

pub glued_back : (rows : List Row) (i k : ℕ) (f g : Facet) → IsTable rows → IsFacet rows i f → IsFacet rows k g → i ≢ k → AreGlued rows i k f g → AreGlued rows k i g f
glued_back rows i k f g table hf hg separate a = record {
  by = inverse_gluing (opposite f k) a.by;
  glued = ap (glue rows) (sym there) ∙ table.leads_back (opposite f k) a.by a.glued;
  tet = refl;
  labels = turned_labels i k f.labels g.labels a.by.perm hf.labels hg.labels hp a.labels;
}
  where
    hp : IsPermutationOfFour a.by.perm
    hp = table.permutes (opposite f k) a.by a.glued

    w : ℕ
    w = preimage f.labels k

    at : HasVertex f.labels k
    at = vertex_at i f.labels hf.labels k hg.labels.missing (λ e. separate (sym e))

    label : image g.labels (image a.by.perm w) ≡ i
    label = label_across i k f.labels g.labels a.by.perm w hf.labels hp a.labels at.small ∙ ap (substitute k i) at.label ∙ in_place-same k i k refl

    vertex : image a.by.perm w ≡ preimage g.labels i
    vertex = sym (label_at k g.labels hg.labels (image a.by.perm w) (image_below a.by.perm hp w at.small)).vertex ∙ ap (preimage g.labels) label

    there : other_side (opposite f k) a.by ≡ opposite g i
    there = ap (λ t. face_at t (image a.by.perm w)) a.tet ∙ ap (face_at g.tet) vertex

-- any two old facets are glued label by label
own_or : (rows : List Row) (m : Move) (i : ℕ) (f : Facet) → 4 ≤ i → i < 5 → facet rows m i ≡ Some f → (i ≡ 4) × (own_facet m ≡ f)
own_or rows m i f low high e = let at : i ≡ 4 = omega arith in let own : facet rows m i ≡ Some (own_facet m) = ap (facet rows m) at in (at, cc)

pub old_glued : (rows : List Row) (m : Move) (i k : ℕ) (f g : Facet) → IsTable rows → HasNoFault rows m → IsCore m.core → length m.core ≤ i → i < 5 → length m.core ≤ k → k < 5 → i ≢ k → facet rows m i ≡ Some f → facet rows m k ≡ Some g → AreGlued rows i k f g
old_glued rows m i k f g table h c low high low' high' separate ef eg = by_size (cases_lt i 4) (cases_lt k 4)
  where
    is : IsFacet rows i f
    is = facet_is rows m i f table c h.in_range high ef

    is' : IsFacet rows k g
    is' = facet_is rows m k g table c h.in_range high' eg

    by_order : i < 4 → k < 4 → (i < k) ⊎ (k ≤ i) → AreGlued rows i k f g
    by_order li lk (inl less) = found_glued rows m i k f g table h c low less lk ef eg
    by_order li lk (inr more) = let less : k < i = omega arith in glued_back rows k i g f table is' is (λ e. separate (sym e)) (found_glued rows m k i g f table h c low' less li eg ef)

    by_size : (i < 4) ⊎ (4 ≤ i) → (k < 4) ⊎ (4 ≤ k) → AreGlued rows i k f g
    by_size (inl li) (inl lk) = by_order li lk (cases_lt i k)
    by_size (inr mi) (inl lk) =
        let own : (i ≡ 4) × (own_facet m ≡ f) = own_or rows m i f mi high ef in
        subst (λ j. AreGlued rows j k f g) (sym own.0) (subst (λ (x : Facet). AreGlued rows 4 k x g) own.1 (own_glued rows m k g table c lk eg))
    by_size (inl li) (inr mk) =
        let own : (k ≡ 4) × (own_facet m ≡ g) = own_or rows m k g mk high' eg in
        let there : AreGlued rows 4 i (own_facet m) f = own_glued rows m i f table c li ef in
        let here : AreGlued rows k i g f = subst (λ j. AreGlued rows j i g f) (sym own.0) (subst (λ (x : Facet). AreGlued rows 4 i x f) own.1 there) in
        glued_back rows k i g f table is' is (λ e. separate (sym e)) here
    by_size (inr mi) (inr mk) = absurd (separate (omega arith))
