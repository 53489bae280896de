-- The replacement, under the inverse move, of a tetrahedron of the new table that replaces an old one.
use Rattle.std.proofs.Common.{◌≡◌, ℕ, ◌+◌, ◌-◌, ◌<◌, ◌≤◌, Bool, true, false, List, [], ◌∷◌, length, map, Option, Some, None, refl, sym, ap, ◌∙◌, subst, arith, inl, inr}
use Rattle.std.specs.Prelude.{◌⊎◌, ◌==◌, ◌||◌, ◌≢◌, nat_lt, not}
use Rattle.std.specs.List.{list_all}
use Rattle.std.proofs.lemmas.List.Sums.{sum_by-cons}
use Rattle.std.proofs.lemmas.Bool.{eq-eqb, le-ltb, cases_lt}
use Rattle.basic_lemmas.proofs.Numbers.{given_apart}
use Rattle.basic_lemmas.proofs.Truths.{one_if}
use Rattle.table_definitions.specs.Lists.{below, has, same_list, substitute, rank_without}
use Rattle.table_definitions.specs.Permutation.{IsPermutationOfFour, is_permutation, image, preimage, identity, compose}
use Rattle.table_definitions.specs.Table.{Gluing, Row, Face, glue, other_side, inverse_gluing, IsTable}
use Rattle.table_definitions.specs.Relabelling.{face_under}
use Rattle.move_definitions.specs.Moves.{Move, IsCore, Facet, opposite, facet, kept, kept_place_after, facet_place_after, place_after, facet_gluing, old_tets}
use Rattle.move_definitions.proofs.StandIns.{facet_image_after-new, facet_image_after-old, image_after-kept}
use Rattle.table_definitions.proofs.ListFacts.{list_all-below, same_list-true}
use Rattle.table_definitions.proofs.Permutations.{image_below, preimage-image, image-inverse, identity_permutes}
use Rattle.table_definitions.specs.Replaceable.{gone_before}
use Rattle.table_definitions.proofs.InPlace.{in_place-same}
use Rattle.table_definitions.proofs.Faces.{face_at}
use Rattle.move_laws.proofs.ListedFacets.{same_some}
use Rattle.move_laws.proofs.Labels.{AreLabels, ascending, new_labels, on_labels, label_tests, HasLabel, label_at, HasVertex, vertex_at, length-labels, image-map}
use Rattle.move_laws.proofs.Legal.{IsFacet, facet_is, HasNoFault, no_fault, OldFacet, old_tet_facet, old_facet}
use Rattle.move_laws.proofs.Covered.{image_after-old, crossed}
use Rattle.move_laws.proofs.Matched.{AreGlued, old_glued, label_across}
use Rattle.move_laws.proofs.Renamed.{renamed, renamed-old, renamed-new, renamed_below, new_as_old_labels, renamed_labels, given_le, given_lt}
use Rattle.move_laws.proofs.InverseFacets.{inverse_of, new_as_old, IsPlayed, facet-inverse, IsNewLabel, new_label, inverse_legal}
use Rattle.move_laws.proofs.Placed.{moved_perm, place, facet_place, place-kept, place-old, closed_up_small}

-- the map of the vertices of facet i to those of the new facet j

abbrev pub crossing : ℕ → ℕ → List ℕ → List ℕ
crossing i j labels = map (λ l. preimage (ascending j) (substitute j i l)) labels

crossing_test : ℕ → List ℕ → Bool
crossing_test i labels = list_all (λ j. (j == i) || is_permutation (crossing i j labels)) (below 5)

pub crossing_permutes : (i j : ℕ) (labels : List ℕ) → AreLabels i labels → j < 5 → j ≢ i → IsPermutationOfFour (crossing i j labels)
crossing_permutes i j labels h l d =
    given_apart j i (is_permutation (crossing i j labels)) (list_all-below (λ j. (j == i) || is_permutation (crossing i j labels)) 5 (unfold crossing_test in on_labels crossing_test tests i labels h) j l) d
  where
    tests : label_tests crossing_test ≡ true
    tests = unfold crossing_test is_permutation preimage in refl

-- the map to the new facet j, followed by that to a facet of the inverse
twice_same : ℕ → ℕ → ℕ → List ℕ → Bool
twice_same s j i labels = same_list (compose (crossing (renamed s j) (i - s) (new_as_old_labels s j)) (crossing i j labels)) (moved_perm s i labels)

twice_test : ℕ → List ℕ → Bool
twice_test i labels = list_all (λ s. nat_lt i s || list_all (λ j. not (nat_lt j s) || twice_same s j i labels) (below 5)) (below 5)

pub crossed_twice : (s i j : ℕ) (labels : List ℕ) → AreLabels i labels → s < 5 → s ≤ i → j < s → compose (crossing (renamed s j) (i - s) (new_as_old_labels s j)) (crossing i j labels) ≡ moved_perm s i labels
crossed_twice s i j labels h small low less = same_list-true (compose (crossing (renamed s j) (i - s) (new_as_old_labels s j)) (crossing i j labels)) (moved_perm s i labels) (unfold twice_same in found)
  where
    tests : label_tests twice_test ≡ true
    tests = unfold twice_test twice_same renamed preimage compose in refl

    all : list_all (λ s. nat_lt i s || list_all (λ j. not (nat_lt j s) || twice_same s j i labels) (below 5)) (below 5) ≡ true
    all = unfold twice_test in on_labels twice_test tests i labels h

    found : twice_same s j i labels ≡ true
    found =
        given_lt j s (twice_same s j i labels)
        (list_all-below (λ j. not (nat_lt j s) || twice_same s j i labels) 5
        (given_le s i (list_all (λ j. not (nat_lt j s) || twice_same s j i labels) (below 5)) (list_all-below (λ s. nat_lt i s || list_all (λ j. not (nat_lt j s) || twice_same s j i labels) (below 5)) 5 all s small) low) j (omega arith)) less

-- the tetrahedra that the inverse removes come after those that it retains

inverse_fine : (old : List Row) (m : Move) (new : List Row) → IsPlayed old m new → HasNoFault new (inverse_of old m)
inverse_fine old m new p = no_fault new (inverse_of old m) (inverse_legal old m new p)

pub kept-inverse : (old : List Row) (m : Move) (new : List Row) → IsPlayed old m new → kept new (inverse_of old m) ≡ kept old m
kept-inverse old m new p = let some = p.some in let limited = p.limited in let fits = p.fits in omega (arith, p.moved.length_is, p.inverse_core.size)

old_tets_high : (old : List Row) (m : Move) (new : List Row) → IsPlayed old m new → (u : ℕ) → has (old_tets new (inverse_of old m)) u ≡ true → kept old m ≤ u
old_tets_high old m new p u h =
    let o : OldFacet new (inverse_of old m) u = old_tet_facet new (inverse_of old m) u p.inverse_core.is_core h in
    let low : 5 - length m.core ≤ o.label = subst (λ k. k ≤ o.label) p.inverse_core.size o.low in
    let n : IsNewLabel old m new o.label = new_label old m new p o.label low o.high in
    let is : o.facet_of ≡ new_as_old old m n.label = same (facet new (inverse_of old m) o.label) o.facet_of (new_as_old old m n.label) o.is n.facet_is in
    let t : kept old m + n.label ≡ u = sym (ap (λ (f : Facet). f.tet) is) ∙ o.tet in
    omega arith
  where
    same : (o : Option Facet) (f g : Facet) → o ≡ Some f → o ≡ Some g → f ≡ g
    same o f g e k = cc

none_before : (xs : List ℕ) (t : ℕ) → ((u : ℕ) → has xs u ≡ true → t ≤ u) → gone_before xs t ≡ 0
none_before [] t high = refl
none_before (x ∷ xs) t high =
    let a : gone_before (x ∷ xs) t ≡ one_if (nat_lt x t) + gone_before xs t = sum_by-cons (λ u. one_if (nat_lt u t)) x xs in
    let here : has (x ∷ xs) x ≡ true = (let e : (x == x) ≡ true = eq-eqb x x refl in ap (λ b. b || has xs x) e) in
    let b : one_if (nat_lt x t) ≡ 0 = ap one_if (le-ltb x t (high x here)) in
    omega (arith, none_before xs t (λ u h. high u (let h' : has xs u ≡ true = h in grind arith)))

pub stays_low : (old : List Row) (m : Move) (new : List Row) → IsPlayed old m new → (u : ℕ) → u < kept old m → has (old_tets new (inverse_of old m)) u ≡ false
stays_low old m new p u l = by_test (has (old_tets new (inverse_of old m)) u) refl
  where
    by_test : (b : Bool) → has (old_tets new (inverse_of old m)) u ≡ b → has (old_tets new (inverse_of old m)) u ≡ false
    by_test false e = e
    by_test true e = absurd (let high = old_tets_high old m new p u e in omega arith)

pub closed_up_low : (old : List Row) (m : Move) (new : List Row) → IsPlayed old m new → (u : ℕ) → u < kept old m → rank_without (old_tets new (inverse_of old m)) u ≡ u
closed_up_low old m new p u l =
    omega (arith, none_before (old_tets new (inverse_of old m)) u (λ v h. (let high = old_tets_high old m new p v h in omega arith)))

-- the replacement, under the inverse move, of what replaces the tetrahedron of x
pub record StandsAgain (old : List Row) (m : Move) (new : List Row) (x : Face) (s : Gluing) : Type 0 where
  pub second : Gluing
  pub occurs : place_after new (inverse_of old m) (face_under s x) ≡ Some second
  pub tet : second.tet ≡ (place old m x.tet).tet
  pub perm : compose second.perm s.perm ≡ (place old m x.tet).perm
  pub first_permutes : IsPermutationOfFour s.perm
  pub second_permutes : IsPermutationOfFour second.perm

identity_twice : compose identity identity ≡ identity
unfolding compose
identity_twice = refl

again-kept : (old : List Row) (m : Move) (new : List Row) → IsPlayed old m new → (x : Face) → x.tet < length old → x.face < 4 → has (old_tets old m) x.tet ≡ false → StandsAgain old m new x (kept_place_after old m x.tet)
again-kept old m new p x lt lf e = record {
  second = kept_place_after new (inverse_of old m) u;
  occurs = image_after-kept new (inverse_of old m) (face_under (kept_place_after old m x.tet) x) (stays_low old m new p u small);
  tet = closed_up_low old m new p u small ∙ sym (ap (λ (g : Gluing). g.tet) (place-kept old m x.tet e));
  perm = identity_twice ∙ sym (ap (λ (g : Gluing). g.perm) (place-kept old m x.tet e));
  first_permutes = identity_permutes;
  second_permutes = identity_permutes;
}
  where
    u : ℕ
    u = rank_without (old_tets old m) x.tet

    small : u < kept old m
    small = closed_up_small old m x.tet p.table (no_fault old m p.moved.legal) p.core lt e

-- the face of old facet i opposite label j, replaced by a face of new facet j
again-new : (old : List Row) (m : Move) (new : List Row) → IsPlayed old m new → (i j : ℕ) (f : Facet) → length m.core ≤ i → i < 5 → j < length m.core → facet old m i ≡ Some f → IsFacet old i f
    → StandsAgain old m new (face_at f.tet (preimage f.labels j)) (facet_gluing old m f j)
again-new old m new p i j f low high less e is = record {
  second = facet_gluing new (inverse_of old m) (new_as_old old m j) (i - s);
  occurs = ap (λ v. place_after new (inverse_of old m) (face_at (kept old m + j) v)) (crossed old m i j f is small separate) ∙ there;
  tet = ap (λ k. k + (i - s)) (kept-inverse old m new p) ∙ sym (ap (λ (g : Gluing). g.tet) at);
  perm = ap (λ k. compose (crossing (renamed s j) (i - s) (new_as_old_labels s j)) (crossing k j f.labels)) is.missing ∙ crossed_twice s i j f.labels is.labels limited low less ∙ sym (ap (λ (g : Gluing). g.perm) at);
  first_permutes = (let Permutes : ℕ → Type 0 = λ k. IsPermutationOfFour (crossing k j f.labels) in subst Permutes (sym is.missing) (crossing_permutes i j f.labels is.labels small separate));
  second_permutes = crossing_permutes (renamed s j) (i - s) (new_as_old_labels s j) (renamed_labels s j limited small) (omega arith) behind;
}
  where
    s : ℕ
    s = length m.core

    limited : length m.core < 5
    limited = p.limited

    small : j < 5
    small = omega arith

    separate : j ≢ i
    separate = λ e. absurd (omega arith)

    at : place old m f.tet ≡ facet_place old m i f.labels
    at = place-old old m i f p.table (no_fault old m p.moved.legal) p.core low high e

    behind : i - s ≢ renamed s j
    behind = λ e. (let r : 5 - s ≤ renamed s j = renamed-new s j p.limited less in absurd (omega arith))

    -- the label i, renamed
    label : image (new_as_old_labels s j) (preimage (ascending j) i) ≡ i - s
    label =
        let v : HasVertex (ascending j) i = vertex_at j (ascending j) (new_labels j small) i high (λ e. absurd (omega arith)) in
        image-map (renamed s) (ascending j) (preimage (ascending j) i) (rw (length-labels j (ascending j) (new_labels j small)) v.small) ∙ ap (renamed s) v.label ∙ renamed-old s i low

    there : place_after new (inverse_of old m) (face_at (kept old m + j) (preimage (ascending j) i)) ≡ Some (facet_gluing new (inverse_of old m) (new_as_old old m j) (i - s))
    there =
        image_after-old new (inverse_of old m) (renamed s j) (new_as_old old m j) (preimage (ascending j) i) (inverse_fine old m new p) p.inverse_core.is_core (rw p.inverse_core.size (renamed-new s j p.limited less)) (renamed_below s j p.limited small) (facet-inverse old m new p j less)
        ∙ ap (facet_place_after new (inverse_of old m) (new_as_old old m j)) label
        ∙ facet_image_after-new new (inverse_of old m) (new_as_old old m j) (i - s) (rw p.inverse_core.size (omega arith))

-- a face of an old facet that is replaced in the new table has the label of a new facet
pub record HasNewLabel (old : List Row) (m : Move) (f : Facet) (v : ℕ) (s : Gluing) : Type 0 where
  pub small : image f.labels v < length m.core
  pub is : s ≡ facet_gluing old m f (image f.labels v)

pub has_new_label : (old : List Row) (m : Move) (i : ℕ) (f : Facet) (v : ℕ) (s : Gluing) → HasNoFault old m → IsCore m.core → length m.core ≤ i → i < 5 → facet old m i ≡ Some f → place_after old m (face_at f.tet v) ≡ Some s → HasNewLabel old m f v s
has_new_label old m i f v s h c low high e occurs = by_size (cases_lt (image f.labels v) (length m.core))
  where
    here : facet_place_after old m f (image f.labels v) ≡ Some s
    here = sym (image_after-old old m i f v h c low high e) ∙ occurs

    none : (o : Option Gluing) → o ≡ None → o ≡ Some s → ⊥
    none o a b = cc

    by_size : (image f.labels v < length m.core) ⊎ (length m.core ≤ image f.labels v) → HasNewLabel old m f v s
    by_size (inl l) = record { small = l; is = same_some (facet_place_after old m f (image f.labels v)) s (facet_gluing old m f (image f.labels v)) here (facet_image_after-new old m f (image f.labels v) l) }
    by_size (inr g) = absurd (none (facet_place_after old m f (image f.labels v)) (facet_image_after-old old m f (image f.labels v) g) here)

pub stands_again : (old : List Row) (m : Move) (new : List Row) → IsPlayed old m new → (x : Face) (s : Gluing) → x.tet < length old → x.face < 4 → place_after old m x ≡ Some s → StandsAgain old m new x s
stands_again old m new p x s lt lf occurs = by_test (has (old_tets old m) x.tet) refl
  where
    h : HasNoFault old m
    h = no_fault old m p.moved.legal

    by_facet : OldFacet old m x.tet → StandsAgain old m new x s
    by_facet o =
        let f : Facet = o.facet_of in
        let is : IsFacet old o.label f = facet_is old m o.label f p.table p.core h.in_range o.high o.is in
        let same : face_at f.tet x.face ≡ x = ap (λ t. face_at t x.face) o.tet in
        let n : HasNewLabel old m f x.face s = has_new_label old m o.label f x.face s h p.core o.low o.high o.is (ap (place_after old m) same ∙ occurs) in
        let there : StandsAgain old m new (face_at f.tet (preimage f.labels (image f.labels x.face))) (facet_gluing old m f (image f.labels x.face)) = again-new old m new p o.label (image f.labels x.face) f o.low o.high n.small o.is is in
        let face : face_at f.tet (preimage f.labels (image f.labels x.face)) ≡ x = ap (face_at f.tet) (label_at o.label f.labels is.labels x.face lf).vertex ∙ same in
        subst (λ (g : Gluing). StandsAgain old m new x g) (sym n.is) (subst (λ (y : Face). StandsAgain old m new y (facet_gluing old m f (image f.labels x.face))) face there)

    by_test : (b : Bool) → has (old_tets old m) x.tet ≡ b → StandsAgain old m new x s
    by_test false e = subst (λ (g : Gluing). StandsAgain old m new x g) (same_some (place_after old m x) (kept_place_after old m x.tet) s (image_after-kept old m x e) occurs) (again-kept old m new p x lt lf e)
    by_test true e = by_facet (old_tet_facet old m x.tet p.core e)

-- if a face is replaced in the new table, so is the face that it is glued to

pub other_stands : (old : List Row) (m : Move) → IsTable old → HasNoFault old m → IsCore m.core → (x : Face) (s g : Gluing) → x.face < 4 → place_after old m x ≡ Some s → glue old x ≡ Some g
    → (r : Gluing) × (place_after old m (other_side x g) ≡ Some r)
other_stands old m table h c x s g lf occurs glued = by_test (has (old_tets old m) g.tet) refl
  where
    y : Face
    y = other_side x g

    hp : IsPermutationOfFour g.perm
    hp = table.permutes x g glued

    yf : y.face < 4
    yf = image_below g.perm hp x.face lf

    -- a face between two old facets is not replaced
    never : (k l : ℕ) (f f' : Facet) → length m.core ≤ k → k < 5 → length m.core ≤ l → l < 5 → facet old m k ≡ Some f → facet old m l ≡ Some f' → IsFacet old k f → IsFacet old l f' → f.tet ≡ g.tet → image f.labels y.face ≡ l → ⊥
    never k l f f' low high low' high' ef ef' is is' t label =
        let here : HasLabel k f.labels y.face = label_at k f.labels is.labels y.face yf in
        let separate : k ≢ l = λ e. here.present (label ∙ sym e) in
        let a : AreGlued old k l f f' = old_glued old m k l f f' table h c low high low' high' separate ef ef' in
        let face : opposite f l ≡ y = ap (face_at f.tet) (ap (preimage f.labels) (sym label) ∙ here.vertex) ∙ ap (λ u. face_at u y.face) t in
        let back : a.by ≡ inverse_gluing x g = same_some (glue old y) a.by (inverse_gluing x g) (ap (glue old) (sym face) ∙ a.glued) (table.leads_back x g glued) in
        let tets : f'.tet ≡ x.tet = sym a.tet ∙ ap (λ (b : Gluing). b.tet) back in
        let to : image a.by.perm y.face ≡ x.face = ap (λ (b : Gluing). image b.perm y.face) back ∙ image-inverse g.perm y.face yf ∙ preimage-image g.perm hp x.face lf in
        let across : image f'.labels (image a.by.perm y.face) ≡ substitute l k (image f.labels y.face) =
        label_across k l f.labels f'.labels a.by.perm y.face is.labels (table.permutes (opposite f l) a.by a.glued) a.labels yf in
        let there : image f'.labels x.face ≡ k = ap (image f'.labels) (sym to) ∙ across ∙ ap (substitute l k) label ∙ in_place-same l k l refl in
        let n : HasNewLabel old m f' x.face s = has_new_label old m l f' x.face s h c low' high' ef' (ap (λ u. place_after old m (face_at u x.face)) tets ∙ occurs) in
        let small = n.small in
        absurd (omega arith)

    by_facet : OldFacet old m g.tet → (r : Gluing) × (place_after old m y ≡ Some r)
    by_facet o = by_size (cases_lt (image f.labels y.face) (length m.core))
      where
        f : Facet
        f = o.facet_of

        is : IsFacet old o.label f
        is = facet_is old m o.label f table c h.in_range o.high o.is

        at : place_after old m y ≡ facet_place_after old m f (image f.labels y.face)
        at = ap (λ u. place_after old m (face_at u y.face)) (sym o.tet) ∙ image_after-old old m o.label f y.face h c o.low o.high o.is

        by_size : (image f.labels y.face < length m.core) ⊎ (length m.core ≤ image f.labels y.face) → (r : Gluing) × (place_after old m y ≡ Some r)
        by_size (inl l) = (facet_gluing old m f (image f.labels y.face), at ∙ facet_image_after-new old m f (image f.labels y.face) l)
        by_size (inr l) =
            let here : HasLabel o.label f.labels y.face = label_at o.label f.labels is.labels y.face yf in
            let other : (f' : Facet) × (facet old m (image f.labels y.face) ≡ Some f') = old_facet old m (image f.labels y.face) h c l here.small in
            absurd (never o.label (image f.labels y.face) f other.0 o.low o.high l here.small o.is other.1 is (facet_is old m (image f.labels y.face) other.0 table c h.in_range here.small other.1) o.tet refl)

    by_test : (b : Bool) → has (old_tets old m) g.tet ≡ b → (r : Gluing) × (place_after old m y ≡ Some r)
    by_test false e = (kept_place_after old m g.tet, image_after-kept old m y e)
    by_test true e = by_facet (old_tet_facet old m g.tet c e)
