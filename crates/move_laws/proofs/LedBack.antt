-- The inverse move results in a relabelling of the old table.
use Rattle.std.proofs.Common.{◌≡◌, ℕ, ◌+◌, ◌-◌, ◌<◌, ◌≤◌, true, List, length, map, Option, Some, None, refl, sym, ap, ◌∙◌, subst, arith, inl, inr}
use Rattle.std.specs.Prelude.{◌⊎◌, ◌==◌, ◌||◌, ◌≢◌, option_map, option_and_then}
use Rattle.std.specs.List.{list_all}
use Rattle.basic_lemmas.proofs.Numbers.{given_apart}
use Rattle.table_definitions.specs.Lists.{below, substitute}
use Rattle.table_definitions.specs.Permutation.{IsPermutationOfFour, is_permutation, image, preimage, inverse, compose}
use Rattle.table_definitions.specs.Table.{Gluing, Row, Face, glue, other_side}
use Rattle.table_definitions.specs.Relabelling.{Carries, relabelled_place, face_under, gluing_under}
use Rattle.move_definitions.specs.Moves.{Move, Facet, opposite, facet, kept, facet_place_after, place_after, moved_gluing, new_facet, IsMoved}
use Rattle.move_definitions.specs.Laws.{InversesHaveCores, InversesLeadBackUpToLabels}
use Rattle.table_definitions.proofs.ListFacts.{list_all-below}
use Rattle.table_definitions.proofs.Permutations.{image_below, preimage_below, image-preimage, preimage-image, image-inverse, inverse_permutes, compose_permutes, image-compose, same_images, carried_twice}
use Rattle.table_definitions.proofs.Faces.{face_at, gluing_to}
use Rattle.move_definitions.proofs.CoreTests.{core_size}
use Rattle.move_definitions.proofs.StandIns.{facet_image_after-old}
use Rattle.move_laws.proofs.ListedFacets.{same_some}
use Rattle.move_laws.proofs.Labels.{AreLabels, ascending, new_labels, HasLabel, label_at, HasVertex, vertex_at, length-labels, image-map}
use Rattle.move_laws.proofs.Legal.{IsFacet, facet_is, HasNoFault, no_fault, old_facet}
use Rattle.move_laws.proofs.Covered.{StandsForOld, IsInner, covered, image_after-old}
use Rattle.move_laws.proofs.Matched.{AreGlued, old_glued, label_across}
use Rattle.move_laws.proofs.Renamed.{renamed, renamed-old, renamed-new, renamed_below, renamed-place, new_as_old_labels, across, inverse_core, renamed_apart}
use Rattle.move_laws.proofs.InverseFacets.{inverse_of, new_as_old, IsPlayed, played, facet-inverse, inverse_legal}
use Rattle.move_laws.proofs.Placed.{moved_perm, moved_perm_permutes, place, facet_place, place-old, relabelling, image_after-placed, is_relabelling, led_back, carries_back}
use Rattle.move_laws.proofs.SecondStand.{kept-inverse, StandsAgain, stands_again, other_stands}

-- the gluings of the relabelled table

carried_at : (old : List Row) (m : Move) (new : List Row) → IsPlayed old m new → (x : Face) → x.tet < length old → x.face < 4 → (o : Option Gluing) → glue old x ≡ o
    → glue (led_back old m) (face_under (place old m x.tet) x) ≡ option_map (λ g. gluing_under (place old m x.tet) (place old m g.tet) g) o
carried_at old m new p x lt lf o e =
    let c : Carries (relabelling old m) old (led_back old m) = carries_back old m p.table (no_fault old m p.moved.legal) p.core in
    let at : relabelled_place (relabelling old m) x.tet ≡ place old m x.tet = image_after-placed old m x.tet lt in
    let here = c.glued x lt lf in
    ap (λ (s : Gluing). glue (led_back old m) (face_under s x)) (sym at) ∙ here ∙ ap (λ (s : Gluing). option_map (λ g. gluing_under s (relabelled_place (relabelling old m) g.tet) g) (glue old x)) at
    ∙ reached o e
  where
    reached : (o : Option Gluing) → glue old x ≡ o → option_map (λ g. gluing_under (place old m x.tet) (relabelled_place (relabelling old m) g.tet) g) (glue old x) ≡ option_map (λ g. gluing_under (place old m x.tet) (place old m g.tet) g) o
    reached None e = ap (option_map (λ g. gluing_under (place old m x.tet) (relabelled_place (relabelling old m) g.tet) g)) e
    reached (Some g) e =
        ap (option_map (λ g. gluing_under (place old m x.tet) (relabelled_place (relabelling old m) g.tet) g)) e
        ∙ ap (λ (r : Gluing). Some (gluing_under (place old m x.tet) r g)) (image_after-placed old m g.tet (p.table.in_range x g e))

-- between the facets that the inverse adds

pub across_permutes : (j l : ℕ) → j < 5 → l < 5 → j ≢ l → IsPermutationOfFour (across j l)
across_permutes j l hj hl d =
    given_apart j l (is_permutation (across j l)) (list_all-below (λ l. (j == l) || is_permutation (across j l)) 5 (list_all-below (λ j. list_all (λ l. (j == l) || is_permutation (across j l)) (below 5)) 5 tests j hj) l hl) d
  where
    tests : list_all (λ j. list_all (λ l. (j == l) || is_permutation (across j l)) (below 5)) (below 5) ≡ true
    tests = unfold is_permutation preimage in refl

-- a gluing label by label, relabelled
moved_across : (s i k : ℕ) (a b q : List ℕ) → s < 5 → s ≤ i → s ≤ k → i ≢ k → AreLabels i a → AreLabels k b → IsPermutationOfFour q → compose b q ≡ map (substitute k i) a
    → compose (moved_perm s k b) (compose q (inverse (moved_perm s i a))) ≡ across (i - s) (k - s)
moved_across s i k a b q small low low' d ha hb hq e =
    same_images (compose pk (compose q (inverse pi))) (across j l) (compose_permutes pk (compose q (inverse pi)) hk (compose_permutes q (inverse pi) hq (inverse_permutes pi hi))) (across_permutes j l (let m = ha.missing in omega arith) (let m = hb.missing in omega arith) (λ z. d (omega arith))) at
  where
    pi : List ℕ
    pi = moved_perm s i a

    pk : List ℕ
    pk = moved_perm s k b

    j : ℕ
    j = i - s

    l : ℕ
    l = k - s

    hi : IsPermutationOfFour pi
    hi = moved_perm_permutes s i a small low ha

    hk : IsPermutationOfFour pk
    hk = moved_perm_permutes s k b small low' hb

    -- the label of the vertex that w is mapped to
    label : (w : ℕ) → w < 4 → image (ascending j) (image pi w) ≡ renamed s (image a w)
    label w lw =
        let h : HasLabel i a w = label_at i a ha w lw in
        let there : renamed s (image a w) ≢ j = renamed_apart s i (image a w) small low ha.missing h.small h.present in
        ap (image (ascending j)) (image-map (λ x. preimage (ascending j) (renamed s x)) a w (rw (length-labels i a ha) lw))
        ∙ (vertex_at j (ascending j) (new_labels j (let m = ha.missing in omega arith)) (renamed s (image a w)) (renamed_below s (image a w) small h.small) there).label

    at : (v : ℕ) → v < 4 → image (compose pk (compose q (inverse pi))) v ≡ image (across j l) v
    at v lv =
        let w : ℕ = preimage pi v in
        let lw : w < 4 = preimage_below pi hi v lv in
        let goes : image pi w ≡ v = image-preimage pi hi v lv in
        let hv : HasLabel i a w = label_at i a ha w lw in
        let is : image (ascending j) v ≡ renamed s (image a w) = ap (image (ascending j)) (sym goes) ∙ label w lw in
        image-compose pk (compose q (inverse pi)) (compose_permutes q (inverse pi) hq (inverse_permutes pi hi)) v lv
        ∙ ap (image pk) (image-compose q (inverse pi) (inverse_permutes pi hi) v lv ∙ ap (image q) (image-inverse pi v lv))
        ∙ image-map (λ x. preimage (ascending l) (renamed s x)) b (image q w) (rw (length-labels k b hb) (image_below q hq w lw))
        ∙ ap (λ x. preimage (ascending l) (renamed s x)) (label_across i k a b q w ha hq e lw)
        ∙ ap (preimage (ascending l)) (renamed-place s i k (image a w) small ha.missing hb.missing hv.small low low')
        ∙ ap (λ x. preimage (ascending l) (substitute l j x)) (sym is)
        ∙ sym (image-map (λ x. preimage (ascending l) (substitute l j x)) (ascending j) v (rw (length-labels j (ascending j) (new_labels j (let m = ha.missing in omega arith))) lv))

-- the face of the facet that replaces old facet i, where it is glued to the one that replaces old facet k
inner_at : (old : List Row) (m : Move) (new : List Row) → IsPlayed old m new → (i k : ℕ) → length m.core ≤ i → i < 5 → length m.core ≤ k → k < 5 → i ≢ k
    → glue (led_back old m) (face_at (kept old m + (i - length m.core)) (preimage (ascending (i - length m.core)) (k - length m.core))) ≡ Some (record { tet = kept old m + (k - length m.core); perm = across (i - length m.core) (k - length m.core) })
inner_at old m new p i k low high low' high' d = ap (glue (led_back old m)) (sym face) ∙ carried_at old m new p x is.in_range vertex.small (Some a.by) a.glued ∙ ap (λ (g : Gluing). Some g) gluing
  where
    s : ℕ
    s = length m.core

    h : HasNoFault old m
    h = no_fault old m p.moved.legal

    first : (f : Facet) × (facet old m i ≡ Some f)
    first = old_facet old m i h p.core low high

    f : Facet
    f = first.0

    other : (f : Facet) × (facet old m k ≡ Some f)
    other = old_facet old m k h p.core low' high'

    g : Facet
    g = other.0

    is : IsFacet old i f
    is = facet_is old m i f p.table p.core h.in_range high first.1

    is' : IsFacet old k g
    is' = facet_is old m k g p.table p.core h.in_range high' other.1

    a : AreGlued old i k f g
    a = old_glued old m i k f g p.table h p.core low high low' high' d first.1 other.1

    vertex : HasVertex f.labels k
    vertex = vertex_at i f.labels is.labels k high' (λ e. d (sym e))

    x : Face
    x = opposite f k

    from : place old m f.tet ≡ facet_place old m i f.labels
    from = place-old old m i f p.table h p.core low high first.1

    to : place old m a.by.tet ≡ facet_place old m k g.labels
    to = ap (place old m) a.tet ∙ place-old old m k g p.table h p.core low' high' other.1

    goes : image (moved_perm s i f.labels) (preimage f.labels k) ≡ preimage (ascending (i - s)) (k - s)
    goes =
        image-map (λ l. preimage (ascending (i - s)) (renamed s l)) f.labels (preimage f.labels k) (rw (length-labels i f.labels is.labels) vertex.small)
        ∙ ap (λ l. preimage (ascending (i - s)) (renamed s l)) vertex.label
        ∙ ap (preimage (ascending (i - s))) (renamed-old s k low')

    face : face_under (place old m f.tet) x ≡ face_at (kept old m + (i - s)) (preimage (ascending (i - s)) (k - s))
    face = ap (λ (q : Gluing). face_under q x) from ∙ ap (face_at (kept old m + (i - s))) goes

    gluing : gluing_under (place old m f.tet) (place old m a.by.tet) a.by ≡ gluing_to (kept old m + (k - s)) (across (i - s) (k - s))
    gluing =
        ap (λ (q : Gluing). gluing_under q (place old m a.by.tet) a.by) from
        ∙ ap (λ (r : Gluing). gluing_under (facet_place old m i f.labels) r a.by) to
        ∙ ap (gluing_to (kept old m + (k - s))) (moved_across s i k f.labels g.labels a.by.perm p.limited low low' d is.labels is'.labels (p.table.permutes x a.by a.glued) a.labels)

inner_back : (old : List Row) (m : Move) (new : List Row) → IsPlayed old m new → (j l : ℕ) → j < 5 - length m.core → l < 5 - length m.core → j ≢ l
    → glue (led_back old m) (opposite (new_facet new (inverse_of old m) j) l) ≡ Some (record { tet = (new_facet new (inverse_of old m) l).tet; perm = across j l })
inner_back old m new p j l hj hl d =
    let s : ℕ = length m.core in
    let limited : length m.core < 5 = p.limited in
    let ej : j + s - s ≡ j = omega arith in
    let el : l + s - s ≡ l = omega arith in
    let base : kept new (inverse_of old m) ≡ kept old m = kept-inverse old m new p in
    let At : ℕ → ℕ → ℕ → Type 0 = λ q j l. glue (led_back old m) (face_at (q + j) (preimage (ascending j) l)) ≡ Some (record { tet = q + l; perm = across j l }) in
    let here : At (kept old m) (j + s - s) (l + s - s) = inner_at old m new p (j + s) (l + s) (omega arith) (omega arith) (omega arith) (omega arith) (λ e. d (omega arith)) in
    let at : At (kept old m) j l = subst (λ z. At (kept old m) j z) el (subst (λ y. At (kept old m) y (l + s - s)) ej here) in
    subst (λ q. At q j l) (sym base) at

-- the other faces

-- the inverse has no replacement of a face between new facets
inner_none : (old : List Row) (m : Move) (new : List Row) → IsPlayed old m new → (x : Face) → IsInner old m x → place_after new (inverse_of old m) x ≡ None
inner_none old m new p x n =
    let s : ℕ = length m.core in
    let limited : length m.core < 5 = p.limited in
    let hj : n.j < 5 = (let l = n.j_small in omega arith) in
    let hl : n.l < 5 = (let l = n.l_small in omega arith) in
    let v : HasVertex (ascending n.j) n.l = vertex_at n.j (ascending n.j) (new_labels n.j hj) n.l hl (λ e. n.separate (sym e)) in
    let label : image (new_as_old_labels s n.j) (preimage (ascending n.j) n.l) ≡ renamed s n.l =
    image-map (renamed s) (ascending n.j) (preimage (ascending n.j) n.l) (rw (length-labels n.j (ascending n.j) (new_labels n.j hj)) v.small) ∙ ap (renamed s) v.label in
    let low : (j : ℕ) → j < s → length (inverse_of old m).core ≤ renamed s j = λ j l. subst (λ k. k ≤ renamed s j) (sym p.inverse_core.size) (renamed-new s j p.limited l) in
    ap (place_after new (inverse_of old m)) (sym n.is)
    ∙ image_after-old new (inverse_of old m) (renamed s n.j) (new_as_old old m n.j) (preimage (ascending n.j) n.l) (no_fault new (inverse_of old m) (inverse_legal old m new p)) p.inverse_core.is_core (low n.j n.j_small) (renamed_below s n.j p.limited hj) (facet-inverse old m new p n.j n.j_small)
    ∙ ap (facet_place_after new (inverse_of old m) (new_as_old old m n.j)) label
    ∙ facet_image_after-old new (inverse_of old m) (new_as_old old m n.j) (renamed s n.l) (low n.l n.l_small)

-- the face that replaces x is glued to the face that replaces the other side of x
pub over_there : (x : Face) (s r g : Gluing) → IsPermutationOfFour s.perm → IsPermutationOfFour r.perm → IsPermutationOfFour g.perm → x.face < 4 → other_side (face_under s x) (gluing_under s r g) ≡ face_under r (other_side x g)
over_there x s r g hs hr hg l =
    let k : image s.perm x.face < 4 = image_below s.perm hs x.face l in
    let q = inverse_permutes s.perm hs in
    ap (face_at r.tet)
    (image-compose r.perm (compose g.perm (inverse s.perm)) (compose_permutes g.perm (inverse s.perm) hg q) (image s.perm x.face) k
    ∙ ap (image r.perm) (image-compose g.perm (inverse s.perm) q (image s.perm x.face) k ∙ ap (image g.perm) (image-inverse s.perm (image s.perm x.face) k ∙ preimage-image s.perm hs x.face l)))

-- a face that replaces the old face x
outer_at : (old : List Row) (m : Move) (new : List Row) → IsPlayed old m new → (x : Face) (s s' : Gluing) → x.tet < length old → x.face < 4 → place_after old m x ≡ Some s → place_after new (inverse_of old m) (face_under s x) ≡ Some s'
    → glue (led_back old m) (face_under s' (face_under s x)) ≡ option_and_then (moved_gluing new (inverse_of old m) (face_under s x) s') (glue new (face_under s x))
outer_at old m new p x s s' lt lf occurs occurs' = by_gluing (glue old x) refl
  where
    again : StandsAgain old m new x s
    again = stands_again old m new p x s lt lf occurs

    second : again.second ≡ s'
    second = same_some (place_after new (inverse_of old m) (face_under s x)) again.second s' again.occurs occurs'

    tet : s'.tet ≡ (place old m x.tet).tet
    tet = ap (λ (g : Gluing). g.tet) (sym second) ∙ again.tet

    perm : compose s'.perm s.perm ≡ (place old m x.tet).perm
    perm = ap (λ (g : Gluing). compose g.perm s.perm) (sym second) ∙ again.perm

    hs' : IsPermutationOfFour s'.perm
    hs' = subst (λ (g : Gluing). IsPermutationOfFour g.perm) second again.second_permutes

    face : face_under s' (face_under s x) ≡ face_under (place old m x.tet) x
    face = ap (λ u. face_at u (image s'.perm (image s.perm x.face))) tet ∙ ap (face_at (place old m x.tet).tet) (sym (image-compose s'.perm s.perm again.first_permutes x.face lf) ∙ ap (λ (q : List ℕ). image q x.face) perm)

    carried : (o : Option Gluing) → glue old x ≡ o → glue (led_back old m) (face_under s' (face_under s x)) ≡ option_map (λ g. gluing_under (place old m x.tet) (place old m g.tet) g) o
    carried o e = ap (glue (led_back old m)) face ∙ carried_at old m new p x lt lf o e

    moved : (o : Option Gluing) → glue old x ≡ o → glue new (face_under s x) ≡ option_and_then (moved_gluing old m x s) o
    moved o e = p.moved.outer x s lt lf occurs ∙ ap (option_and_then (moved_gluing old m x s)) e

    by_gluing : (o : Option Gluing) → glue old x ≡ o → glue (led_back old m) (face_under s' (face_under s x)) ≡ option_and_then (moved_gluing new (inverse_of old m) (face_under s x) s') (glue new (face_under s x))
    by_gluing None e = carried None e ∙ ap (option_and_then (moved_gluing new (inverse_of old m) (face_under s x) s')) (sym (moved None e))
    by_gluing (Some g) e = carried (Some g) e ∙ sym there
      where
        hg : IsPermutationOfFour g.perm
        hg = p.table.permutes x g e

        y : Face
        y = other_side x g

        yt : y.tet < length old
        yt = p.table.in_range x g e

        yf : y.face < 4
        yf = image_below g.perm hg x.face lf

        reached : (r : Gluing) × (place_after old m y ≡ Some r)
        reached = other_stands old m p.table (no_fault old m p.moved.legal) p.core x s g lf occurs e

        r : Gluing
        r = reached.0

        again' : StandsAgain old m new y r
        again' = stands_again old m new p y r yt yf reached.1

        g' : Gluing
        g' = gluing_under s r g

        glued : glue new (face_under s x) ≡ Some g'
        glued = moved (Some g) e ∙ ap (option_map (λ r. gluing_under s r g)) reached.1

        side : place_after new (inverse_of old m) (other_side (face_under s x) g') ≡ Some again'.second
        side = ap (place_after new (inverse_of old m)) (over_there x s r g again.first_permutes again'.first_permutes hg lf) ∙ again'.occurs

        perms : compose again'.second.perm (compose g'.perm (inverse s'.perm)) ≡ compose (place old m g.tet).perm (compose g.perm (inverse (place old m x.tet).perm))
        perms =
            carried_twice s.perm r.perm s'.perm again'.second.perm g.perm again.first_permutes again'.first_permutes hs' again'.second_permutes hg
            ∙ ap (λ (q : List ℕ). compose q (compose g.perm (inverse (compose s'.perm s.perm)))) again'.perm
            ∙ ap (λ (q : List ℕ). compose (place old m g.tet).perm (compose g.perm (inverse q))) perm

        whole : gluing_under s' again'.second g' ≡ gluing_under (place old m x.tet) (place old m g.tet) g
        whole = ap (λ u. gluing_to u (compose again'.second.perm (compose g'.perm (inverse s'.perm)))) again'.tet ∙ ap (gluing_to (place old m g.tet).tet) perms

        there : option_and_then (moved_gluing new (inverse_of old m) (face_under s x) s') (glue new (face_under s x)) ≡ Some (gluing_under (place old m x.tet) (place old m g.tet) g)
        there = ap (option_and_then (moved_gluing new (inverse_of old m) (face_under s x) s')) glued ∙ ap (option_map (λ r. gluing_under s' r g')) side ∙ ap (λ (q : Gluing). Some q) whole

outer_back : (old : List Row) (m : Move) (new : List Row) → IsPlayed old m new → (x : Face) (s' : Gluing) → x.tet < length new → x.face < 4 → place_after new (inverse_of old m) x ≡ Some s'
    → glue (led_back old m) (face_under s' x) ≡ option_and_then (moved_gluing new (inverse_of old m) x s') (glue new x)
outer_back old m new p x s' lt lf occurs = by_cover (covered old m x p.table (no_fault old m p.moved.legal) p.core (rw (← p.moved.length_is) lt) lf)
  where
    none : (o : Option Gluing) → o ≡ None → o ≡ Some s' → ⊥
    none o a b = cc

    by_cover : StandsForOld old m x ⊎ IsInner old m x → glue (led_back old m) (face_under s' x) ≡ option_and_then (moved_gluing new (inverse_of old m) x s') (glue new x)
    by_cover (inl o) = subst (λ (y : Face). place_after new (inverse_of old m) y ≡ Some s' → glue (led_back old m) (face_under s' y) ≡ option_and_then (moved_gluing new (inverse_of old m) y s') (glue new y)) o.is (λ st. outer_at old m new p o.old o.by s' o.tet o.face o.occurs st) occurs
    by_cover (inr n) = absurd (none (place_after new (inverse_of old m) x) (inner_none old m new p x n) occurs)

pub led_back_moved : (old : List Row) (m : Move) (new : List Row) → IsPlayed old m new → IsMoved new (inverse_of old m) (led_back old m)
led_back_moved old m new p =
    let c : Carries (relabelling old m) old (led_back old m) = carries_back old m p.table (no_fault old m p.moved.legal) p.core in
    record {
      core = p.inverse_core.is_core;
      legal = inverse_legal old m new p;
      length_is = (let limited = p.limited in let fits = p.fits in omega (arith, c.same_length, kept-inverse old m new p, p.inverse_core.size));
      four_faces = c.four_faces;
      inner = λ j l hj hl d. inner_back old m new p j l (subst (λ k. j < k) p.inverse_core.size hj) (subst (λ k. l < k) p.inverse_core.size hl) d;
      outer = λ x s' lt lf occurs. outer_back old m new p x s' lt lf occurs;
    }

pub inverses_lead_back_lem : InversesLeadBackUpToLabels
inverses_lead_back_lem old m new table h =
    let p : IsPlayed old m new = played old m new table h in
    (led_back old m, led_back_moved old m new p, (relabelling old m, is_relabelling old m table (no_fault old m h.legal) h.core, carries_back old m table (no_fault old m h.legal) h.core))

pub inverses_have_cores_lem : InversesHaveCores
inverses_have_cores_lem n m c = (inverse_core (length m.core) (core_size m.core c).0 (core_size m.core c).1).is_core
