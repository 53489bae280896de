-- Corresponding links have the same number of sides in boundary faces.
use Rattle.std.proofs.Common.{◌≡◌, ◌≢◌, ℕ, ◌*◌, ◌/◌, ◌%◌, ◌<◌, true, List, length, Option, Some, None, ◌⊎◌, inl, inr, refl, sym, ap, ◌∙◌, subst, arith}
use Rattle.std.specs.Prelude.{option_map, option_and_then, slice_index}
use Rattle.table_definitions.specs.Permutation.{IsPermutationOfFour, image, preimage}
use Rattle.table_definitions.specs.Table.{Gluing, Row, Face, glue, IsTable}
use Rattle.table_definitions.specs.Classes.{IsNumbering}
use Rattle.table_definitions.specs.Places.{Place, SameVertex}
use Rattle.table_definitions.specs.Relabelling.{face_under, gluing_under}
use Rattle.table_definitions.proofs.Faces.{face_at}
use Rattle.table_definitions.proofs.TableLaws.{Among}
use Rattle.table_definitions.proofs.Permutations.{image_below, preimage_below, image-preimage, preimage-image}
use Rattle.move_definitions.specs.Moves.{Move, IsMoved, place_after, moved_gluing}
use Rattle.move_laws.proofs.ListedFacets.{same_some}
use Rattle.move_laws.proofs.Covered.{StandsForOld, IsInner, covered}
use Rattle.move_laws.proofs.Shapes.{shape, IsKeptFace, IsFacetFace, stands_for_one}
use Rattle.move_laws.proofs.SecondStand.{other_stands}
use Rattle.skeleton_laws.proofs.Matchings.{related_same, length-passing, passing_apart}
use Rattle.skeleton_laws.proofs.Sides.{side_face, is_side, free_side}
use Rattle.skeleton_laws.proofs.SideParts.{IsSideAt, side_is, is_side_from, HasParts, has_parts, number_again, side_number}
use Rattle.skeleton_laws.proofs.Halves.{frees, free_is, is_free}
use Rattle.skeleton_laws.proofs.TwiceEdges.{free_count}
use Rattle.move_link_laws.proofs.Ties.{fine, Ties}
use Rattle.skeleton_laws.proofs.Spots.{class_of}
use Rattle.surface_laws.proofs.Vertices.{one_vertex}
use Rattle.move_link_laws.proofs.TiedSpots.{Match, class_under}
use Rattle.move_link_laws.proofs.FreeSides.{StandsSide, permutes, tie_at, spot_at, low_v, low_f, place_of, forth}

module _ (old : List Row) (m : Move) (new : List Row) (table : IsTable old) (h : IsMoved old m new) where
  module _ (table' : IsTable new)
      (vs : List ℕ) (n : ℕ) (numbered : IsNumbering (4 * length old) (SameVertex old) vs n) (vs' : List ℕ) (n' : ℕ) (numbered' : IsNumbering (4 * length new) (SameVertex new) vs' n') (c c' : ℕ)
      (match : Match old m new table h vs n numbered vs' n' numbered' c c') where
    abbrev Tie : Place → Place → Type 0
    Tie p q = Ties old m new table h p q

    abbrev olds : List ℕ
    olds = frees old table vs n numbered c

    abbrev news : List ℕ
    news = frees new table' vs' n' numbered' c'

    abbrev under : Gluing → ℕ → ℕ
    under s k = side_number s.tet (image s.perm (k / 4 % 4)) (image s.perm (k % 4))

    pub back : (k' : ℕ) → Among k' news → (k : ℕ) × Among k olds × StandsSide old m new table h table' vs n numbered vs' n' numbered' c c' match k k'
    unfolding StandsSide
    back k' a = elim (covered old m y table (fine old m new table h) h.core (let e = h.length_is in let l = f.0 in omega arith) (low_f old m new table h table' vs n numbered vs' n' numbered' c c' match k')) [
      | inl o ↦ outside o
      | inr i ↦ absurd (inside i)
    ]
      where
        f : (k' < 4 * (4 * length new)) × (is_side vs' c' k' ≡ true) × (glue new (side_face k') ≡ None)
        f = free_is new table' vs' n' numbered' c' k' a

        side : IsSideAt vs' c' k'
        side = side_is vs' c' k' f.1

        y : Face
        y = side_face k'

        inside : IsInner old m y → ⊥
        inside i = let z : None ≡ Some _ = sym f.2 ∙ ap (glue new) (sym i.is) ∙ h.inner i.j i.l i.j_small i.l_small i.separate in cc

        outside : StandsForOld old m y → (k : ℕ) × Among k olds × StandsSide old m new table h table' vs n numbered vs' n' numbered' c c' match k k'
        outside o = (k, is_free old table vs n numbered c k small (is_side_from vs c k off at) none, (s, occurs, again))
          where
            x : Face
            x = o.old

            s : Gluing
            s = o.by

            hs : IsPermutationOfFour s.perm
            hs = permutes old m new table h table' vs n numbered vs' n' numbered' c c' match x s o.tet o.face o.occurs

            v' : ℕ
            v' = k' / 4 % 4

            v : ℕ
            v = preimage s.perm v'

            lv : v < 4
            lv = preimage_below s.perm hs v' (low_v old m new table h table' vs n numbered vs' n' numbered' c c' match k')

            there : image s.perm v ≡ v'
            there = image-preimage s.perm hs v' (low_v old m new table h table' vs n numbered vs' n' numbered' c c' match k')

            faces : image s.perm x.face ≡ k' % 4
            faces = λ i. (o.is i).face

            k : ℕ
            k = side_number x.tet v x.face

            parts : HasParts x.tet v x.face
            parts = has_parts x.tet v x.face lv o.face

            small : k < 4 * (4 * length old)
            small = let t = o.tet in let l : preimage o.by.perm (k' / 4 % 4) < 4 = lv in let g = o.face in omega arith

            ne : v ≢ x.face
            ne e = side.off (sym there ∙ ap (image s.perm) e ∙ faces)

            off : k / 4 % 4 ≢ k % 4
            off e = ne (sym parts.vertex ∙ e ∙ parts.face)

            face : side_face k ≡ x
            face = λ i. face_at (parts.tet i) (parts.face i)

            occurs : place_after old m (side_face k) ≡ Some s
            occurs = ap (place_after old m) face ∙ o.occurs

            tie : Tie (one_vertex x.tet v) (one_vertex s.tet (image s.perm v))
            tie = tie_at old m new table h table' vs n numbered vs' n' numbered' c c' match x v s o.tet o.face lv ne o.occurs

            spots : one_vertex s.tet (image s.perm v) ≡ one_vertex (k' / 4 / 4) v'
            spots = λ i. one_vertex ((o.is i).tet) (there i)

            at : slice_index vs (k / 4) ≡ c
            at = ap (slice_index vs) parts.place ∙ class_under old m new table h vs n numbered vs' n' numbered' c c' match (one_vertex x.tet v) (one_vertex s.tet (image s.perm v)) (spot_at old m new table h table' vs n numbered vs' n' numbered' c c' match x.tet v o.tet lv) tie
                (ap (class_of vs') spots ∙ ap (slice_index vs') (place_of old m new table h table' vs n numbered vs' n' numbered' c c' match k') ∙ side.at)

            none_from : (q : Option Gluing) → glue old x ≡ q → glue old x ≡ None
            none_from None e = e
            none_from (Some g) e =
                let r = other_stands old m table (fine old m new table h) h.core x s g o.face o.occurs e in
                let made : glue new (face_under s x) ≡ Some (gluing_under s r.0 g) = h.outer x s o.tet o.face o.occurs ∙ ap (option_and_then (moved_gluing old m x s)) e ∙ ap (option_map (λ q. gluing_under s q g)) r.1 in
                let z : None ≡ Some (gluing_under s r.0 g) = sym f.2 ∙ ap (glue new) (sym o.is) ∙ made in
                absurd cc

            none : glue old (side_face k) ≡ None
            none = ap (glue old) face ∙ none_from (glue old x) refl

            again : under s k ≡ k'
            again = (λ i. side_number ((o.is i).tet) (image s.perm (parts.vertex i)) (image s.perm (parts.face i))) ∙ (λ i. side_number (k' / 4 / 4) (there i) (faces i)) ∙ number_again k'

    once : (k l k' : ℕ) → Among k olds → Among l olds → StandsSide old m new table h table' vs n numbered vs' n' numbered' c c' match k k' → StandsSide old m new table h table' vs n numbered vs' n' numbered' c c' match l k' → k ≡ l
    unfolding StandsSide
    once k l k' a b (s, e, is) (r, f, js) =
        let lk : k / 4 / 4 < length old = (let z = (free_is old table vs n numbered c k a).0 in omega arith) in
        let ll : l / 4 / 4 < length old = (let z = (free_is old table vs n numbered c l b).0 in omega arith) in
        let hs = permutes old m new table h table' vs n numbered vs' n' numbered' c c' match (side_face k) s lk (low_f old m new table h table' vs n numbered vs' n' numbered' c c' match k) e in
        let hr = permutes old m new table h table' vs n numbered vs' n' numbered' c c' match (side_face l) r ll (low_f old m new table h table' vs n numbered vs' n' numbered' c c' match l) f in
        let p = has_parts s.tet (image s.perm (k / 4 % 4)) (image s.perm (k % 4)) (image_below s.perm hs (k / 4 % 4) (low_v old m new table h table' vs n numbered vs' n' numbered' c c' match k)) (image_below s.perm hs (k % 4) (low_f old m new table h table' vs n numbered vs' n' numbered' c c' match k)) in
        let q = has_parts r.tet (image r.perm (l / 4 % 4)) (image r.perm (l % 4)) (image_below r.perm hr (l / 4 % 4) (low_v old m new table h table' vs n numbered vs' n' numbered' c c' match l)) (image_below r.perm hr (l % 4) (low_f old m new table h table' vs n numbered vs' n' numbered' c c' match l)) in
        let same : under s k ≡ under r l = is ∙ sym js in
        let faces : face_under s (side_face k) ≡ face_under r (side_face l) =
        (λ i. face_at (sym p.tet i) (sym p.face i)) ∙ ap side_face same ∙ (λ i. face_at (q.tet i) (q.face i)) in
        let one : side_face k ≡ side_face l = stands_for_one old m table (fine old m new table h) h.core (side_face k) (side_face l) (face_under r (side_face l)) s r lk ll
        (subst (λ (z : Face). IsKeptFace old m (side_face k) z s ⊎ IsFacetFace old m (side_face k) z s) faces (shape old m table (fine old m new table h) h.core (side_face k) s lk (low_f old m new table h table' vs n numbered vs' n' numbered' c c' match k) e))
        (shape old m table (fine old m new table h) h.core (side_face l) r ll (low_f old m new table h table' vs n numbered vs' n' numbered' c c' match l) f) in
        let by : s ≡ r = same_some (place_after old m (side_face l)) s r (ap (place_after old m) (sym one) ∙ e) f in
        let images : image r.perm (k / 4 % 4) ≡ image r.perm (l / 4 % 4) = ap (λ (g : Gluing). image g.perm (k / 4 % 4)) (sym by) ∙ sym p.vertex ∙ ap (λ z. z / 4 % 4) same ∙ q.vertex in
        let vertices : k / 4 % 4 ≡ l / 4 % 4 = sym (preimage-image r.perm hr (k / 4 % 4) (low_v old m new table h table' vs n numbered vs' n' numbered' c c' match k)) ∙ ap (preimage r.perm) images ∙ preimage-image r.perm hr (l / 4 % 4) (low_v old m new table h table' vs n numbered vs' n' numbered' c c' match l) in
        sym (number_again k) ∙ (λ i. side_number ((one i).tet) (vertices i) ((one i).face)) ∙ number_again l

    once' : (k k' l' : ℕ) → StandsSide old m new table h table' vs n numbered vs' n' numbered' c c' match k k' → StandsSide old m new table h table' vs n numbered vs' n' numbered' c c' match k l' → k' ≡ l'
    unfolding StandsSide
    once' k k' l' (s, e, is) (r, f, js) = sym is ∙ ap (λ (g : Gluing). under g k) (same_some (place_after old m (side_face k)) s r e f) ∙ js

    pub frees_match : free_count old table vs n numbered c ≡ free_count new table' vs' n' numbered' c'
    frees_match =
        sym (length-passing (free_side old vs c) (4 * (4 * length old)))
        ∙ related_same (StandsSide old m new table h table' vs n numbered vs' n' numbered' c c' match) olds news (passing_apart (free_side old vs c) (4 * (4 * length old))) (passing_apart (free_side new vs' c') (4 * (4 * length new))) (forth old m new table h table' vs n numbered vs' n' numbered' c c' match) back once (λ k k' l' a b. once' k k' l')
        ∙ length-passing (free_side new vs' c') (4 * (4 * length new))
