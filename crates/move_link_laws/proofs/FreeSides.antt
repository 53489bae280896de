-- The sides of corresponding links that lie in boundary faces correspond.
use Rattle.std.proofs.Common.{◌≡◌, ◌≢◌, ℕ, ◌+◌, ◌*◌, ◌/◌, ◌%◌, ◌<◌, ◌≤◌, true, List, length, Some, None, inl, inr, refl, sym, ap, ◌∙◌, arith}
use Rattle.std.specs.Prelude.{option_and_then, slice_index}
use Rattle.std.proofs.lemmas.Bool.{cases_lt}
use Rattle.basic_lemmas.proofs.Truths.{by_bool}
use Rattle.table_definitions.specs.Lists.{has}
use Rattle.table_definitions.specs.Permutation.{IsPermutationOfFour, image, preimage}
use Rattle.table_definitions.specs.Table.{Gluing, Row, Face, glue, IsTable}
use Rattle.table_definitions.specs.Classes.{IsNumbering}
use Rattle.table_definitions.specs.Places.{Place, SameVertex}
use Rattle.table_definitions.proofs.Faces.{face_at}
use Rattle.table_definitions.proofs.TableLaws.{Among}
use Rattle.table_definitions.proofs.Permutations.{image_below}
use Rattle.table_definitions.proofs.PermutationLaws.{images_apart}
use Rattle.move_definitions.specs.Moves.{Move, Facet, IsMoved, old_tets, place_after, kept_place_after, facet_gluing, moved_gluing}
use Rattle.move_definitions.proofs.StandIns.{facet_image_after-new, image_after-kept}
use Rattle.move_laws.proofs.Labels.{HasLabel, label_at}
use Rattle.move_laws.proofs.Legal.{IsFacet, facet_is, OldFacet, old_tet_facet, old_facet}
use Rattle.move_laws.proofs.Matched.{AreGlued, old_glued}
use Rattle.move_laws.proofs.Covered.{image_after-old}
use Rattle.move_laws.proofs.Shapes.{stand_permutes, stand_in_range}
use Rattle.skeleton_laws.proofs.Sides.{side_face, is_side}
use Rattle.skeleton_laws.proofs.SideParts.{IsSideAt, side_is, is_side_from, HasParts, has_parts, side_number}
use Rattle.skeleton_laws.proofs.Halves.{frees, free_is, is_free}
use Rattle.move_link_laws.proofs.Ties.{fine, Ties}
use Rattle.skeleton_laws.proofs.Spots.{IsSpot}
use Rattle.surface_laws.proofs.Vertices.{one_vertex}
use Rattle.move_link_laws.proofs.TiedSpots.{Match, class_over}
use Rattle.move_link_laws.proofs.StarLabels.{off_one}

module _ (old : List Row) (m : Move) (new : List Row) (table : IsTable old) (h : IsMoved old m new) where
  -- a boundary face is replaced in the new table
  free_stands : (x : Face) → x.tet < length old → x.face < 4 → glue old x ≡ None → (s : Gluing) × (place_after old m x ≡ Some s)
  free_stands x lt lf none = by_bool (has (old_tets old m) x.tet) (λ e. of_facet (old_tet_facet old m x.tet h.core e)) (λ e. (kept_place_after old m x.tet, image_after-kept old m x e))
    where
      of_facet : OldFacet old m x.tet → (s : Gluing) × (place_after old m x ≡ Some s)
      of_facet o = elim (cases_lt j (length m.core)) [
        | inl less ↦ (facet_gluing old m f j, ap (place_after old m) (sym same) ∙ image_after-old old m o.label f x.face (fine old m new table h) h.core o.low o.high o.is ∙ facet_image_after-new old m f j less)
        | inr more ↦ absurd (glued more)
      ]
        where
          f : Facet
          f = o.facet_of

          is : IsFacet old o.label f
          is = facet_is old m o.label f table h.core (fine old m new table h).in_range o.high o.is

          j : ℕ
          j = image f.labels x.face

          at : HasLabel o.label f.labels x.face
          at = label_at o.label f.labels is.labels x.face lf

          same : face_at f.tet x.face ≡ x
          same = ap (λ t. face_at t x.face) o.tet

          glued : length m.core ≤ j → ⊥
          glued more =
              let g = old_facet old m j (fine old m new table h) h.core more at.small in
              let a : AreGlued old o.label j f g.0 = old_glued old m o.label j f g.0 table (fine old m new table h) h.core o.low o.high more at.small (λ e. at.present (sym e)) o.is g.1 in
              let face : face_at f.tet (preimage f.labels j) ≡ x = ap (face_at f.tet) at.vertex ∙ same in
              let some : None ≡ Some a.by = sym none ∙ ap (glue old) (sym face) ∙ a.glued in
              cc

  module _ (table' : IsTable new)
      (vs : List ℕ) (n : ℕ) (numbered : IsNumbering (4 * length old) (SameVertex old) vs n) (vs' : List ℕ) (n' : ℕ) (numbered' : IsNumbering (4 * length new) (SameVertex new) vs' n') (c c' : ℕ)
      (match : Match old m new table h vs n numbered vs' n' numbered' c c') where
    abbrev Tie : Place → Place → Type 0
    Tie p q = Ties old m new table h p q

    abbrev olds : List ℕ
    olds = frees old table vs n numbered c

    abbrev news : List ℕ
    news = frees new table' vs' n' numbered' c'

    abbrev under : Gluing → ℕ → ℕ
    under s k = side_number s.tet (image s.perm (k / 4 % 4)) (image s.perm (k % 4))

    unfoldable pub StandsSide : ℕ → ℕ → Type 0
    StandsSide k k' = (s : Gluing) × (place_after old m (side_face k) ≡ Some s) × (under s k ≡ k')

    pub permutes : (x : Face) (s : Gluing) → x.tet < length old → x.face < 4 → place_after old m x ≡ Some s → IsPermutationOfFour s.perm
    permutes x s lt lf e = stand_permutes old m table (fine old m new table h) h.core x s lt lf e

    -- the vertex of a side has an image in the face of the side
    pub tie_at : (x : Face) (v : ℕ) (s : Gluing) → x.tet < length old → x.face < 4 → v < 4 → v ≢ x.face → place_after old m x ≡ Some s → Tie (one_vertex x.tet v) (one_vertex s.tet (image s.perm v))
    tie_at x v s lt lf lv ne e = record { face = x.face; by = s; tet = lt; place = (lv, tt); low = lf; off = off_one v x.face ne; occurs = e; is = refl }

    pub spot_at : (t v : ℕ) → t < length old → v < 4 → IsSpot (length old) (one_vertex t v)
    spot_at t v lt lv = record { v = v; is = refl; below = lt; low = lv }

    pub low_v : (k : ℕ) → k / 4 % 4 < 4
    low_v k = omega arith

    pub low_f : (k : ℕ) → k % 4 < 4
    low_f k = omega arith

    pub place_of : (k : ℕ) → 4 * (k / 4 / 4) + k / 4 % 4 ≡ k / 4
    place_of k = omega arith

    pub forth : (k : ℕ) → Among k olds → (k' : ℕ) × Among k' news × StandsSide k k'
    unfolding StandsSide
    forth k a = (under s k, is_free new table' vs' n' numbered' c' (under s k) small (is_side_from vs' c' (under s k) off at) none, (s, occurs, refl))
      where
        f : (k < 4 * (4 * length old)) × (is_side vs c k ≡ true) × (glue old (side_face k) ≡ None)
        f = free_is old table vs n numbered c k a

        side : IsSideAt vs c k
        side = side_is vs c k f.1

        lt : k / 4 / 4 < length old
        lt = let l = f.0 in omega arith

        found : (s : Gluing) × (place_after old m (side_face k) ≡ Some s)
        found = free_stands (side_face k) lt (low_f k) f.2

        s : Gluing
        s = found.0

        occurs : place_after old m (side_face k) ≡ Some s
        occurs = found.1

        hs : IsPermutationOfFour s.perm
        hs = permutes (side_face k) s lt (low_f k) occurs

        lv : image s.perm (k / 4 % 4) < 4
        lv = image_below s.perm hs (k / 4 % 4) (low_v k)

        lf : image s.perm (k % 4) < 4
        lf = image_below s.perm hs (k % 4) (low_f k)

        parts : HasParts s.tet (image s.perm (k / 4 % 4)) (image s.perm (k % 4))
        parts = has_parts s.tet (image s.perm (k / 4 % 4)) (image s.perm (k % 4)) lv lf

        small : under s k < 4 * (4 * length new)
        small =
            let r : s.tet < _ = (stand_in_range old m table (fine old m new table h) h.core (side_face k) s lt (low_f k) occurs).0 in
            let e = h.length_is in
            let a : image s.perm (k / 4 % 4) < 4 = lv in
            let b : image s.perm (k % 4) < 4 = lf in
            omega arith

        off : under s k / 4 % 4 ≢ under s k % 4
        off e = images_apart s.perm (k / 4 % 4) (k % 4) hs (low_v k) (low_f k) side.off (sym parts.vertex ∙ e ∙ parts.face)

        at : slice_index vs' (under s k / 4) ≡ c'
        at = ap (slice_index vs') parts.place ∙ class_over old m new table h vs n numbered vs' n' numbered' c c' match (one_vertex (k / 4 / 4) (k / 4 % 4)) (one_vertex s.tet (image s.perm (k / 4 % 4))) (spot_at (k / 4 / 4) (k / 4 % 4) lt (low_v k))
            (tie_at (side_face k) (k / 4 % 4) s lt (low_f k) (low_v k) side.off occurs) (ap (slice_index vs) (place_of k) ∙ side.at)

        none : glue new (side_face (under s k)) ≡ None
        none = (λ i. glue new (face_at (parts.tet i) (parts.face i))) ∙ h.outer (side_face k) s lt (low_f k) occurs ∙ ap (option_and_then (moved_gluing old m (side_face k) s)) f.2
