-- A move carries the boundary arcs of a link to those of the corresponding link, and arcs that meet to arcs that meet.
use Rattle.std.proofs.Common.{◌≡◌, ◌↔◌, ℕ, ◌/◌, ◌%◌, ◌<◌, false, List, [], ◌∷◌, Some, refl, sym, ap, ◌∙◌, subst}
use Rattle.std.specs.Prelude.{◌||◌}
use Rattle.std.proofs.lemmas.Bool.{ne_eqb}
use Rattle.table_definitions.specs.Permutation.{IsPermutationOfFour, image, preimage}
use Rattle.table_definitions.specs.Table.{Gluing, Row}
use Rattle.table_definitions.specs.Places.{Place}
use Rattle.table_definitions.proofs.Faces.{face_at}
use Rattle.table_definitions.proofs.Permutations.{image_below, preimage_below, image-preimage}
use Rattle.table_definitions.proofs.PermutationLaws.{images_apart}
use Rattle.skeleton_definitions.specs.Skeleton.{Skeleton, IsSkeleton}
use Rattle.skeleton_laws.proofs.SideParts.{side_number, HasParts, has_parts}
use Rattle.move_definitions.specs.Moves.{Move, IsMoved, place_after}
use Rattle.move_laws.proofs.Shapes.{stand_permutes}
use Rattle.move_link_laws.specs.BoundaryCurves.{LinkSide, IsBoundaryArc, IsEndOf, ArcsMeet, HasBoundaryCurves}
use Rattle.move_link_laws.proofs.Ties.{fine, Ties}
use Rattle.move_link_laws.proofs.JoinedBack.{joined_over, joined_under}
use Rattle.move_link_laws.proofs.TiedSpots.{Match}
use Rattle.move_link_laws.proofs.FreeSides.{StandsSide, forth}
use Rattle.move_link_laws.proofs.FreeSidesBack.{back}
use Rattle.move_link_laws.proofs.ArcNumbers.{arc_number, arc_of, parts_of, arc_is, is_arc}
use Rattle.move_link_laws.proofs.CurvesMatched.{Partners, curves_correspond}

-- arc b is the image of arc a under the replacement of its tetrahedron at its face
pub record CarriesArc (rows : List Row) (m : Move) (a b : LinkSide) : Type 0 where
  pub by : Gluing
  pub occurs : place_after rows m (face_at a.tet a.face) ≡ Some by
  pub tet : b.tet ≡ by.tet
  pub vertex : b.vertex ≡ image by.perm a.vertex
  pub face : b.face ≡ image by.perm a.face

module _ (s : Skeleton) (m : Move) (s' : Skeleton) (k : IsSkeleton s) (k' : IsSkeleton s') (h : IsMoved s.rows m s'.rows) (c c' : ℕ)
    (match : Match s.rows m s'.rows k.table h s.vertices.classes s.vertices.count k.vertices s'.vertices.classes s'.vertices.count k'.vertices c c') where
  abbrev Tie : Place → Place → Type 0
  Tie p q = Ties s.rows m s'.rows k.table h p q

  abbrev Pair : LinkSide → LinkSide → Type 0
  Pair a b = Partners s s' c c' (CarriesArc s.rows m) a b

  -- the tetrahedron, vertex and face of the image of a side, from its number
  carried_parts : (g : Gluing) (v f n : ℕ) → IsPermutationOfFour g.perm → v < 4 → f < 4 → side_number g.tet (image g.perm v) (image g.perm f) ≡ n
      → (n / 4 / 4 ≡ g.tet) × (n / 4 % 4 ≡ image g.perm v) × (n % 4 ≡ image g.perm f)
  carried_parts g v f n hg lv lf e =
      let p : HasParts g.tet (image g.perm v) (image g.perm f) = has_parts g.tet (image g.perm v) (image g.perm f) (image_below g.perm hg v lv) (image_below g.perm hg f lf) in
      (ap (λ z. z / 4 / 4) (sym e) ∙ p.tet, ap (λ z. z / 4 % 4) (sym e) ∙ p.vertex, ap (λ z. z % 4) (sym e) ∙ p.face)

  permutes : (a : LinkSide) (g : Gluing) → IsBoundaryArc s c a → place_after s.rows m (face_at a.tet a.face) ≡ Some g → IsPermutationOfFour g.perm
  permutes a g is e = stand_permutes s.rows m k.table (fine s.rows m s'.rows k.table h) h.core (face_at a.tet a.face) g is.in_range is.is_face e

  arc_forth : (a : LinkSide) → IsBoundaryArc s c a → (b : LinkSide) × Pair a b
  unfolding StandsSide
  arc_forth a is =
      let z = forth s.rows m s'.rows k.table h k'.table s.vertices.classes s.vertices.count k.vertices s'.vertices.classes s'.vertices.count k'.vertices c c' match (arc_number a) (is_arc s k c a is) in
      let g : Gluing = z.2.0 in
      let p : HasParts a.tet a.vertex a.face = parts_of s c a is in
      let occurs : place_after s.rows m (face_at a.tet a.face) ≡ Some z.2.0 = (λ i. place_after s.rows m (face_at (sym p.tet i) (sym p.face i))) ∙ z.2.1 in
      let same : side_number z.2.0.tet (image z.2.0.perm a.vertex) (image z.2.0.perm a.face) ≡ z.0 =
      (λ i. side_number z.2.0.tet (image z.2.0.perm (sym p.vertex i)) (image z.2.0.perm (sym p.face i))) ∙ z.2.2 in
      let q = carried_parts z.2.0 a.vertex a.face z.0 (permutes a z.2.0 is occurs) is.is_vertex is.is_face same in
      (arc_of z.0, record { one = is; other = arc_is s' k' c' z.0 z.1; related = record { by = g; occurs = occurs; tet = q.0; vertex = q.1; face = q.2 } })

  arc_back : (b : LinkSide) → IsBoundaryArc s' c' b → (a : LinkSide) × Pair a b
  unfolding StandsSide
  arc_back b is =
      let z = back s.rows m s'.rows k.table h k'.table s.vertices.classes s.vertices.count k.vertices s'.vertices.classes s'.vertices.count k'.vertices c c' match (arc_number b) (is_arc s' k' c' b is) in
      let g : Gluing = z.2.0 in
      let p : HasParts b.tet b.vertex b.face = parts_of s' c' b is in
      let here : IsBoundaryArc s c (arc_of z.0) = arc_is s k c z.0 z.1 in
      let q = carried_parts z.2.0 (z.0 / 4 % 4) (z.0 % 4) (arc_number b) (permutes (arc_of z.0) z.2.0 here z.2.1) here.is_vertex here.is_face z.2.2 in
      (arc_of z.0, record { one = here; other = is; related = record { by = g; occurs = z.2.1; tet = sym p.tet ∙ q.0; vertex = sym p.vertex ∙ q.1; face = sym p.face ∙ q.2 } })

  -- the ends of the image of an arc are the images of its ends
  module _ (a b : LinkSide) (t : Pair a b) where
    abbrev g : Gluing
    g = t.related.by

    hg : IsPermutationOfFour t.related.by.perm
    hg = permutes a t.related.by t.one t.related.occurs

    abbrev end_at : LinkSide → ℕ → Place
    end_at x w = record { tet = x.tet; vertices = x.vertex ∷ w ∷ [] }

    tie_at : (w : ℕ) → w < 4 → (w ≡ a.face → ⊥) → Tie (end_at a w) (end_at b (image t.related.by.perm w))
    tie_at w lw off = record {
      face = a.face;
      by = t.related.by;
      tet = t.one.in_range;
      place = (t.one.is_vertex, (lw, tt));
      low = t.one.is_face;
      off = (λ i. ne_eqb a.vertex a.face t.one.off_vertex i || (ne_eqb w a.face off i || false));
      occurs = t.related.occurs;
      is = (λ i. record { tet = t.related.tet i; vertices = t.related.vertex i ∷ image t.related.by.perm w ∷ [] });
    }

    end_over : (p : Place) → IsEndOf a p → (q : Place) × IsEndOf b q × Tie p q
    end_over p e = (
      end_at b (image t.related.by.perm e.further),
      record {
        further = image t.related.by.perm e.further;
        is_vertex = image_below t.related.by.perm hg e.further e.is_vertex;
        off_vertex = (λ z. images_apart t.related.by.perm e.further a.vertex hg e.is_vertex t.one.is_vertex e.off_vertex (z ∙ t.related.vertex));
        in_face = (λ z. images_apart t.related.by.perm e.further a.face hg e.is_vertex t.one.is_face e.in_face (z ∙ t.related.face));
        is = refl;
      },
      subst (λ (r : Place). Tie r (end_at b (image t.related.by.perm e.further))) (sym e.is) (tie_at e.further e.is_vertex e.in_face),
    )

    end_under : (q : Place) → IsEndOf b q → (p : Place) × IsEndOf a p × Tie p q
    end_under q e =
        let w : ℕ = preimage t.related.by.perm e.further in
        let lw : preimage t.related.by.perm e.further < 4 = preimage_below t.related.by.perm hg e.further e.is_vertex in
        let there : image t.related.by.perm (preimage t.related.by.perm e.further) ≡ e.further = image-preimage t.related.by.perm hg e.further e.is_vertex in
        let off : preimage t.related.by.perm e.further ≡ a.face → ⊥ = (λ z. e.in_face (sym there ∙ ap (image t.related.by.perm) z ∙ sym t.related.face)) in (
          end_at a (preimage t.related.by.perm e.further),
          record { further = w; is_vertex = lw; off_vertex = (λ z. e.off_vertex (sym there ∙ ap (image t.related.by.perm) z ∙ sym t.related.vertex)); in_face = off; is = refl },
          subst (λ (r : Place). Tie (end_at a (preimage t.related.by.perm e.further)) r) (ap (end_at b) there ∙ sym e.is) (tie_at (preimage t.related.by.perm e.further) lw off),
        )

  meet_over : (a b x y : LinkSide) → Pair a b → Pair x y → ArcsMeet s.rows a x → ArcsMeet s'.rows b y
  meet_over a b x y t u e =
      let p = end_over a b t e.end e.of_one in
      let q = end_over x y u e.other_end e.of_other in
      record { end = p.0; other_end = q.0; of_one = p.1; of_other = q.1; joined = joined_over s.rows m s'.rows k.table h e.end e.other_end p.0 q.0 p.2 q.2 e.joined }

  meet_under : (a b x y : LinkSide) → Pair a b → Pair x y → ArcsMeet s'.rows b y → ArcsMeet s.rows a x
  meet_under a b x y t u e =
      let p = end_under a b t e.end e.of_one in
      let q = end_under x y u e.other_end e.of_other in
      record { end = p.0; other_end = q.0; of_one = p.1; of_other = q.1; joined = joined_under s.rows m s'.rows k.table h p.0 q.0 e.end e.other_end p.2 q.2 e.joined }

  pub curves_same : (n : ℕ) → HasBoundaryCurves s c n ↔ HasBoundaryCurves s' c' n
  curves_same n = curves_correspond s s' c c' (CarriesArc s.rows m) (record { forth = arc_forth; back = arc_back; over = meet_over; under = meet_under }) n
