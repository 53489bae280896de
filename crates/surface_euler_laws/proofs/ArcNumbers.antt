-- Arcs by number: the pieces on both sides of each, and the points at its ends.
use Rattle.std.proofs.Common.{◌≡◌, ℕ, ◌<◌, Bool, List, length, Option, Some, None, inl, inr, sym, ap, ◌∙◌}
use Rattle.table_definitions.specs.Table.{Gluing, glue, inverse_gluing}
use Rattle.skeleton_definitions.specs.Skeleton.{Skeleton, IsSkeleton, IsValidClass}
use Rattle.surface_definitions.specs.declared.Coords.{Coords}
use Rattle.surface_definitions.specs.Pieces.{disc_number, disc_of, Arc, arc_across}
use Rattle.surface_laws.specs.PieceLaws.{IsSurface, face_of_arc}
use Rattle.surface_euler_laws.specs.Polygons.{IsSideOf}
use Rattle.surface_euler_laws.proofs.Four.{Four, third, fourth}
use Rattle.surface_euler_laws.proofs.Labels.{point}
use Rattle.surface_euler_laws.proofs.ArcList.{IsArc, across_is_arc, across_back, glued_back, arc_list, arc_of, arc_of_is, HasNumber, number_of}
use Rattle.surface_euler_laws.proofs.ArcEnds.{rest_of, agrees_from, agrees_across}

module _ (s : Skeleton) (k : IsSkeleton s) (valid : (c : ℕ) → c < s.edges.count → IsValidClass s c) (coords : Coords) (xs : List ℕ) (surface : IsSurface s.rows coords xs) where
  abbrev OnSurface : Arc → Type 0
  OnSurface b = IsArc s.rows coords xs surface b

  abbrev pn : Arc → ℕ
  pn b = disc_number xs (disc_of coords xs b)

  abbrev glued : Arc → Option Gluing
  glued b = glue s.rows (face_of_arc b)

  -- the point of an arc on the edge to u
  abbrev end_at : Arc → ℕ → ℕ
  end_at b u = point s k valid coords xs surface b.tet b.vertex u b.place

  abbrev left_of : Arc → ℕ
  left_of b = end_at b (third b.vertex b.face)

  abbrev right_of : Arc → ℕ
  right_of b = end_at b (fourth b.vertex b.face)

  -- both ends have one colour
  abbrev Agrees : (ℕ → Bool) → Arc → Type 0
  Agrees h b = (u w : ℕ) → Four b.vertex b.face u w → h (end_at b u) ≡ h (end_at b w)

  abbrev pub arcs_number : ℕ
  arcs_number = length (arc_list s.rows coords xs surface)

  abbrev arc : ℕ → Arc
  arc a = arc_of s.rows coords xs surface a

  pub piece_on : ℕ → ℕ
  piece_on a = disc_number xs (disc_of coords xs (arc_of s.rows coords xs surface a))

  behind_if : Arc → Option Gluing → ℕ
  behind_if b None = disc_number xs (disc_of coords xs b)
  behind_if b (Some g) = disc_number xs (disc_of coords xs (arc_across g b))

  pub piece_behind : ℕ → ℕ
  piece_behind a = behind_if (arc_of s.rows coords xs surface a) (glue s.rows (face_of_arc (arc_of s.rows coords xs surface a)))

  pub left_point : ℕ → ℕ
  left_point a = end_at (arc_of s.rows coords xs surface a) (third (arc_of s.rows coords xs surface a).vertex (arc_of s.rows coords xs surface a).face)

  pub right_point : ℕ → ℕ
  right_point a = end_at (arc_of s.rows coords xs surface a) (fourth (arc_of s.rows coords xs surface a).vertex (arc_of s.rows coords xs surface a).face)

  abbrev Number : Arc → Type 0
  Number b = HasNumber s.rows coords xs surface b

  pub number : (b : Arc) → OnSurface b → Number b
  number b x = number_of s.rows coords xs surface b x

  pub other_none : (a : ℕ) → glued (arc a) ≡ None → piece_behind a ≡ piece_on a
  unfolding piece_behind piece_on behind_if
  other_none a e = ap (behind_if (arc_of s.rows coords xs surface a)) e

  pub one_is : (a : ℕ) (b : Arc) → arc a ≡ b → piece_on a ≡ pn b
  unfolding piece_on
  one_is a b e = ap (λ (z : Arc). disc_number xs (disc_of coords xs z)) e

  pub other_is : (a : ℕ) (b : Arc) (g : Gluing) → arc a ≡ b → glued b ≡ Some g → piece_behind a ≡ pn (arc_across g b)
  unfolding piece_behind behind_if
  other_is a b g e f = ap (λ (z : Arc). behind_if z (glue s.rows (face_of_arc z))) e ∙ ap (behind_if b) f

  pub other_back : (a : ℕ) (b : Arc) (g : Gluing) → OnSurface b → glued b ≡ Some g → arc a ≡ arc_across g b → piece_behind a ≡ pn b
  other_back a b g x f e =
      other_is a (arc_across g b) (inverse_gluing (face_of_arc b) g) e (glued_back s.rows coords xs surface b g x f)
      ∙ ap (λ (z : Arc). disc_number xs (disc_of coords xs z)) (across_back s.rows coords xs surface b g x f)

  pub agrees_number : (h : ℕ → Bool) (b : Arc) (x : OnSurface b) (m : Number b) → h (left_point m.a) ≡ h (right_point m.a) → Agrees h b
  unfolding left_point right_point
  agrees_number h b x m e = elim m.is [
    | inl q ↦ agrees_from s k valid coords xs surface h b x (ap (λ z. h (left_of z)) (sym q) ∙ e ∙ ap (λ z. h (right_of z)) q)
    | inr q ↦ agrees_across s k valid coords xs surface h b q.0 x q.1 (agrees_from s k valid coords xs surface h (arc_across q.0 b) (across_is_arc s.rows coords xs surface b q.0 x q.1) (ap (λ z. h (left_of z)) (sym q.2) ∙ e ∙ ap (λ z. h (right_of z)) q.2))
  ]

  pub number_agrees : (h : ℕ → Bool) (a : ℕ) → a < arcs_number → Agrees h (arc a) → h (left_point a) ≡ h (right_point a)
  unfolding left_point right_point
  number_agrees h a l g = g (third (arc a).vertex (arc a).face) (fourth (arc a).vertex (arc a).face) (rest_of s k valid coords xs surface (arc a) (arc_of_is s.rows coords xs surface a l))

  pub side_of : (b : Arc) → OnSurface b → (m : Number b) → IsSideOf piece_on piece_behind m.a (pn b)
  side_of b x m = elim m.is [ inl q ↦ inl (one_is m.a b q) | inr q ↦ inr (other_back m.a b q.0 x q.1 q.2) ]

  -- the pieces on both sides have the same colour if those of the arc's number have
  pub both_sides : (h : ℕ → Bool) (b : Arc) (g : Gluing) → OnSurface b → glued b ≡ Some g → (m : Number b) → h (piece_on m.a) ≡ h (piece_behind m.a) → h (pn b) ≡ h (pn (arc_across g b))
  both_sides h b g x f m e = elim m.is [
    | inl q ↦ ap h (sym (one_is m.a b q)) ∙ e ∙ ap h (other_is m.a b g q f)
    | inr q ↦ (let two : Some q.0 ≡ Some g = sym q.1 ∙ f in
        let same : q.0 ≡ g = cc in
        ap h (sym (other_back m.a b q.0 x q.1 q.2)) ∙ sym e ∙ ap h (one_is m.a (arc_across q.0 b) q.2) ∙ ap (λ z. h (pn (arc_across z b))) same)
  ]
