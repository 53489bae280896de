-- The other arcs of a piece are a path around it, from one end of an arc to its other end.
use Rattle.std.proofs.Common.{◌≡◌, ◌≢◌, ℕ, ◌/◌, ◌<◌, Bool, List, [], ◌∷◌, length, Option, Some, None, inl, inr, refl, sym, ap, ◌∙◌, subst}
use Rattle.table_definitions.specs.Permutation.{image}
use Rattle.table_definitions.specs.Table.{Gluing, glue, inverse_gluing}
use Rattle.skeleton_definitions.specs.Skeleton.{Skeleton, IsSkeleton, IsValidClass}
use Rattle.surface_definitions.specs.Coordinates.{columns_each}
use Rattle.surface_definitions.specs.declared.Coords.{Coords}
use Rattle.surface_definitions.specs.Pieces.{NormalDisc, disc_number, disc_of, Arc, arc_across, ArcsLead}
use Rattle.surface_laws.specs.PieceLaws.{IsSurface, face_of_arc}
use Rattle.surface_laws.proofs.ArcPieces.{arc_in}
use Rattle.surface_laws.proofs.MeetingArcs.{arc_at}
use Rattle.surface_euler_laws.specs.Polygons.{IsSideOf}
use Rattle.surface_euler_laws.proofs.Four.{Four, third, fourth}
use Rattle.surface_euler_laws.proofs.Labels.{point}
use Rattle.surface_euler_laws.proofs.Rounds.{lead_round, one_colour_each}
use Rattle.surface_euler_laws.proofs.ArcList.{IsArc, meets_is, across_is_arc, across_back, glued_back, four_across, arc_list, arc_of, arc_of_is, HasNumber}
use Rattle.surface_euler_laws.proofs.ArcEnds.{rest_of, one_point, agrees_across}
use Rattle.surface_euler_laws.proofs.ArcNumbers.{piece_on, piece_behind, left_point, right_point, number, other_none, one_is, other_is, other_back, agrees_number, number_agrees, side_of}

module _ (s : Skeleton) (k : IsSkeleton s) (valid : (c : ℕ) → c < s.edges.count → IsValidClass s c) (coords : Coords) (xs : List ℕ) (surface : IsSurface s.rows coords xs) where
  abbrev OnSurface : Arc → Type 0
  OnSurface b = IsArc s.rows coords xs surface b

  abbrev of : Arc → NormalDisc
  of b = disc_of coords xs b

  abbrev pn : Arc → ℕ
  pn b = disc_number xs (disc_of coords xs b)

  abbrev glued : Arc → Option Gluing
  glued b = glue s.rows (face_of_arc b)

  -- the point of an arc on the edge to u
  abbrev end_at : Arc → ℕ → ℕ
  end_at b u = point s k valid coords xs surface b.tet b.vertex u b.place

  -- both ends have one colour
  abbrev Agrees : (ℕ → Bool) → Arc → Type 0
  Agrees h b = (u w : ℕ) → Four b.vertex b.face u w → h (end_at b u) ≡ h (end_at b w)

  abbrev arcs_number : ℕ
  arcs_number = length (arc_list s.rows coords xs surface)

  abbrev arc : ℕ → Arc
  arc a = arc_of s.rows coords xs surface a

  abbrev Number : Arc → Type 0
  Number b = HasNumber s.rows coords xs surface b

  abbrev one : ℕ → ℕ
  one a = piece_on s k valid coords xs surface a

  abbrev other : ℕ → ℕ
  other a = piece_behind s k valid coords xs surface a

  abbrev left : ℕ → ℕ
  left a = left_point s k valid coords xs surface a

  abbrev right : ℕ → ℕ
  right a = right_point s k valid coords xs surface a

  tet_of : (b : Arc) → OnSurface b → (of b).column / columns_each coords ≡ b.tet
  tet_of b x = arc_in coords (length s.rows) xs surface.triangles surface.admissible b.tet b.face b.vertex b.place x.in_range x.face x.is_vertex x.off

  -- if both ends of each arc have one colour, all arcs of one piece have the same
  piece_colour : (h : ℕ → Bool) → ((b : Arc) → OnSurface b → Agrees h b) → (b b' : Arc) → OnSurface b → OnSurface b' → of b ≡ of b'
      → (u w u' w' : ℕ) → Four b.vertex b.face u w → Four b'.vertex b'.face u' w' → h (end_at b u) ≡ h (end_at b' u')
  piece_colour h all b b' x x' e u w u' w' four four' =
      let tet : b'.tet ≡ b.tet = sym (tet_of b' x') ∙ ap (λ (p : NormalDisc). p.column / columns_each coords) (sym e) ∙ tet_of b x in
      let moved : b' ≡ arc_at b.tet b'.face b'.vertex b'.place = λ i. arc_at (tet i) b'.face b'.vertex b'.place in
      let y : OnSurface (arc_at b.tet b'.face b'.vertex b'.place) = subst OnSurface moved x' in
      one_colour_each s k valid coords xs surface b.tet x.in_range h
      (λ v f u w j four l. all (arc_at b.tet f v j) (record { in_range = x.in_range; face = four.lu; is_vertex = four.lv; off = four.vu; there = l }) u w four)
      b.vertex b.face u w b.place b'.vertex b'.face u' w' b'.place four four' x.there y.there (e ∙ ap (disc_of coords xs) moved)
      ∙ ap (λ z. h (point s k valid coords xs surface z b'.vertex u' b'.place)) (sym tet)

  -- if so, all arcs of a chain have the same colour
  pub arcs_colour : (h : ℕ → Bool) → ((b : Arc) → OnSurface b → Agrees h b) → (p q : NormalDisc) (arcs : List Arc) → ArcsLead s.rows coords xs p arcs q
      → (b b' : Arc) → OnSurface b → OnSurface b' → of b ≡ p → of b' ≡ q → (u w u' w' : ℕ) → Four b.vertex b.face u w → Four b'.vertex b'.face u' w' → h (end_at b u) ≡ h (end_at b' u')
  arcs_colour h all p q [] e b b' x x' d d' u w u' w' four four' = piece_colour h all b b' x x' (d ∙ e ∙ sym d') u w u' w' four four'
  arcs_colour h all p q (a ∷ arcs) (g, m, e, more) b b' x x' d d' u w u' w' four four' =
      let y = meets_is s.rows coords xs surface a g m in
      let t : ℕ = third a.vertex a.face in
      let f : ℕ = fourth a.vertex a.face in
      let r = rest_of s k valid coords xs surface a y in
      piece_colour h all b a x y (d ∙ sym e) u w t f four r
      ∙ ap h (one_point s k valid coords xs surface a g t f y m.glued r)
      ∙ arcs_colour h all (of (arc_across g a)) q arcs more (arc_across g a) b' (across_is_arc s.rows coords xs surface a g y m.glued) x' refl d' (image g.perm t) (image g.perm f) u' w'
      (four_across s.rows coords xs surface (face_of_arc a) g a.vertex a.face t f m.glued r) four'

  pub go_around : (h : ℕ → Bool) (a p : ℕ) → a < arcs_number → one a ≢ other a → IsSideOf (piece_on s k valid coords xs surface) (piece_behind s k valid coords xs surface) a p
      → ((b : ℕ) → b < arcs_number → IsSideOf (piece_on s k valid coords xs surface) (piece_behind s k valid coords xs surface) b p → b ≢ a → h (left b) ≡ h (right b)) → h (left a) ≡ h (right a)
  go_around h a p l separate side others = number_agrees s k valid coords xs surface h a l (by_side side)
    where
      x : OnSurface (arc a)
      x = arc_of_is s.rows coords xs surface a l

      -- the arc, seen from piece p
      from_piece : (b : Arc) → OnSurface b → pn b ≡ p → ((b' : Arc) → OnSurface b' → pn b' ≡ p → (m : Number b') → m.a ≡ a → b' ≡ b) → Agrees h b
      from_piece b y e alone u w four =
          lead_round s k valid coords xs surface b.tet y.in_range h b.vertex b.face u w b.place four y.there
          (λ v' f' u' w' j' four' l' same off.
          let b' : Arc = arc_at b.tet f' v' j' in
          let y' : OnSurface (arc_at b.tet f' v' j') = record { in_range = y.in_range; face = four'.lu; is_vertex = four'.lv; off = four'.vu; there = l' } in
          let e' : pn (arc_at b.tet f' v' j') ≡ p = ap (disc_number xs) same ∙ e in
          let m = number s k valid coords xs surface (arc_at b.tet f' v' j') y' in
          agrees_number s k valid coords xs surface h (arc_at b.tet f' v' j') y' m (others m.a m.inside (subst (IsSideOf (piece_on s k valid coords xs surface) (piece_behind s k valid coords xs surface) m.a) e' (side_of s k valid coords xs surface (arc_at b.tet f' v' j') y' m))
          (λ q. let z : arc_at b.tet f' v' j' ≡ b = alone (arc_at b.tet f' v' j') y' e' m q in
          elim off [ inl n ↦ n (ap (λ (c : Arc). c.vertex) z) | inr n ↦ n (ap (λ (c : Arc). c.face) z) ])) u' w' four')

      by_side : IsSideOf (piece_on s k valid coords xs surface) (piece_behind s k valid coords xs surface) a p → Agrees h (arc a)
      by_side (inl e) = from_piece (arc a) x (sym (one_is s k valid coords xs surface a (arc a) refl) ∙ e) (λ b' y' e' m q. elim m.is [
        | inl z ↦ sym z ∙ ap arc q
        | inr z ↦ absurd (separate (e ∙ sym e' ∙ sym (ap (piece_behind s k valid coords xs surface) (sym q) ∙ other_back s k valid coords xs surface m.a b' z.0 y' z.1 z.2)))
      ])
      by_side (inr e) = by_glue (glued (arc a)) refl
        where
          by_glue : (o : Option Gluing) → glued (arc a) ≡ o → Agrees h (arc a)
          by_glue None q = absurd (separate (sym (other_none s k valid coords xs surface a q)))
          by_glue (Some g) q =
              let y : OnSurface (arc_across g (arc a)) = across_is_arc s.rows coords xs surface (arc a) g x q in
              agrees_across s k valid coords xs surface h (arc a) g x q (from_piece (arc_across g (arc a)) y (sym (other_is s k valid coords xs surface a (arc a) g refl q) ∙ e) (λ b' y' e' m c. elim m.is [
                | inl z ↦ absurd (separate (one_is s k valid coords xs surface a b' (ap arc (sym c) ∙ z) ∙ e' ∙ sym e))
                | inr z ↦ (let w : arc a ≡ arc_across z.0 b' = ap arc (sym c) ∙ z.2 in
                    let two : Some g ≡ Some (inverse_gluing (face_of_arc b') z.0) = sym q ∙ ap (λ (b : Arc). glue s.rows (face_of_arc b)) w ∙ glued_back s.rows coords xs surface b' z.0 y' z.1 in
                    let same : g ≡ inverse_gluing (face_of_arc b') z.0 = cc in
                    sym ((λ i. arc_across (same i) (w i)) ∙ across_back s.rows coords xs surface b' z.0 y' z.1))
              ]))
