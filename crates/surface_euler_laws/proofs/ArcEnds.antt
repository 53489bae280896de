-- The points at the ends of an arc, which are the same across a gluing.
use Rattle.std.proofs.Common.{◌≡◌, ℕ, ◌<◌, Bool, List, Option, Some, ◌⊎◌, inl, inr, sym, ap, ◌∙◌}
use Rattle.table_definitions.specs.Permutation.{image}
use Rattle.table_definitions.specs.Table.{Gluing, glue}
use Rattle.skeleton_definitions.specs.Skeleton.{Skeleton, IsSkeleton, IsValidClass}
use Rattle.surface_definitions.specs.declared.Coords.{Coords}
use Rattle.surface_definitions.specs.Pieces.{Arc, arc_across}
use Rattle.surface_laws.specs.PieceLaws.{IsSurface, face_of_arc}
use Rattle.surface_euler_laws.proofs.Four.{Four, third, fourth, rest_four, one_of_rest, last_two}
use Rattle.surface_euler_laws.proofs.Labels.{point, point_across}
use Rattle.surface_euler_laws.proofs.ArcList.{IsArc, across_is_arc, four_across, edge_across}

module _ (s : Skeleton) (k : IsSkeleton s) (valid : (c : ℕ) → c < s.edges.count → IsValidClass s c) (coords : Coords) (xs : List ℕ) (surface : IsSurface s.rows coords xs) where
  abbrev OnSurface : Arc → Type 0
  OnSurface b = IsArc s.rows coords xs surface b

  abbrev glued : Arc → Option Gluing
  glued b = glue s.rows (face_of_arc b)

  -- the point of an arc on the edge to u
  abbrev end_at : Arc → ℕ → ℕ
  end_at b u = point s k valid coords xs surface b.tet b.vertex u b.place

  abbrev left_of : Arc → ℕ
  left_of b = end_at b (third b.vertex b.face)

  abbrev right_of : Arc → ℕ
  right_of b = end_at b (fourth b.vertex b.face)

  pub rest_of : (b : Arc) → OnSurface b → Four b.vertex b.face (third b.vertex b.face) (fourth b.vertex b.face)
  rest_of b x = rest_four b.vertex b.face x.is_vertex x.face x.off

  -- both ends have one colour
  abbrev pub Agrees : (ℕ → Bool) → Arc → Type 0
  Agrees h b = (u w : ℕ) → Four b.vertex b.face u w → h (end_at b u) ≡ h (end_at b w)

  pub agrees_from : (h : ℕ → Bool) (b : Arc) → OnSurface b → h (left_of b) ≡ h (right_of b) → Agrees h b
  agrees_from h b x e u w four =
      let r = rest_of b x in
      go (one_of_rest b.vertex b.face (third b.vertex b.face) (fourth b.vertex b.face) u r four.lf (λ q. four.vf (sym q)) (λ q. four.uf (sym q)))
      (one_of_rest b.vertex b.face (third b.vertex b.face) (fourth b.vertex b.face) w r four.lw (λ q. four.vw (sym q)) (λ q. four.uw (sym q)))
    where
      at : {a c : ℕ} → a ≡ c → h (end_at b a) ≡ h (end_at b c)
      at q = ap (λ z. h (end_at b z)) q

      go : (u ≡ third b.vertex b.face) ⊎ (u ≡ fourth b.vertex b.face) → (w ≡ third b.vertex b.face) ⊎ (w ≡ fourth b.vertex b.face) → h (end_at b u) ≡ h (end_at b w)
      go (inl p) (inl q) = at (p ∙ sym q)
      go (inl p) (inr q) = at p ∙ e ∙ sym (at q)
      go (inr p) (inl q) = at p ∙ sym e ∙ sym (at q)
      go (inr p) (inr q) = at (p ∙ sym q)

  pub one_point : (b : Arc) (g : Gluing) (u w : ℕ) → OnSurface b → glued b ≡ Some g → Four b.vertex b.face u w → end_at b u ≡ end_at (arc_across g b) (image g.perm u)
  one_point b g u w x e four =
      let y = across_is_arc s.rows coords xs surface b g x e in
      let z = four_across s.rows coords xs surface (face_of_arc b) g b.vertex b.face u w e four in
      point_across s k valid coords xs surface b.tet b.vertex u g.tet (image g.perm b.vertex) (image g.perm u) b.place
      (record { lt = x.in_range; lv = four.lv; lu = four.lf; ne = four.vf })
      (record { lt = y.in_range; lv = z.lv; lu = z.lf; ne = z.vf })
      (edge_across s.rows coords xs surface b.tet b.face g b.vertex u e four.vu (λ q. four.uf (sym q)))

  pub agrees_across : (h : ℕ → Bool) (b : Arc) (g : Gluing) → OnSurface b → glued b ≡ Some g → Agrees h (arc_across g b) → Agrees h b
  agrees_across h b g x e a u w four =
      ap h (one_point b g u w x e four)
      ∙ a (image g.perm u) (image g.perm w) (four_across s.rows coords xs surface (face_of_arc b) g b.vertex b.face u w e four)
      ∙ sym (ap h (one_point b g w u x e (last_two b.vertex b.face u w four)))
