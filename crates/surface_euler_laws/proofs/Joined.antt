-- The pieces of a connected surface are polygons that are glued along its arcs, with its points as corners.
use Rattle.std.proofs.Common.{◌≡◌, ℕ, ◌+◌, ◌-◌, ◌<◌, ◌≤◌, Bool, List, [], ◌∷◌, length, ◌⊎◌, inl, inr, refl, sym, ap, ◌∙◌, subst₂, arith}
use Rattle.std.specs.Prelude.{slice_index}
use Rattle.std.specs.List.{slice_index_or}
use Rattle.std.proofs.lemmas.Bool.{cases_lt}
use Rattle.skeleton_definitions.specs.Skeleton.{Skeleton, IsSkeleton, IsValidClass}
use Rattle.surface_definitions.specs.declared.Coords.{Coords}
use Rattle.surface_definitions.specs.Pieces.{NormalDisc, discs_of, disc_number, disc_of, Arc, arcs_around, arc_across, ArcsLead, AreComponents}
use Rattle.surface_laws.specs.PieceLaws.{IsSurface}
use Rattle.surface_laws.proofs.ArcPieces.{arc_piece}
use Rattle.surface_laws.proofs.MeetingArcs.{arc_at}
use Rattle.surface_laws.proofs.PieceNumbers.{no_piece, number-piece, IsFound, piece_found}
use Rattle.surface_euler_laws.specs.Polygons.{AreJoined, ArePolygons}
use Rattle.surface_euler_laws.proofs.Four.{Four, third, fourth, rest_four, first_two, middle_two}
use Rattle.surface_euler_laws.proofs.EdgeDirections.{IsEdge}
use Rattle.surface_euler_laws.proofs.Labels.{wide, wide_is, weights, point, point_back, IsPoint, is_point}
use Rattle.surface_euler_laws.proofs.ArcList.{IsArc, meets_is, arc_list}
use Rattle.surface_euler_laws.proofs.ArcNumbers.{piece_on, piece_behind, left_point, right_point, number, agrees_number, both_sides}
use Rattle.surface_euler_laws.proofs.AroundPieces.{arcs_colour, go_around}

module _ (s : Skeleton) (k : IsSkeleton s) (valid : (c : ℕ) → c < s.edges.count → IsValidClass s c) (coords : Coords) (xs : List ℕ) (surface : IsSurface s.rows coords xs) where
  abbrev OnSurface : Arc → Type 0
  OnSurface b = IsArc s.rows coords xs surface b

  abbrev of : Arc → NormalDisc
  of b = disc_of coords xs b

  abbrev pn : Arc → ℕ
  pn b = disc_number xs (disc_of coords xs b)

  -- the point of an arc on the edge to u
  abbrev end_at : Arc → ℕ → ℕ
  end_at b u = point s k valid coords xs surface b.tet b.vertex u b.place

  abbrev arcs_number : ℕ
  arcs_number = length (arc_list s.rows coords xs surface)

  abbrev one : ℕ → ℕ
  one a = piece_on s k valid coords xs surface a

  abbrev other : ℕ → ℕ
  other a = piece_behind s k valid coords xs surface a

  abbrev left : ℕ → ℕ
  left a = left_point s k valid coords xs surface a

  abbrev right : ℕ → ℕ
  right a = right_point s k valid coords xs surface a

  chain_colour : (h : ℕ → Bool) → ((a : ℕ) → a < arcs_number → h (one a) ≡ h (other a)) → (p q : NormalDisc) (arcs : List Arc) → ArcsLead s.rows coords xs p arcs q → h (disc_number xs p) ≡ h (disc_number xs q)
  chain_colour h same p q [] e = ap (λ z. h (disc_number xs z)) e
  chain_colour h same p q (a ∷ arcs) (g, m, e, more) =
      let x = meets_is s.rows coords xs surface a g m in
      let n = number s k valid coords xs surface a x in
      ap (λ z. h (disc_number xs z)) (sym e) ∙ both_sides s k valid coords xs surface h a g x m.glued n (same n.a n.inside) ∙ chain_colour h same (of (arc_across g a)) q arcs more

  -- ---- each point is the end of an arc

  record IsEnd (x : ℕ) : Type 0 where
    b : Arc
    on : OnSurface b
    u : ℕ
    w : ℕ
    four : Four b.vertex b.face u w
    is : end_at b u ≡ x

  end_of : (x : ℕ) → x < length (discs_of (weights s k valid coords xs surface)) → IsEnd x
  end_of x l =
      let p : IsPoint s k valid coords xs surface x = is_point s k valid coords xs surface x l in
      let e : IsEdge s k valid p.t p.v p.u = p.edge in
      let f : ℕ = third p.v p.u in
      let w : ℕ = fourth p.v p.u in
      let four : Four p.v p.u f w = rest_four p.v p.u e.lv e.lu e.ne in
      let all : wide s k valid coords xs surface p.t p.v p.u ≡ arcs_around coords xs p.t (third p.v p.u) p.v + arcs_around coords xs p.t (third p.v p.u) p.u = wide_is s k valid coords xs surface p.t p.v p.u f w e four in
      let inside : p.j < wide s k valid coords xs surface p.t p.v p.u = p.inside in
      elim (cases_lt p.j (arcs_around coords xs p.t (third p.v p.u) p.v)) [
        | inl low ↦ record {
          b = arc_at p.t f p.v p.j;
          on = record { in_range = e.lt; face = four.lf; is_vertex = e.lv; off = four.vf; there = low };
          u = p.u;
          w = w;
          four = middle_two p.v p.u f w four;
          is = p.is;
        }
        | inr high ↦ (let j : ℕ = wide s k valid coords xs surface p.t p.v p.u - 1 - p.j in
            record {
              b = arc_at p.t f p.u j;
              on = record { in_range = e.lt; face = four.lf; is_vertex = e.lu; off = four.uf; there = omega arith };
              u = p.v;
              w = w;
              four = middle_two p.u p.v f w (first_two p.v p.u f w four);
              is = sym (point_back s k valid coords xs surface p.t p.v p.u p.j e inside) ∙ p.is;
            })
      ]

  -- ---- the components of the polygons are those of the surface

  module _ (components : List ℕ) (count : ℕ) (numbered : AreComponents s.rows coords xs components count) where
    abbrev pieces : ℕ
    pieces = length (discs_of xs)

    abbrev all_points : ℕ
    all_points = length (discs_of (weights s k valid coords xs surface))

    pub part_of : ℕ → ℕ
    part_of x = slice_index components x

    part_if : (x : ℕ) → (x < all_points) ⊎ (all_points ≤ x) → ℕ
    part_if x (inl l) = slice_index components (pn (end_of x l).b)
    part_if x (inr l) = 0

    -- a point is in the component of an arc with its end there
    pub part_at : ℕ → ℕ
    part_at x = part_if x (cases_lt x (length (discs_of (weights s k valid coords xs surface))))

    found : (b : Arc) → OnSurface b → IsFound xs (of b)
    found b x = piece_found xs (of b) (arc_piece coords (length s.rows) xs surface.triangles surface.admissible b.tet b.face b.vertex x.in_range x.face x.is_vertex x.off b.place x.there)

    polygons_joined : AreJoined (length (discs_of xs)) (length (arc_list s.rows coords xs surface)) count (piece_on s k valid coords xs surface) (piece_behind s k valid coords xs surface) part_of
    unfolding part_of
    polygons_joined = record {
      limited = numbered.in_range;
      joined = λ h same x y lx ly e.
          let c = (numbered.together x y lx ly).0 e in
          ap h (sym (number-piece xs x no_piece lx)) ∙ chain_colour h same (slice_index_or (discs_of xs) x no_piece) (slice_index_or (discs_of xs) y no_piece) c.0 c.1 ∙ ap h (number-piece xs y no_piece ly);
    }

    ends_joined : (h : ℕ → Bool) → ((a : ℕ) → a < arcs_number → h (left a) ≡ h (right a)) → (x y : ℕ) (p : IsEnd x) (q : IsEnd y) → slice_index components (pn p.b) ≡ slice_index components (pn q.b) → h x ≡ h y
    ends_joined h same x y p q e =
        let f : IsFound xs (of p.b) = found p.b p.on in
        let g : IsFound xs (of q.b) = found q.b q.on in
        let c = (numbered.together (pn p.b) (pn q.b) f.in_range g.in_range).0 e in
        let lead : ArcsLead s.rows coords xs (of p.b) c.0 (of q.b) = subst₂ (λ a b. ArcsLead s.rows coords xs a c.0 b) f.there g.there c.1 in
        ap h (sym p.is)
        ∙ arcs_colour s k valid coords xs surface h (λ b z. let m = number s k valid coords xs surface b z in agrees_number s k valid coords xs surface h b z m (same m.a m.inside)) (of p.b) (of q.b) c.0 lead p.b q.b p.on q.on refl refl p.u p.w q.u q.w p.four q.four
        ∙ ap h q.is

    points_joined : AreJoined (length (discs_of (weights s k valid coords xs surface))) (length (arc_list s.rows coords xs surface)) count (left_point s k valid coords xs surface) (right_point s k valid coords xs surface) part_at
    unfolding part_at part_if
    points_joined = record {
      limited = λ x l. limited x l (cases_lt x all_points);
      joined = λ h same x y lx ly e. joined h same x y lx ly (cases_lt x all_points) (cases_lt y all_points) e;
    }
      where
        limited : (x : ℕ) → x < all_points → (d : (x < all_points) ⊎ (all_points ≤ x)) → part_if x d < count
        limited x l (inl m) = numbered.in_range (pn (end_of x m).b) (found (end_of x m).b (end_of x m).on).in_range
        limited x l (inr m) = absurd (omega arith)

        joined : (h : ℕ → Bool) → ((a : ℕ) → a < arcs_number → h (left a) ≡ h (right a)) → (x y : ℕ) → x < all_points → y < all_points
            → (d : (x < all_points) ⊎ (all_points ≤ x)) (e : (y < all_points) ⊎ (all_points ≤ y)) → part_if x d ≡ part_if y e → h x ≡ h y
        joined h same x y lx ly (inl m) (inl n) e = ends_joined h same x y (end_of x m) (end_of y n) e
        joined h same x y lx ly (inr m) e f = absurd (omega arith)
        joined h same x y lx ly (inl m) (inr n) f = absurd (omega arith)

    pub are_polygons : ArePolygons (length (discs_of xs)) (length (arc_list s.rows coords xs surface)) (length (discs_of (weights s k valid coords xs surface))) count (piece_on s k valid coords xs surface) (piece_behind s k valid coords xs surface) (left_point s k valid coords xs surface) (right_point s k valid coords xs surface)
    are_polygons = record { part_of = part_of; polygons_joined = polygons_joined; part_at = part_at; points_joined = points_joined; go_around = go_around s k valid coords xs surface }
