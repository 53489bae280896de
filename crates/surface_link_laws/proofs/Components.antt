-- A vertex link is one component: chains of gluings join its triangles to one another.
use Rattle.std.proofs.Common.{◌≡◌, ℕ, ◌*◌, ◌/◌, ◌%◌, ◌<◌, List, [], ◌∷◌, ◌++◌, length, Some, inl, inr, refl, sym, ap, ◌∙◌, subst, subst₂, arith}
use Rattle.std.specs.Prelude.{slice_index}
use Rattle.std.specs.List.{slice_index_or}
use Rattle.std.proofs.lemmas.Bool.{cases_lt}
use Rattle.table_definitions.specs.Permutation.{image}
use Rattle.table_definitions.specs.Places.{Place, across, IsJoined, SameVertex}
use Rattle.table_definitions.proofs.ChainLaws.{kept_along}
use Rattle.table_definitions.proofs.PermutationLaws.{image_below}
use Rattle.table_definitions.proofs.Faces.{face_at}
use Rattle.skeleton_definitions.specs.Links.{vertex_number}
use Rattle.skeleton_definitions.specs.Skeleton.{Skeleton, IsSkeleton}
use Rattle.surface_definitions.specs.Pieces.{NormalDisc, Arc, discs_of, disc_number, ArcsLead, SamePiece, AreComponents, component_vector}
use Rattle.surface_definitions.specs.declared.Coords.{Coords}
use Rattle.surface_laws.specs.MatchingLaws.{HasTriangles}
use Rattle.surface_laws.proofs.ComponentCounts.{one_is_whole}
use Rattle.surface_laws.proofs.Glued.{IsGlued, glued_is}
use Rattle.surface_laws.proofs.PieceChains.{leads_further}
use Rattle.surface_laws.proofs.PieceNumbers.{no_piece, IsFound, piece_found}
use Rattle.surface_laws.proofs.Vertices.{one_vertex, vertex_is, number-vertex, IsCrossed, crossed_is, class_across}
use Rattle.surface_quad_laws.specs.LinkLaws.{link_of}
use Rattle.surface_link_laws.proofs.Pieces.{triangle, IsMember, IsTriangle, triangle_there, piece_is, piece_of_arc, piece_across, arc_is, arc_in, arc_there}

module _ (s : Skeleton) (k : IsSkeleton s) (c : ℕ) (coords : Coords) (h : HasTriangles coords) where
  abbrev n : ℕ
  n = length s.rows

  abbrev xs : List ℕ
  xs = link_of s coords c

  -- arcs join piece p to the triangle at a vertex
  record LedTo (p : NormalDisc) (q : Place) : Type 0 where
    v : ℕ
    is : q.vertices ≡ v ∷ []
    is_member : IsMember s k c coords h q.tet v
    arcs : List Arc
    lead : ArcsLead s.rows coords (link_of s coords c) p arcs (triangle coords q.tet v)

  led_across : (p : NormalDisc) (q : Place) (f : ℕ) (r : Place) → LedTo p q → across s.rows q f ≡ Some r → LedTo p r
  led_across p q f r l e =
      let w : IsCrossed s.rows q.tet l.v f r = crossed_is s.rows q.tet l.v f r (ap (λ (vs : List ℕ). across s.rows (record { tet = q.tet; vertices = vs }) f) (sym l.is) ∙ e) in
      let i : IsGlued s.rows (face_at q.tet f) w.g = glued_is s.rows (face_at q.tet f) w.g k.table w.glued in
      let m : IsMember s k c coords h q.tet l.v = l.is_member in
      let a : Arc = arc_in s k c coords h q.tet f l.v in
      let meets = arc_there s k c coords h q.tet f l.v w.g i.face w.off m w.glued in
      let step : ArcsLead s.rows coords xs (triangle coords q.tet l.v) (a ∷ []) (triangle coords w.g.tet (image w.g.perm l.v)) =
      (w.g, meets, piece_of_arc s k c coords h a (arc_is s k c coords h a w.g meets), piece_across s k c coords h a w.g meets) in
      let to : LedTo p (one_vertex w.g.tet (image w.g.perm l.v)) = record {
        v = image w.g.perm l.v;
        is = refl;
        is_member = record {
          tet = i.other_tet;
          below_four = image_below w.g.perm l.v i.permutes m.below_four;
          chosen = sym (class_across s.rows k.table s.vertices.classes s.vertices.count k.vertices (face_at q.tet f) w.g l.v w.glued m.below_four w.off) ∙ m.chosen;
        };
        arcs = l.arcs ++ a ∷ [];
        lead = leads_further s.rows coords xs p (triangle coords q.tet l.v) (triangle coords w.g.tet (image w.g.perm l.v)) l.arcs (a ∷ []) l.lead step;
      } in
      subst (LedTo p) w.is to

  triangle_led : (p : NormalDisc) (u w : ℕ) → LedTo p (one_vertex u w) → (arcs : List Arc) × ArcsLead s.rows coords (link_of s coords c) p arcs (triangle coords u w)
  triangle_led p u w l =
      let at : l.v ≡ w = ap (λ (vs : List ℕ). slice_index vs 0) (sym l.is) in
      (l.arcs, subst (λ x. ArcsLead s.rows coords xs p l.arcs (triangle coords u x)) at l.lead)

  -- so arcs join each two triangles
  triangles_led : (t v u w : ℕ) → IsMember s k c coords h t v → IsMember s k c coords h u w → (arcs : List Arc) × ArcsLead s.rows coords (link_of s coords c) (triangle coords t v) arcs (triangle coords u w)
  triangles_led t v u w a b =
      let la : vertex_number t v < 4 * n = let x = a.tet in let y = a.below_four in omega arith in
      let lb : vertex_number u w < 4 * n = let x = b.tet in let y = b.below_four in omega arith in
      let same : SameVertex s.rows (vertex_number t v) (vertex_number u w) = ((k.vertices).together (vertex_number t v) (vertex_number u w) la lb).0 (a.chosen ∙ sym b.chosen) in
      let joined : IsJoined s.rows (one_vertex t v) (one_vertex u w) = subst₂ (IsJoined s.rows) (vertex_is t v a.below_four) (vertex_is u w b.below_four) same in
      let start : LedTo (triangle coords t v) (one_vertex t v) = record { v = v; is = refl; is_member = a; arcs = []; lead = refl } in
      let end : LedTo (triangle coords t v) (one_vertex u w) = kept_along s.rows (LedTo (triangle coords t v)) (led_across (triangle coords t v)) joined.0 (one_vertex t v) (one_vertex u w) start joined.1 in
      triangle_led (triangle coords t v) u w end

  all_led : (i j : ℕ) → i < length (discs_of (link_of s coords c)) → j < length (discs_of (link_of s coords c)) → SamePiece s.rows coords (link_of s coords c) i j
  all_led i j li lj =
      let p : IsTriangle s k c coords h (slice_index_or (discs_of xs) i no_piece) = piece_is s k c coords h i li in
      let q : IsTriangle s k c coords h (slice_index_or (discs_of xs) j no_piece) = piece_is s k c coords h j lj in
      let l = triangles_led p.tet p.vertex q.tet q.vertex p.is_member q.is_member in
      (l.0, subst₂ (λ x y. ArcsLead s.rows coords xs x l.0 y) (sym p.is) (sym q.is) l.1)

  module _ (lc : c < s.vertices.count) (components : List ℕ) (count : ℕ) (numbered : AreComponents s.rows coords (link_of s coords c) components count) where
    -- there is a triangle
    some_piece : (i : ℕ) × (i < length (discs_of (link_of s coords c)))
    some_piece =
        let i = (k.vertices).none_empty c lc in
        let li : i.0 < 4 * n = i.1 in
        let m : IsMember s k c coords h (i.0 / 4) (i.0 % 4) = record { tet = omega arith; below_four = omega arith; chosen = ap (slice_index s.vertices.classes) (number-vertex i.0) ∙ i.2 } in
        let f : IsFound xs (triangle coords (i.0 / 4) (i.0 % 4)) = piece_found xs (triangle coords (i.0 / 4) (i.0 % 4)) (triangle_there s k c coords h (i.0 / 4) (i.0 % 4) m) in
        (disc_number xs (triangle coords (i.0 / 4) (i.0 % 4)), f.in_range)

    pub one_component : count ≡ 1
    one_component =
        let p = some_piece in
        let some : slice_index components p.0 < count = numbered.in_range p.0 p.1 in
        elim (cases_lt 1 count) [
          | inl more ↦ absurd (
              let i = numbered.none_empty 0 (omega arith) in
              let j = numbered.none_empty 1 more in
              let same : slice_index components i.0 ≡ slice_index components j.0 = (numbered.together i.0 j.0 i.1 j.1).1 (all_led i.0 j.0 i.1 j.1) in
              let zero_there : slice_index components i.0 ≡ 0 = i.2 in
              let one_there : slice_index components j.0 ≡ 1 = j.2 in
              omega arith)
          | inr most ↦ omega arith
        ]

    pub in_first : (i : ℕ) → i < length (discs_of (link_of s coords c)) → slice_index components i ≡ 0
    in_first i l = let low : slice_index components i < count = numbered.in_range i l in let one : count ≡ 1 = one_component in omega arith

    -- so the component is the whole link
    pub whole_vector : component_vector (link_of s coords c) components 0 ≡ link_of s coords c
    whole_vector = one_is_whole s.rows coords (link_of s coords c) components count numbered one_component
