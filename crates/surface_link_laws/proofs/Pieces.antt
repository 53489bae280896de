-- The pieces of a vertex link are its triangles, one at each member of the class, and each of its arcs is one of
-- theirs.
use Rattle.std.proofs.Common.{◌≡◌, ℕ, ◌<◌, ◌≤◌, Bool, true, false, not, ◌-◌, List, length, Some, refl, sym, ap, ◌∙◌, subst, arith}
use Rattle.std.specs.Prelude.{◌==◌, ◌||◌, if◌then◌else◌, slice_index}
use Rattle.std.specs.List.{slice_index_or}
use Rattle.std.proofs.lemmas.Bool.{eq-eqb, eqb-true, lt-ltb}
use Rattle.std.proofs.lemmas.List.Elements.{Contains-get_or}
use Rattle.table_definitions.specs.Lists.{below}
use Rattle.table_definitions.specs.Permutation.{image}
use Rattle.table_definitions.specs.Table.{Gluing, glue}
use Rattle.table_definitions.proofs.Listed.{among_contains, map-among, flat_map-among, below-among}
use Rattle.table_definitions.proofs.TableLaws.{Among}
use Rattle.skeleton_definitions.specs.Links.{vertex_number}
use Rattle.skeleton_definitions.specs.Skeleton.{Skeleton, IsSkeleton}
use Rattle.surface_definitions.specs.Coordinates.{columns, tri_column}
use Rattle.surface_definitions.specs.Pieces.{NormalDisc, Arc, discs_of, disc_of, arcs_around, arc_across, is_triangle_arc, triangles_around, looks_positive, keeps_by_zero, type_in, further_column, further_piece, Meets, keeps_sides}
use Rattle.surface_definitions.specs.declared.Coords.{Coords}
use Rattle.surface_laws.specs.MatchingLaws.{HasTriangles}
use Rattle.surface_laws.specs.PieceLaws.{IsSurface, IsPieceOf, MeetsBack, face_of_arc}
use Rattle.surface_laws.proofs.ColumnKinds.{column_below}
use Rattle.surface_laws.proofs.Glued.{IsGlued, glued_is}
use Rattle.surface_laws.proofs.MeetingArcs.{meets_back}
use Rattle.surface_laws.proofs.PieceNumbers.{piece_at, no_piece, of_column}
use Rattle.surface_quad_laws.specs.LinkLaws.{link_of}
use Rattle.surface_quad_laws.proofs.LinkSums.{by_column}
use Rattle.surface_quad_laws.proofs.VertexLinks.{member, length-link, triangle-link, link-one, others-link, link_surface}
use Rattle.surface_link_laws.proofs.Triangles.{arcs_around_vertex-link}

-- the triangle at vertex v of tetrahedron t
abbrev pub triangle : Coords → ℕ → ℕ → NormalDisc
triangle coords t v = record { column = tri_column coords t v; number = 0 }

bit_if : Bool → ℕ
bit_if b = if b then 1 else 0

passed : (b : Bool) (k : ℕ) → k < bit_if b → b ≡ true
unfolding bit_if
passed true k l = refl
passed false k l = absurd (omega arith)

bit_most : (b : Bool) → bit_if b ≤ 1
unfolding bit_if
bit_most true = omega arith
bit_most false = omega arith

module _ (s : Skeleton) (k : IsSkeleton s) (c : ℕ) (coords : Coords) (h : HasTriangles coords) where
  abbrev n : ℕ
  n = length s.rows

  abbrev xs : List ℕ
  xs = link_of s coords c

  abbrev class_of : ℕ → ℕ
  class_of i = slice_index s.vertices.classes i

  pub surface : IsSurface s.rows coords (link_of s coords c)
  surface = (link_surface s k c coords h).surface

  -- a vertex of a tetrahedron in the class
  pub record IsMember (t v : ℕ) : Type 0 where
    pub tet : t < n
    pub below_four : v < 4
    pub chosen : class_of (vertex_number t v) ≡ c

  counted : (t v j : ℕ) → j < member s.vertices.classes c (vertex_number t v) → (class_of (vertex_number t v) ≡ c) × (j ≡ 0)
  unfolding bit_if
  counted t v j l =
      let most : bit_if (class_of (vertex_number t v) == c) ≤ 1 = bit_most (class_of (vertex_number t v) == c) in
      (eqb-true (class_of (vertex_number t v)) c (passed (class_of (vertex_number t v) == c) j l), omega arith)

  one_there : (t v : ℕ) → IsMember t v → slice_index (link_of s coords c) (tri_column coords t v) ≡ 1
  one_there t v m = link-one n s.vertices.classes c coords t v h m.tet m.below_four m.chosen

  pub triangle_there : (t v : ℕ) → IsMember t v → IsPieceOf (link_of s coords c) (triangle coords t v)
  triangle_there t v m = record {
    column = (let l : tri_column coords t v < columns coords n = column_below coords h n t v m.tet m.below_four in omega (arith, length-link n s.vertices.classes c coords));
    number = (let o : slice_index (link_of s coords c) (tri_column coords t v) ≡ 1 = one_there t v m in omega arith);
  }

  -- each piece is one of these triangles
  pub record IsTriangle (p : NormalDisc) : Type 0 where
    pub tet : ℕ
    pub vertex : ℕ
    pub is_member : IsMember tet vertex
    pub is : p ≡ triangle coords tet vertex

  in_column : (i : ℕ) → i < columns coords n → (j : ℕ) → j < slice_index (link_of s coords c) i → IsTriangle (piece_at i j)
  in_column = by_column coords h n (λ i. (j : ℕ) → j < slice_index (link_of s coords c) i → IsTriangle (piece_at i j))
      (λ t v lt lv j l.
      let m = counted t v j (subst (λ x. j < x) (triangle-link n s.vertices.classes c coords t v h lt lv) l) in
      record { tet = t; vertex = v; is_member = record { tet = lt; below_four = lv; chosen = m.0 }; is = ap (piece_at (tri_column coords t v)) m.1 })
      (λ i l high j lj. absurd (let z : slice_index (link_of s coords c) i ≡ 0 = others-link n s.vertices.classes c coords i h l high in omega arith))

  pub piece_is : (i : ℕ) → i < length (discs_of (link_of s coords c)) → IsTriangle (slice_index_or (discs_of (link_of s coords c)) i no_piece)
  piece_is i l =
      let p : NormalDisc = slice_index_or (discs_of xs) i no_piece in
      let a : Among (slice_index_or (discs_of xs) i no_piece) (discs_of xs) = among_contains p (discs_of xs) (Contains-get_or (discs_of xs) i no_piece l) in
      let m = flat_map-among (of_column xs) p (below (length xs)) a in
      let j = map-among (piece_at m.0) p (below (slice_index xs m.0)) m.2 in
      let lc : m.0 < columns coords n = subst (λ w. m.0 < w) (length-link n s.vertices.classes c coords) (below-among m.0 (length xs) m.1) in
      subst IsTriangle (sym j.2) (in_column m.0 lc j.0 (below-among j.0 (slice_index xs m.0) j.1))

  -- an arc of the link
  pub record IsLinkArc (a : Arc) : Type 0 where
    pub is_member : IsMember a.tet a.vertex
    pub first : a.place ≡ 0

  pub arc_is : (a : Arc) (g : Gluing) → Meets s.rows coords (link_of s coords c) a g → IsLinkArc a
  arc_is a g m =
      let i : IsGlued s.rows (face_of_arc a) g = glued_is s.rows (face_of_arc a) g k.table m.glued in
      let t = counted a.tet a.vertex a.place (subst (λ x. a.place < x) (arcs_around_vertex-link n s.vertices.classes c coords h a.tet a.face a.vertex m.in_range i.face m.is_vertex m.off_vertex) m.there) in
      record { is_member = record { tet = m.in_range; below_four = m.is_vertex; chosen = t.0 }; first = t.1 }

  across_is_arc : (a : Arc) (g : Gluing) → Meets s.rows coords (link_of s coords c) a g → IsLinkArc (arc_across g a)
  across_is_arc a g m = let b : MeetsBack s.rows coords xs a g = meets_back s.rows coords xs surface a g m in arc_is (arc_across g a) _ b.meets

  -- it is an arc of its triangle, whose positive side is that of the vertex
  of_triangle : (a : Arc) → IsLinkArc a → is_triangle_arc coords (link_of s coords c) a ≡ true
  of_triangle a i =
      let o : slice_index (link_of s coords c) (tri_column coords a.tet a.vertex) ≡ 1 = one_there a.tet a.vertex i.is_member in
      let z : a.place ≡ 0 = i.first in
      lt-ltb a.place (triangles_around coords (link_of s coords c) a) (omega arith)

  pub piece_of_arc : (a : Arc) → IsLinkArc a → disc_of coords (link_of s coords c) a ≡ triangle coords a.tet a.vertex
  piece_of_arc a i =
      ap (λ (b : Bool). if b then piece_at (tri_column coords a.tet a.vertex) a.place else further_piece xs (further_column coords xs a) (a.place - triangles_around coords xs a) (keeps_by_zero (type_in coords (further_column coords xs a)) a.vertex)) (of_triangle a i)
      ∙ ap (piece_at (tri_column coords a.tet a.vertex)) i.first

  positive : (a : Arc) → IsLinkArc a → looks_positive coords (link_of s coords c) a ≡ true
  positive a i = ap (λ (b : Bool). b || keeps_by_zero (type_in coords (further_column coords xs a)) a.vertex) (of_triangle a i)

  pub sides_kept : (a : Arc) (g : Gluing) → Meets s.rows coords (link_of s coords c) a g → keeps_sides coords (link_of s coords c) a g ≡ true
  sides_kept a g m =
      let one : looks_positive coords xs a ≡ true = positive a (arc_is a g m) in
      let other : looks_positive coords xs (arc_across g a) ≡ true = positive (arc_across g a) (across_is_arc a g m) in
      ap (λ (b : Bool). if b then looks_positive coords xs (arc_across g a) else not (looks_positive coords xs (arc_across g a))) one ∙ other

  pub piece_across : (a : Arc) (g : Gluing) → Meets s.rows coords (link_of s coords c) a g → disc_of coords (link_of s coords c) (arc_across g a) ≡ triangle coords g.tet (image g.perm a.vertex)
  piece_across a g m = piece_of_arc (arc_across g a) (across_is_arc a g m)

  -- at each side of a triangle there is an arc
  abbrev pub arc_in : ℕ → ℕ → ℕ → Arc
  arc_in t f v = record { tet = t; face = f; vertex = v; place = 0 }

  pub arc_there : (t f v : ℕ) (g : Gluing) → f < 4 → (v ≡ f → ⊥) → IsMember t v → glue s.rows (record { tet = t; face = f }) ≡ Some g → Meets s.rows coords (link_of s coords c) (arc_in t f v) g
  arc_there t f v g lf off m e = record {
    in_range = m.tet;
    is_vertex = m.below_four;
    off_vertex = off;
    there = (let one : arcs_around coords (link_of s coords c) t f v ≡ 1 = arcs_around_vertex-link n s.vertices.classes c coords h t f v m.tet lf m.below_four off
        ∙ ap (λ (b : Bool). if b then 1 else 0) (eq-eqb (class_of (vertex_number t v)) c m.chosen) in omega arith);
    glued = e;
  }
