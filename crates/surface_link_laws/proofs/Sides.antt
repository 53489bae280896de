-- A vertex link has two sides, and signs of its triangles are signs of the members of the class.
use Rattle.std.proofs.Common.{◌≡◌, ℕ, ◌/◌, ◌%◌, ◌<◌, Bool, true, false, List, length, map, refl, sym, ap, ◌∙◌, arith}
use Rattle.std.specs.Prelude.{◌↔◌, not, if◌then◌else◌, slice_index}
use Rattle.std.specs.List.{slice_index_or}
use Rattle.std.proofs.lemmas.List.{length-map, get_or-map}
use Rattle.std.proofs.lemmas.List.FromFn.{length-range_with_len, get_or-range_with_len}
use Rattle.table_definitions.specs.Lists.{below}
use Rattle.table_definitions.specs.Permutation.{image, is_odd}
use Rattle.table_definitions.specs.Table.{Gluing}
use Rattle.table_definitions.proofs.PermutationLaws.{image_below}
use Rattle.table_definitions.proofs.Faces.{face_at}
use Rattle.skeleton_definitions.specs.Links.{vertex_number, AreLinkSigns, IsOrientableLink}
use Rattle.skeleton_definitions.specs.Orientation.{sign_of}
use Rattle.skeleton_definitions.specs.Skeleton.{Skeleton, IsSkeleton}
use Rattle.surface_definitions.specs.Coordinates.{columns_each, tri_column}
use Rattle.surface_definitions.specs.Pieces.{NormalDisc, Arc, discs_of, disc_number, disc_of, arc_across, Meets, AreComponents, IsTwoSided, IsOrientableComponent, keeps_sides}
use Rattle.surface_definitions.specs.declared.Coords.{Coords}
use Rattle.surface_definitions.proofs.ColumnCounts.{index_of_index}
use Rattle.surface_laws.specs.MatchingLaws.{HasTriangles}
use Rattle.surface_laws.specs.PieceLaws.{face_of_arc}
use Rattle.surface_laws.proofs.ColumnKinds.{triangle_in, triangle_place}
use Rattle.surface_laws.proofs.Glued.{IsGlued, glued_is}
use Rattle.surface_laws.proofs.PieceNumbers.{no_piece, IsFound, piece_found}
use Rattle.surface_laws.proofs.Vertices.{class_across}
use Rattle.surface_quad_laws.specs.LinkLaws.{link_of}
use Rattle.surface_link_laws.proofs.Components.{in_first}
use Rattle.surface_link_laws.proofs.Pieces.{triangle, IsMember, triangle_there, arc_is, arc_in, arc_there, piece_of_arc, piece_across, sides_kept}

-- the vertex of a triangle, by the column
vertex_in : (coords : Coords) → ℕ → ℕ
vertex_in coords i = vertex_number (i / columns_each coords) (i % columns_each coords)

vertex-triangle : (coords : Coords) → HasTriangles coords → (t v : ℕ) → v < 4 → vertex_in coords (tri_column coords t v) ≡ vertex_number t v
unfolding vertex_in
vertex-triangle coords h t v l = λ i. vertex_number (triangle_in coords t v h l i) (index_of_index coords t v (triangle_place coords v h l) i)

-- if sides are kept, signs stay the same across odd gluings, and only there
stays_by : (kept odd : Bool) (x : Bool) → kept ≡ true
    → (if (if odd then kept else not kept) then x else not x) ≡ (if odd then x else not x)
stays_by kept odd x e = ap (λ (b : Bool). if (if odd then b else not b) then x else not x) e ∙ by_odd odd
  where
    by_odd : (o : Bool) → (if (if o then true else not true) then x else not x) ≡ (if o then x else not x)
    by_odd true = refl
    by_odd false = refl

module _ (s : Skeleton) (k : IsSkeleton s) (c : ℕ) (coords : Coords) (h : HasTriangles coords) where
  abbrev n : ℕ
  n = length s.rows

  abbrev xs : List ℕ
  xs = link_of s coords c

  pub two_sides : (components : List ℕ) (i : ℕ) → IsTwoSided s.rows coords (link_of s coords c) components i
  two_sides components i = (λ j. true, λ a g m e. sym (ap (λ (b : Bool). if b then true else not true) (sides_kept s k c coords h a g m)))

  -- the number of the triangle at a member
  abbrev number : ℕ → ℕ → ℕ
  number t v = disc_number (link_of s coords c) (triangle coords t v)

  number_found : (t v : ℕ) → IsMember s k c coords h t v → IsFound (link_of s coords c) (triangle coords t v)
  number_found t v m = piece_found xs (triangle coords t v) (triangle_there s k c coords h t v m)

  arc_number : (a : Arc) (g : Gluing) → Meets s.rows coords (link_of s coords c) a g → disc_number (link_of s coords c) (disc_of coords (link_of s coords c) a) ≡ number a.tet a.vertex
  arc_number a g m = ap (disc_number xs) (piece_of_arc s k c coords h a (arc_is s k c coords h a g m))

  across_number : (a : Arc) (g : Gluing) → Meets s.rows coords (link_of s coords c) a g → disc_number (link_of s coords c) (disc_of coords (link_of s coords c) (arc_across g a)) ≡ number g.tet (image g.perm a.vertex)
  across_number a g m = ap (disc_number xs) (piece_across s k c coords h a g m)

  module _ (lc : c < s.vertices.count) (components : List ℕ) (count : ℕ) (numbered : AreComponents s.rows coords (link_of s coords c) components count) where
    -- signs of the members, by the signs of the pieces
    signs_by : (ℕ → Bool) → List Bool
    signs_by sign = map (λ i. sign (number (i / 4) (i % 4))) (below (length s.vertices.classes))

    length-signs : (sign : ℕ → Bool) → length (signs_by sign) ≡ length s.vertices.classes
    unfolding signs_by
    length-signs sign = length-map (below (length s.vertices.classes)) (λ i. sign (number (i / 4) (i % 4))) ∙ length-range_with_len 0 (length s.vertices.classes)

    sign-at : (sign : ℕ → Bool) (t v : ℕ) → t < n → v < 4 → sign_of (signs_by sign) (vertex_number t v) ≡ sign (number t v)
    unfolding signs_by
    sign-at sign t v lt lv =
        let i : ℕ = vertex_number t v in
        let li : vertex_number t v < length s.vertices.classes = omega (arith, (k.vertices).one_each) in
        let inside : vertex_number t v < length (below (length s.vertices.classes)) = omega (arith, length-range_with_len 0 (length s.vertices.classes)) in
        let at : slice_index (below (length s.vertices.classes)) i ≡ i = get_or-range_with_len 0 (length s.vertices.classes) i 0 li ∙ omega arith in
        let d : vertex_number t v / 4 ≡ t = omega arith in
        let r : vertex_number t v % 4 ≡ v = omega arith in
        get_or-map (λ i. sign (number (i / 4) (i % 4))) (below (length s.vertices.classes)) i 0 false inside
        ∙ ap (λ i. sign (number (i / 4) (i % 4))) at ∙ (λ j. sign (number (d j) (r j)))

    to_link : IsOrientableComponent s.rows coords (link_of s coords c) components 0 → IsOrientableLink s.rows s.vertices.classes c
    to_link o = (signs_by o.0, length-signs o.0, agree)
      where
        agree : AreLinkSigns s.rows s.vertices.classes c (signs_by o.0)
        agree t v f g lv lf off ch e =
            let i : IsGlued s.rows (face_at t f) g = glued_is s.rows (face_at t f) g k.table e in
            let m : IsMember s k c coords h t v = record { tet = i.tet; below_four = lv; chosen = ch } in
            let a : Arc = arc_in s k c coords h t f v in
            let meets : Meets s.rows coords xs a g = arc_there s k c coords h t f v g lf off m e in
            let here = arc_number a g meets in
            let first : slice_index components (disc_number xs (disc_of coords xs a)) ≡ 0 =
            ap (slice_index components) here ∙ in_first s k c coords h lc components count numbered (number t v) (number_found t v m).in_range in
            sign-at o.0 g.tet (image g.perm v) i.other_tet (image_below g.perm v i.permutes lv) ∙ ap o.0 (sym (across_number a g meets)) ∙ o.1 a g meets first
            ∙ stays_by (keeps_sides coords xs a g) (is_odd g.perm) (o.0 (disc_number xs (disc_of coords xs a))) (sides_kept s k c coords h a g meets)
            ∙ ap (λ (b : Bool). if is_odd g.perm then b else not b) (ap o.0 here ∙ sym (sign-at o.0 t v i.tet lv))

    -- signs of the pieces, by the signs of the members
    sign_by : List Bool → ℕ → Bool
    sign_by signs j = sign_of signs (vertex_in coords (slice_index_or (discs_of (link_of s coords c)) j no_piece).column)

    sign-piece : (signs : List Bool) (t v : ℕ) → IsMember s k c coords h t v → sign_by signs (number t v) ≡ sign_of signs (vertex_number t v)
    unfolding sign_by
    sign-piece signs t v m =
        ap (λ (p : NormalDisc). sign_of signs (vertex_in coords p.column)) (number_found t v m).there
        ∙ ap (sign_of signs) (vertex-triangle coords h t v m.below_four)

    from_link : IsOrientableLink s.rows s.vertices.classes c → IsOrientableComponent s.rows coords (link_of s coords c) components 0
    from_link o = (sign_by o.0, agree)
      where
        agree : (a : Arc) (g : Gluing) → Meets s.rows coords (link_of s coords c) a g → slice_index components (disc_number (link_of s coords c) (disc_of coords (link_of s coords c) a)) ≡ 0
            → sign_by o.0 (disc_number (link_of s coords c) (disc_of coords (link_of s coords c) (arc_across g a)))
            ≡ (if (if is_odd g.perm then keeps_sides coords (link_of s coords c) a g else not (keeps_sides coords (link_of s coords c) a g))
            then sign_by o.0 (disc_number (link_of s coords c) (disc_of coords (link_of s coords c) a)) else not (sign_by o.0 (disc_number (link_of s coords c) (disc_of coords (link_of s coords c) a))))
        agree a g meets first =
            let i : IsGlued s.rows (face_of_arc a) g = glued_is s.rows (face_of_arc a) g k.table meets.glued in
            let m : IsMember s k c coords h a.tet a.vertex = (arc_is s k c coords h a g meets).is_member in
            let there : IsMember s k c coords h g.tet (image g.perm a.vertex) = record {
              tet = i.other_tet;
              below_four = image_below g.perm a.vertex i.permutes m.below_four;
              chosen = sym (class_across s.rows k.table s.vertices.classes s.vertices.count k.vertices (face_of_arc a) g a.vertex meets.glued m.below_four meets.off_vertex) ∙ m.chosen;
            } in
            ap (sign_by o.0) (across_number a g meets) ∙ sign-piece o.0 g.tet (image g.perm a.vertex) there
            ∙ o.2 a.tet a.vertex a.face g m.below_four i.face meets.off_vertex m.chosen meets.glued
            ∙ ap (λ (b : Bool). if is_odd g.perm then b else not b) (sym (sign-piece o.0 a.tet a.vertex m) ∙ ap (sign_by o.0) (sym (arc_number a g meets)))
            ∙ sym (stays_by (keeps_sides coords xs a g) (is_odd g.perm) (sign_by o.0 (disc_number xs (disc_of coords xs a))) (sides_kept s k c coords h a g meets))

    pub orientable_alike : IsOrientableComponent s.rows coords (link_of s coords c) components 0 ↔ IsOrientableLink s.rows s.vertices.classes c
    orientable_alike = (to_link, from_link)
