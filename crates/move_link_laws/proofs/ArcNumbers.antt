-- Boundary arcs of a link, by the numbers of sides.
use Rattle.std.proofs.Common.{◌≡◌, ℕ, ◌+◌, ◌*◌, ◌/◌, ◌%◌, ◌<◌, List, length, sym, ap, ◌∙◌, arith}
use Rattle.std.specs.Prelude.{slice_index}
use Rattle.table_definitions.specs.Table.{glue}
use Rattle.table_definitions.proofs.Faces.{face_at}
use Rattle.table_definitions.proofs.TableLaws.{Among}
use Rattle.skeleton_definitions.specs.Skeleton.{Skeleton, IsSkeleton}
use Rattle.skeleton_laws.proofs.Halves.{frees, free_is, is_free}
use Rattle.skeleton_laws.proofs.SideParts.{IsSideAt, side_is, is_side_from, side_number, HasParts, has_parts}
use Rattle.move_link_laws.specs.BoundaryCurves.{LinkSide, IsBoundaryArc}

abbrev pub arc_number : LinkSide → ℕ
arc_number a = side_number a.tet a.vertex a.face

abbrev pub arc_of : ℕ → LinkSide
arc_of n = record { tet = n / 4 / 4; vertex = n / 4 % 4; face = n % 4 }

module _ (s : Skeleton) (c : ℕ) where
  pub parts_of : (a : LinkSide) → IsBoundaryArc s c a → HasParts a.tet a.vertex a.face
  parts_of a is = has_parts a.tet a.vertex a.face is.is_vertex is.is_face

  pub arc_again : (a : LinkSide) → IsBoundaryArc s c a → arc_of (arc_number a) ≡ a
  arc_again a is = let p = parts_of a is in λ i. record { tet = p.tet i; vertex = p.vertex i; face = p.face i }

module _ (s : Skeleton) (k : IsSkeleton s) (c : ℕ) where
  abbrev pub arc_numbers : List ℕ
  arc_numbers = frees s.rows k.table s.vertices.classes s.vertices.count k.vertices c

  pub arc_is : (n : ℕ) → Among n arc_numbers → IsBoundaryArc s c (arc_of n)
  arc_is n a =
      let f = free_is s.rows k.table s.vertices.classes s.vertices.count k.vertices c n a in
      let side : IsSideAt s.vertices.classes c n = side_is s.vertices.classes c n f.1 in
      let l : n < 4 * (4 * length s.rows) = f.0 in
      let place : 4 * (n / 4 / 4) + n / 4 % 4 ≡ n / 4 = omega arith in
      record {
        in_range = omega arith;
        is_vertex = omega arith;
        is_face = omega arith;
        off_vertex = side.off;
        of_class = ap (slice_index s.vertices.classes) place ∙ side.at;
        in_boundary = f.2;
      }

  pub is_arc : (a : LinkSide) → IsBoundaryArc s c a → Among (arc_number a) arc_numbers
  is_arc a is =
      let p : HasParts a.tet a.vertex a.face = parts_of s c a is in
      let small : arc_number a < 4 * (4 * length s.rows) = (let t = is.in_range in let v = is.is_vertex in let f = is.is_face in omega arith) in
      is_free s.rows k.table s.vertices.classes s.vertices.count k.vertices c (arc_number a) small
      (is_side_from s.vertices.classes c (arc_number a) (λ e. is.off_vertex (sym p.vertex ∙ e ∙ p.face)) (ap (slice_index s.vertices.classes) p.place ∙ is.of_class))
      ((λ i. glue s.rows (face_at (p.tet i) (p.face i))) ∙ is.in_boundary)
