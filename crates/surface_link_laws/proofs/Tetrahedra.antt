-- The piece of an arc is in the arc's tetrahedron, and the number of the piece determines this tetrahedron.
use Rattle.std.proofs.Common.{◌≡◌, ℕ, zero, suc, ◌-◌, ◌/◌, ◌<◌, Bool, true, false, List, [], ◌∷◌, length, ap, ◌∙◌}
use Rattle.std.specs.Prelude.{nat_lt, slice_index, if◌then◌else◌}
use Rattle.std.specs.List.{AllByRecursion, position_or_len, slice_index_or}
use Rattle.table_definitions.specs.Table.{Gluing, Row}
use Rattle.surface_definitions.specs.Coordinates.{columns_each, tri_column, quad_column, keeping, octagon_arcs}
use Rattle.surface_definitions.specs.declared.Coords.{Coords}
use Rattle.surface_definitions.specs.Pieces.{NormalDisc, Arc, discs_of, disc_number, disc_of, further_column, further_piece, triangles_around, is_triangle_arc, keeps_by_zero, type_in, Meets}
use Rattle.surface_laws.specs.MatchingLaws.{HasTriangles}
use Rattle.surface_laws.specs.PieceLaws.{IsSurface, IsPieceOf, face_of_arc}
use Rattle.surface_laws.proofs.ColumnKinds.{triangle_in, quad_in, octagons_in}
use Rattle.surface_laws.proofs.ArcPieces.{arc_piece}
use Rattle.surface_laws.proofs.Glued.{IsGlued, glued_is}
use Rattle.surface_laws.proofs.PieceNumbers.{no_piece, IsFound, piece_found}
use Rattle.surface_laws.proofs.Turns.{keeping_below}

-- what holds of each item of a list, and of the value beyond its end, holds at each index
at_place : (P : ℕ → Type 0) (os : List ℕ) (k q : ℕ) → P q → AllByRecursion P os → P (slice_index_or os k q)
at_place P [] k q exceeded all = exceeded
at_place P (o ∷ os) zero q exceeded all = all.0
at_place P (o ∷ os) (suc k) q exceeded all = at_place P os k q exceeded all.1

abbrev IsIn : Coords → ℕ → ℕ → Type 0
IsIn coords t c = c / columns_each coords ≡ t

module _ (coords : Coords) (xs : List ℕ) (triangles : HasTriangles coords) (a : Arc) (is_vertex : a.vertex < 4) (is_face : a.face < 4) (off : a.vertex ≡ a.face → ⊥) where
  further_tet : IsIn coords a.tet (further_column coords xs a)
  further_tet =
      at_place (IsIn coords a.tet) (octagon_arcs coords a.tet a.face a.vertex) (position_or_len (λ c. nat_lt 0 (slice_index xs c)) (octagon_arcs coords a.tet a.face a.vertex))
      (quad_column coords a.tet (keeping a.vertex a.face)) (quad_in coords a.tet (keeping a.vertex a.face) (keeping_below a.vertex a.face is_vertex is_face off))
      (octagons_in coords a.tet a.face a.vertex)

  piece_tet : IsIn coords a.tet (disc_of coords xs a).column
  piece_tet = go (is_triangle_arc coords xs a)
    where
      go : (b : Bool) → IsIn coords a.tet (if b then record { column = tri_column coords a.tet a.vertex; number = a.place } else further_piece xs (further_column coords xs a) (a.place - triangles_around coords xs a) (keeps_by_zero (type_in coords (further_column coords xs a)) a.vertex)).column
      go true = triangle_in coords a.tet a.vertex triangles is_vertex
      go false = further_tet

-- the tetrahedron of the piece with a given number
abbrev pub tet_of : Coords → List ℕ → ℕ → ℕ
tet_of coords xs i = (slice_index_or (discs_of xs) i no_piece).column / columns_each coords

pub arc_tet : (rows : List Row) (coords : Coords) (xs : List ℕ) → IsSurface rows coords xs → (a : Arc) (g : Gluing) → Meets rows coords xs a g → tet_of coords xs (disc_number xs (disc_of coords xs a)) ≡ a.tet
arc_tet rows coords xs s a g m =
    let i : IsGlued rows (face_of_arc a) g = glued_is rows (face_of_arc a) g s.table m.glued in
    let piece : IsPieceOf xs (disc_of coords xs a) = arc_piece coords (length rows) xs s.triangles s.admissible a.tet a.face a.vertex m.in_range i.face m.is_vertex m.off_vertex a.place m.there in
    let found : IsFound xs (disc_of coords xs a) = piece_found xs (disc_of coords xs a) piece in
    ap (λ (p : NormalDisc). p.column / columns_each coords) found.there ∙ piece_tet coords xs s.triangles a m.is_vertex i.face m.off_vertex
