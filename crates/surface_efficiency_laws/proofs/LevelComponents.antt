-- The component of the triangles with a given index is the link of their class.
use Rattle.std.proofs.Common.{◌≡◌, ℕ, ◌%◌, ◌<◌, ◌≤◌, cond, ap₂, List, length, inl, inr, refl, sym, ap, ◌∙◌, subst₂, arith}
use Rattle.std.specs.Prelude.{◌==◌, slice_index}
use Rattle.std.proofs.lemmas.Bool.{cases_lt, cases_eq, eq-eqb, ne_eqb}
use Rattle.cone_definitions.proofs.Entries.{same_vectors, entry_past}
use Rattle.table_definitions.specs.Lists.{below}
use Rattle.table_definitions.proofs.Listed.{below-among}
use Rattle.skeleton_definitions.specs.Links.{vertex_number}
use Rattle.skeleton_definitions.specs.Skeleton.{Skeleton, IsSkeleton}
use Rattle.surface_definitions.specs.Coordinates.{columns, columns_each, tri_column}
use Rattle.surface_definitions.specs.declared.Coords.{Coords}
use Rattle.surface_definitions.specs.Pieces.{NormalDisc, disc_number, ArcsLead, SamePiece, AreComponents, component_vector}
use Rattle.surface_laws.specs.PieceLaws.{IsSurface, IsPieceOf}
use Rattle.surface_laws.proofs.ArcPieces.{in_width}
use Rattle.surface_laws.proofs.ComponentCounts.{belongs, component_count, component_width}
use Rattle.surface_laws.proofs.Counting.{sum_by_same, sum_by-none, one_term}
use Rattle.surface_laws.proofs.PieceNumbers.{piece_at, IsFound, piece_found}
use Rattle.surface_quad_laws.specs.LinkLaws.{link_of}
use Rattle.surface_quad_laws.proofs.LinkSums.{by_column}
use Rattle.surface_quad_laws.proofs.VertexLinks.{length-link, others-link, link-one, link-none}
use Rattle.surface_laws.proofs.ColumnKinds.{low_triangle, one_triangle}
use Rattle.surface_efficiency_laws.proofs.Levels.{IsOfClass, IsDeep, triangle_at, IsLevel, level_there, stays, levels_led}

module _ (s : Skeleton) (k : IsSkeleton s) (coords : Coords) (xs : List ℕ) (w : IsSurface s.rows coords xs) (c j : ℕ) (deep : IsDeep s coords xs c j) where
  abbrev n : ℕ
  n = length s.rows

  abbrev level : ℕ → ℕ → NormalDisc
  level t v = triangle_at coords j t v

  module _ (components : List ℕ) (count i : ℕ) (numbered : AreComponents s.rows coords xs components count) (t v : ℕ) (here : IsOfClass s c t v)
      (mine : slice_index components (disc_number xs (level t v)) ≡ i) where
    abbrev of_piece : NormalDisc → ℕ
    of_piece p = slice_index components (disc_number xs p)

    found : (p : NormalDisc) → IsPieceOf xs p → IsFound xs p
    found p h = piece_found xs p h

    -- the component has each triangle with the index of the level, and no other piece
    level_in : (u y : ℕ) → IsOfClass s c u y → of_piece (level u y) ≡ i
    level_in u y m =
        let a : IsFound xs (level t v) = found (level t v) (level_there s k coords xs w c j deep t v here) in
        let b : IsFound xs (level u y) = found (level u y) (level_there s k coords xs w c j deep u y m) in
        let l = levels_led s k coords xs w c j deep u y t v m here in
        (numbered.together (disc_number xs (level u y)) (disc_number xs (level t v)) b.in_range a.in_range).1 (l.0, subst₂ (λ p q. ArcsLead s.rows coords xs p l.0 q) (sym b.there) (sym a.there) l.1) ∙ mine

    in_level : (p : NormalDisc) → IsPieceOf xs p → of_piece p ≡ i → IsLevel s coords c j p
    in_level p h e =
        let a : IsFound xs (level t v) = found (level t v) (level_there s k coords xs w c j deep t v here) in
        let b : IsFound xs p = found p h in
        let same : SamePiece s.rows coords xs (disc_number xs (level t v)) (disc_number xs p) = (numbered.together (disc_number xs (level t v)) (disc_number xs p) a.in_range b.in_range).0 (mine ∙ sym e) in
        stays s k coords xs w c j deep (level t v) p same.0 (record { tet = t; vertex = v; of_class = here; is = refl }) (subst₂ (λ p q. ArcsLead s.rows coords xs p same.0 q) a.there b.there same.1)

    none_there : (col : ℕ) → ((q : ℕ) → q < slice_index xs col → IsLevel s coords c j (piece_at col q) → ⊥) → slice_index (component_vector xs components i) col ≡ 0
    none_there col none =
        component_count xs components numbered.one_each i col
        ∙ sum_by-none (λ q. belongs xs components i (piece_at col q)) (below (slice_index xs col))
        (λ q a. let l : q < slice_index xs col = below-among q (slice_index xs col) a in
        ap (λ b. cond b 1 0) (ne_eqb (of_piece (piece_at col q)) i (λ e. none q l (in_level (piece_at col q) (record { column = in_width xs col q l; number = l }) e))))

    one_there : (u y : ℕ) → IsOfClass s c u y → slice_index (component_vector xs components i) (tri_column coords u y) ≡ 1
    one_there u y m =
        let col : ℕ = tri_column coords u y in
        let lj : j < slice_index xs col = deep u y m in
        component_count xs components numbered.one_each i col
        ∙ sum_by_same (λ q. belongs xs components i (piece_at col q)) (λ q. cond (q == j) 1 0) (below (slice_index xs col)) (λ q a. by_place q (below-among q (slice_index xs col) a))
        ∙ one_term (λ q. cond (q == j) 1 0) j (slice_index xs col) (λ q off. ap (λ b. cond b 1 0) (ne_eqb q j off)) lj ∙ ap (λ b. cond b 1 0) (eq-eqb j j refl)
      where
        by_place : (q : ℕ) → q < slice_index xs (tri_column coords u y) → belongs xs components i (piece_at (tri_column coords u y) q) ≡ cond (q == j) 1 0
        by_place q l = elim (cases_eq q j) [
          | inl e ↦ ap (λ b. cond b 1 0) (eq-eqb (of_piece (piece_at (tri_column coords u y) q)) i (ap (λ z. of_piece (piece_at (tri_column coords u y) z)) e ∙ level_in u y m)) ∙ sym (ap (λ b. cond b 1 0) (eq-eqb q j e))
          | inr off ↦ ap (λ b. cond b 1 0) (ne_eqb (of_piece (piece_at (tri_column coords u y) q)) i (λ e. off (ap (λ (p : NormalDisc). p.number)
              (in_level (piece_at (tri_column coords u y) q) (record { column = in_width xs (tri_column coords u y) q l; number = l }) e).is))) ∙ sym (ap (λ b. cond b 1 0) (ne_eqb q j off))
        ]

    -- so the component is the link of the class
    pub level_is_link : component_vector xs components i ≡ link_of s coords c
    level_is_link = same_vectors (component_vector xs components i) (link_of s coords c) widths (λ col. elim (cases_lt col (columns coords n)) [
      | inl l ↦ by_column coords w.triangles n (λ col. slice_index (component_vector xs components i) col ≡ slice_index (link_of s coords c) col) at_triangle at_other col l
      | inr exceeded ↦ entry_past (component_vector xs components i) (columns coords n) col own exceeded ∙ sym (entry_past (link_of s coords c) (columns coords n) col (length-link n s.vertices.classes c coords) exceeded)
    ])
      where
        own : length (component_vector xs components i) ≡ columns coords n
        own = component_width xs components numbered.one_each i ∙ w.solves.width

        widths : length (component_vector xs components i) ≡ length (link_of s coords c)
        widths = own ∙ sym (length-link n s.vertices.classes c coords)

        at_triangle : (u y : ℕ) → u < n → y < 4 → slice_index (component_vector xs components i) (tri_column coords u y) ≡ slice_index (link_of s coords c) (tri_column coords u y)
        at_triangle u y lu ly = elim (cases_eq (slice_index s.vertices.classes (vertex_number u y)) c) [
          | inl e ↦ one_there u y (record { tet = lu; below_four = ly; chosen = e }) ∙ sym (link-one n s.vertices.classes c coords u y w.triangles lu ly e)
          | inr off ↦ none_there (tri_column coords u y)
              (λ q l h. let o = one_triangle coords u y h.tet h.vertex w.triangles ly h.of_class.below_four (ap (λ (p : NormalDisc). p.column) h.is) in
              off (ap₂ (λ a b. slice_index s.vertices.classes (vertex_number a b)) o.0 o.1 ∙ h.of_class.chosen))
              ∙ sym (link-none n s.vertices.classes c coords u y w.triangles lu ly off)
        ]

        at_other : (col : ℕ) → col < columns coords n → 4 ≤ col % columns_each coords → slice_index (component_vector xs components i) col ≡ slice_index (link_of s coords c) col
        at_other col l high =
            none_there col (λ q lq h.
            let same : col % columns_each coords ≡ tri_column coords h.tet h.vertex % columns_each coords = ap (λ (p : NormalDisc). p.column % columns_each coords) h.is in
            let low : tri_column coords h.tet h.vertex % columns_each coords < 4 = low_triangle coords h.tet h.vertex w.triangles h.of_class.below_four in
            omega arith)
            ∙ sym (others-link n s.vertices.classes c coords col w.triangles l high)
