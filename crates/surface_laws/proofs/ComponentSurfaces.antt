-- The vector of a component is an admissible solution: arcs that meet are of one component, so that each gluing has
-- equally many of its arcs on both sides.
use Rattle.std.proofs.Common.{◌≡◌, ℕ, ◌<◌, cond, List, [], ◌∷◌, length, Some, inl, inr, sym, ap, ◌∙◌}
use Rattle.std.specs.Prelude.{◌==◌, slice_index, sum_by}
use Rattle.std.specs.List.{slice_index_or}
use Rattle.table_definitions.specs.Lists.{below}
use Rattle.table_definitions.specs.Permutation.{image, others}
use Rattle.table_definitions.specs.Table.{Gluing, Row, Face, glue, inverse_gluing}
use Rattle.table_definitions.proofs.TableLaws.{Among}
use Rattle.surface_definitions.specs.Coordinates.{clash_list}
use Rattle.surface_definitions.specs.declared.Coords.{Coords}
use Rattle.surface_definitions.specs.Equations.{glued_pairs}
use Rattle.surface_definitions.specs.Pieces.{NormalDisc, discs_of, disc_number, Arc, arcs_around, arc_across, disc_of, Meets, ArcsLead, AreComponents, component_vector}
use Rattle.surface_laws.specs.PieceLaws.{IsSurface, face_of_arc, MeetsBack, IsPieceOf}
use Rattle.surface_laws.proofs.Glued.{IsGlued, glued_is}
use Rattle.table_definitions.proofs.PermutationLaws.{image_below, images_apart}
use Rattle.surface_laws.proofs.MeetingArcs.{arc_at, as_many, meets_back}
use Rattle.surface_laws.proofs.Matched.{pair_glued}
use Rattle.surface_laws.proofs.Solved.{rows_zero, other_is}
use Rattle.surface_laws.proofs.PieceNumbers.{no_piece, IsFound, piece_found}
use Rattle.surface_laws.proofs.ArcPieces.{arc_piece, component_arcs}
use Rattle.surface_laws.proofs.ComponentCounts.{belongs, component_inside, component_width}
use Rattle.surface_laws.proofs.Counting.{sum_by_same}
use Rattle.table_definitions.proofs.Listed.{among_contains, below-among}

module _ (rows : List Row) (coords : Coords) (xs : List ℕ) (s : IsSurface rows coords xs) where
  -- the piece of an arc
  pub piece_there : (a : Arc) (g : Gluing) → Meets rows coords xs a g → IsPieceOf xs (disc_of coords xs a)
  piece_there a g m =
      let i : IsGlued rows (face_of_arc a) g = glued_is rows (face_of_arc a) g s.table m.glued in
      arc_piece coords (length rows) xs s.triangles s.admissible a.tet a.face a.vertex m.in_range i.face m.is_vertex m.off_vertex a.place m.there

  module _ (components : List ℕ) (count : ℕ) (h : AreComponents rows coords xs components count) where
    -- arcs that meet are of one component
    pub one_component : (a : Arc) (g : Gluing) → Meets rows coords xs a g
        → slice_index components (disc_number xs (disc_of coords xs a)) ≡ slice_index components (disc_number xs (disc_of coords xs (arc_across g a)))
    one_component a g m =
        let b : MeetsBack rows coords xs a g = meets_back rows coords xs s a g m in
        let p : NormalDisc = disc_of coords xs a in
        let q : NormalDisc = disc_of coords xs (arc_across g a) in
        let fp : IsFound xs p = piece_found xs p (piece_there a g m) in
        let fq : IsFound xs q = piece_found xs q (piece_there (arc_across g a) (inverse_gluing (face_of_arc a) g) b.meets) in
        let leads : ArcsLead rows coords xs (slice_index_or (discs_of xs) (disc_number xs p) no_piece) (a ∷ []) (slice_index_or (discs_of xs) (disc_number xs q) no_piece) = (g, m, sym fp.there, sym fq.there) in
        (h.together (disc_number xs p) (disc_number xs q) fp.in_range fq.in_range).1 (a ∷ [], leads)

    module _ (i : ℕ) where
      abbrev ys : List ℕ
      ys = component_vector xs components i

      -- equally many of the component's arcs on both sides of a gluing
      component_matched : (x : Face) (g : Gluing) (v : ℕ) → glue rows x ≡ Some g → v < 4 → (v ≡ x.face → ⊥) → arcs_around coords ys x.tet x.face v ≡ arcs_around coords ys g.tet (image g.perm x.face) (image g.perm v)
      component_matched x g v e lv off =
          let into : IsGlued rows x g = glued_is rows x g s.table e in
          let w : ℕ = image g.perm v in
          let f : ℕ = image g.perm x.face in
          let n : ℕ = arcs_around coords xs x.tet x.face v in
          let same : n ≡ arcs_around coords xs g.tet f w = as_many rows coords xs s x g v e lv off in
          let lw : w < 4 = image_below g.perm v into.permutes lv in
          let off_too : w ≡ f → ⊥ = images_apart g.perm v x.face into.permutes lv into.face off in
          let one : arcs_around coords ys x.tet x.face v ≡ sum_by (λ k. belongs xs components i (disc_of coords xs (arc_at x.tet x.face v k))) (below n) =
          component_arcs coords (length rows) xs s.triangles s.admissible x.tet x.face v into.tet into.face lv off components h.one_each i in
          let other : arcs_around coords ys g.tet f w ≡ sum_by (λ k. belongs xs components i (disc_of coords xs (arc_at g.tet f w k))) (below (arcs_around coords xs g.tet f w)) =
          component_arcs coords (length rows) xs s.triangles s.admissible g.tet f w into.other_tet into.other_face lw off_too components h.one_each i in
          let meeting : (k : ℕ) → Among k (below n) → belongs xs components i (disc_of coords xs (arc_at x.tet x.face v k)) ≡ belongs xs components i (disc_of coords xs (arc_at g.tet f w k)) =
          λ k a. ap (λ c. cond (c == i) 1 0) (one_component (arc_at x.tet x.face v k) g (record { in_range = into.tet; is_vertex = lv; off_vertex = off; there = below-among k n a; glued = e })) in
          one
          ∙ sum_by_same (λ k. belongs xs components i (disc_of coords xs (arc_at x.tet x.face v k))) (λ k. belongs xs components i (disc_of coords xs (arc_at g.tet f w k))) (below n) meeting
          ∙ ap (λ m. sum_by (λ k. belongs xs components i (disc_of coords xs (arc_at g.tet f w k))) (below m)) same ∙ sym other

      pub component_surface : IsSurface rows coords ys
      component_surface = record {
        table = s.table;
        triangles = s.triangles;
        solves = rows_zero rows coords ys s.table s.triangles
            (λ y v cy cv.
            let o : (v < 4) × (v ≡ (y.0).face → ⊥) = other_is (y.0).face v (among_contains v (others (y.0).face) cv) in
            component_matched y.0 y.1 v (pair_glued rows y (among_contains y (glued_pairs rows) cy)) o.0 o.1)
            (component_width xs components h.one_each i ∙ (s.solves).width);
        admissible = λ k d l. elim (s.admissible k d l) [
          | inl z ↦ inl (component_inside xs components h.one_each i (slice_index_or (clash_list coords (length rows)) k d).0 z)
          | inr z ↦ inr (component_inside xs components h.one_each i (slice_index_or (clash_list coords (length rows)) k d).1 z)
        ];
      }
