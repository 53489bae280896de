-- Solutions of the matching equations of a table are carried to solutions of those of its relabelling.
use Rattle.std.proofs.Common.{◌≡◌, ℕ, ◌<◌, List, [], length, Option, Some, None, Contains, refl, sym, ap, ◌∙◌, subst, arith}
use Rattle.std.specs.Prelude.{option_map, slice_index}
use Rattle.std.specs.List.{slice_index_or}
use Rattle.cone_definitions.specs.Rows.{IsSolution}
use Rattle.table_definitions.specs.Permutation.{IsPermutationOfFour, image, preimage, inverse, compose, others}
use Rattle.table_definitions.specs.Table.{Gluing, Row, Face, glue, IsTable}
use Rattle.table_definitions.specs.Relabelling.{Relabelling, IsRelabelling, Carries, relabelled_place, face_under, gluing_under}
use Rattle.table_definitions.proofs.Carried.{stands_for, RepresentsFacet, carried_image, perm_permutes, carried_is_table}
use Rattle.table_definitions.proofs.Listed.{among_contains}
use Rattle.table_definitions.proofs.PermutationLaws.{images_apart}
use Rattle.table_definitions.proofs.Permutations.{image_below, preimage_below, image-preimage}
use Rattle.table_definitions.proofs.TableLaws.{glued_tet, glued_face}
use Rattle.surface_definitions.specs.Coordinates.{columns}
use Rattle.surface_definitions.specs.declared.Coords.{Coords}
use Rattle.surface_definitions.specs.Equations.{Holds, glued_pairs, matching, matching_rows}
use Rattle.surface_definitions.specs.Pieces.{arcs_around}
use Rattle.surface_laws.specs.MatchingLaws.{HasTriangles}
use Rattle.surface_laws.proofs.Glued.{IsGlued, glued_is}
use Rattle.surface_laws.proofs.Matched.{pair_glued}
use Rattle.surface_laws.proofs.Solved.{rows_zero, solved, other_is}
use Rattle.surface_relabelling_laws.proofs.Columns.{IsCarried}
use Rattle.surface_relabelling_laws.proofs.Arcs.{arcs_carried}

module _ (rows : List Row) (new : List Row) (by : Relabelling) (table : IsTable rows) (is : IsRelabelling (length rows) by) (carries : Carries by rows new) where
  -- a glued face of the new table as the image of one of the old table
  pub record IsFrom (y : Face) (h : Gluing) : Type 0 where
    pub x : Face
    pub g : Gluing
    pub glued : glue rows x ≡ Some g
    pub faces : face_under (relabelled_place by x.tet) x ≡ y
    pub gluings : gluing_under (relabelled_place by x.tet) (relabelled_place by g.tet) g ≡ h

  pub is_from : (y : Face) (h : Gluing) → glue new y ≡ Some h → IsFrom y h
  is_from y h e = by_glue s.0 s.1 (glue rows (s.0)) refl
    where
      s : (x : Face) × RepresentsFacet rows new by y x
      s = stands_for rows new by is carries y (let w = carries.same_length in let l = glued_tet new y h e in omega arith) (glued_face new y h carries.four_faces e)

      by_glue : (x : Face) → RepresentsFacet rows new by y x → (o : Option Gluing) → glue rows x ≡ o → IsFrom y h
      by_glue x st None z =
          let some : None ≡ Some h = sym (st.glued ∙ ap (option_map (λ g. gluing_under (relabelled_place by x.tet) (relabelled_place by g.tet) g)) z) ∙ e in
          absurd cc
      by_glue x st (Some g) z =
          let some : Some (gluing_under (relabelled_place by x.tet) (relabelled_place by g.tet) g) ≡ Some h = sym (st.glued ∙ ap (option_map (λ g. gluing_under (relabelled_place by x.tet) (relabelled_place by g.tet) g)) z) ∙ e in
          record { x = x; g = g; glued = z; faces = st.is; gluings = cc }

  module _ (coords : Coords) (triangles : HasTriangles coords) (xs ys : List ℕ) (carried : IsCarried coords (length rows) by xs ys)
      (solution : IsSolution (columns coords (length rows)) (matching_rows coords rows) xs) where
    -- as many arcs on both sides of the image of a glued face
    matched_at : (x : Face) (g : Gluing) (w : ℕ) → glue rows x ≡ Some g → w < 4 → (w ≡ x.face → ⊥)
        → Holds (matching coords (face_under (relabelled_place by x.tet) x) (gluing_under (relabelled_place by x.tet) (relabelled_place by g.tet) g) (image (relabelled_place by x.tet).perm w)) ys
    matched_at x g w e lw off =
        let a : IsGlued rows x g = glued_is rows x g table e in
        let s : List ℕ = slice_index_or by.perms x.tet [] in
        let r : List ℕ = slice_index_or by.perms g.tet [] in
        let hs : IsPermutationOfFour s = perm_permutes (length rows) by is x.tet a.tet in
        let hr : IsPermutationOfFour r = perm_permutes (length rows) by is g.tet a.other_tet in
        let q : List ℕ = compose r (compose g.perm (inverse s)) in
        let face : image q (image s x.face) ≡ image r (image g.perm x.face) = carried_image s r g.perm x.face hs hr a.permutes a.face in
        let vertex : image q (image s w) ≡ image r (image g.perm w) = carried_image s r g.perm w hs hr a.permutes lw in
        arcs_carried coords triangles (length rows) by is xs ys carried x.tet x.face w a.tet a.face lw off
        ∙ solved rows coords xs table triangles solution x g w e lw off
        ∙ sym (arcs_carried coords triangles (length rows) by is xs ys carried g.tet (image g.perm x.face) (image g.perm w) a.other_tet a.other_face (image_below g.perm a.permutes w lw) (images_apart g.perm w x.face a.permutes lw a.face off))
        ∙ (λ i. arcs_around coords ys (slice_index by.images g.tet) (sym face i) (sym vertex i))

    pub solution_carried : IsSolution (columns coords (length new)) (matching_rows coords new) ys
    solution_carried =
        rows_zero new coords ys table' triangles holds (carried.to_width ∙ ap (columns coords) (sym carries.same_length))
      where
        table' : IsTable new
        table' = carried_is_table rows new by table is carries

        holds : (y : Face × Gluing) (v : ℕ) → Contains (glued_pairs new) y → Contains (others (y.0).face) v → Holds (matching coords y.0 y.1 v) ys
        holds y v cy cv =
            let o = other_is (y.0).face v (among_contains v (others (y.0).face) cv) in
            at_face (y.0) (y.1) v (is_from y.0 y.1 (pair_glued new y (among_contains y (glued_pairs new) cy))) o.0 o.1
          where
            at_face : (z : Face) (h : Gluing) (v : ℕ) → IsFrom z h → v < 4 → (v ≡ z.face → ⊥) → Holds (matching coords z h v) ys
            at_face z h v f lv off =
                let s : List ℕ = slice_index_or by.perms (f.x).tet [] in
                let a : IsGlued rows f.x f.g = glued_is rows f.x f.g table f.glued in
                let hs : IsPermutationOfFour s = perm_permutes (length rows) by is (f.x).tet a.tet in
                let back : image s (preimage s v) ≡ v = image-preimage s hs v lv in
                subst (λ w. Holds (matching coords z h w) ys) back
                (subst (λ k. Holds (matching coords z k (image s (preimage s v))) ys) f.gluings
                (subst (λ x. Holds (matching coords x (gluing_under (relabelled_place by (f.x).tet) (relabelled_place by (f.g).tet) f.g) (image s (preimage s v))) ys) f.faces
                (matched_at f.x f.g (preimage s v) f.glued (preimage_below s hs v lv) (λ e. off (sym back ∙ ap (image s) e ∙ ap (λ (x : Face). x.face) f.faces)))))
