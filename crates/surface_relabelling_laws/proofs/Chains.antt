-- Chains of meeting arcs are carried to chains of meeting arcs, and connected surfaces to connected surfaces.
use Rattle.std.proofs.Common.{◌≡◌, ℕ, zero, ◌/◌, ◌%◌, ◌<◌, Bool, List, [], ◌∷◌, length, map, sym, ap, ◌∙◌, subst, subst₂, arith}
use Rattle.std.specs.Prelude.{option_map, slice_index}
use Rattle.std.specs.List.{slice_index_or}
use Rattle.std.proofs.lemmas.List.FromFn.{get_or-map-range_with_len, length-map-range_with_len}
use Rattle.cone_definitions.specs.Surfaces.{IsAdmissible}
use Rattle.table_definitions.specs.Lists.{below}
use Rattle.table_definitions.specs.Table.{Gluing, Row}
use Rattle.table_definitions.specs.Relabelling.{Relabelling, IsRelabelling, Carries, relabelled_place, gluing_under}
use Rattle.table_definitions.proofs.Carried.{image_in_range, perm_permutes, carried_image}
use Rattle.table_definitions.proofs.Faces.{face_at}
use Rattle.table_definitions.proofs.PermutationLaws.{images_apart}
use Rattle.table_definitions.proofs.Permutations.{image_below}
use Rattle.table_definitions.proofs.TableLaws.{glued_face}
use Rattle.surface_definitions.specs.Coordinates.{columns_each, clash_list}
use Rattle.surface_definitions.specs.declared.Coords.{Coords}
use Rattle.surface_definitions.specs.Pieces.{NormalDisc, Arc, arc_across, disc_of, discs_of, disc_number, Meets, ArcsLead, SamePiece, AreComponents}
use Rattle.surface_laws.specs.PieceLaws.{IsSurface, IsPieceOf}
use Rattle.surface_laws.proofs.ArcPieces.{from_end, from_end_below, from_end_twice, in_width}
use Rattle.surface_laws.proofs.MeetingArcs.{meets_back}
use Rattle.surface_laws.proofs.Offsets.{piece_numbers}
use Rattle.surface_laws.proofs.PieceNumbers.{piece_at, no_piece, piece_found, listed_piece, IsFound}
use Rattle.surface_equation_laws.proofs.LocalArcs.{placed}
use Rattle.surface_relabelling_laws.proofs.Columns.{IsCarried, column_at, from_column}
use Rattle.surface_relabelling_laws.proofs.Arcs.{arcs_carried}
use Rattle.surface_relabelling_laws.proofs.Euler.{pieces_carried}
use Rattle.surface_relabelling_laws.proofs.Discs.{stays, disc_under, arc_under, disc_image}
use Rattle.surface_definitions.proofs.ColumnCounts.{tet_of_index, index_of_index}

module _ (rows : List Row) (new : List Row) (by : Relabelling) (is : IsRelabelling (length rows) by) (carries : Carries by rows new) (coords : Coords)
    (xs ys : List ℕ) (carried : IsCarried coords (length rows) by xs ys) (s : IsSurface rows coords xs) (s' : IsSurface new coords ys) where
  ok' : IsAdmissible (clash_list coords (length rows)) ys
  ok' = subst (λ n. IsAdmissible (clash_list coords n) ys) carries.same_length s'.admissible

  face_below : (a : Arc) (g : Gluing) → Meets rows coords xs a g → a.face < 4
  face_below a g m = glued_face rows (face_at a.tet a.face) g s.table.four_faces m.glued

  -- the disc of an arc
  pub disc_at : (a : Arc) (g : Gluing) → Meets rows coords xs a g → disc_of coords ys (arc_under by a) ≡ disc_under coords by xs (disc_of coords xs a)
  disc_at a g m = disc_image coords s.triangles (length rows) by is xs ys carried s.admissible ok' a.tet a.face a.vertex m.in_range (face_below a g m) m.is_vertex m.off_vertex a.place m.there

  abbrev pub glued_to : Arc → Gluing → Gluing
  glued_to a g = gluing_under (relabelled_place by a.tet) (relabelled_place by g.tet) g

  -- the image of an arc is one, and meets the image of the arc across
  pub meets_image : (a : Arc) (g : Gluing) → Meets rows coords xs a g → Meets new coords ys (arc_under by a) (glued_to a g)
  meets_image a g m =
      let p : List ℕ = slice_index_or by.perms a.tet [] in
      let h = perm_permutes (length rows) by is a.tet m.in_range in
      let lf = face_below a g m in record {
        in_range = subst (λ n. slice_index by.images a.tet < n) (sym carries.same_length) (image_in_range (length rows) by is a.tet m.in_range);
        is_vertex = image_below p h a.vertex m.is_vertex;
        off_vertex = images_apart p a.vertex a.face h m.is_vertex lf m.off_vertex;
        there = subst (λ k. a.place < k) (sym (arcs_carried coords s.triangles (length rows) by is xs ys carried a.tet a.face a.vertex m.in_range lf m.is_vertex m.off_vertex)) m.there;
        glued = carries.glued (face_at a.tet a.face) m.in_range lf ∙ ap (option_map (λ g. gluing_under (relabelled_place by a.tet) (relabelled_place by g.tet) g)) m.glued;
      }

  pub across_image : (a : Arc) (g : Gluing) → Meets rows coords xs a g → arc_across (glued_to a g) (arc_under by a) ≡ arc_under by (arc_across g a)
  across_image a g m =
      let p : List ℕ = slice_index_or by.perms a.tet [] in
      let r : List ℕ = slice_index_or by.perms g.tet [] in
      let hp = perm_permutes (length rows) by is a.tet m.in_range in
      let hr = perm_permutes (length rows) by is g.tet (s.table.in_range (face_at a.tet a.face) g m.glued) in
      let hg = s.table.permutes (face_at a.tet a.face) g m.glued in
      λ i. record {
        tet = slice_index by.images g.tet;
        face = carried_image p r g.perm a.face hp hr hg (face_below a g m) i;
        vertex = carried_image p r g.perm a.vertex hp hr hg m.is_vertex i;
        place = a.place;
      }

  pub disc_across : (a : Arc) (g : Gluing) → Meets rows coords xs a g → disc_of coords ys (arc_across (glued_to a g) (arc_under by a)) ≡ disc_under coords by xs (disc_of coords xs (arc_across g a))
  disc_across a g m = let b = meets_back rows coords xs s a g m in ap (disc_of coords ys) (across_image a g m) ∙ disc_at (arc_across g a) _ b.meets

  pub leads_image : (arcs : List Arc) (p q : NormalDisc) → ArcsLead rows coords xs p arcs q → ArcsLead new coords ys (disc_under coords by xs p) (map (arc_under by) arcs) (disc_under coords by xs q)
  leads_image [] p q e = ap (disc_under coords by xs) e
  leads_image (a ∷ more) p q (g, m, e, rest) = (
    glued_to a g,
    meets_image a g m,
    disc_at a g m ∙ ap (disc_under coords by xs) e,
    subst (λ (d : NormalDisc). ArcsLead new coords ys d (map (arc_under by) more) (disc_under coords by xs q)) (sym (disc_across a g m)) (leads_image more (disc_of coords xs (arc_across g a)) q rest),
  )

  -- a disc with this image
  pub record IsDiscFrom (d : NormalDisc) : Type 0 where
    pub source : NormalDisc
    pub is_disc : IsPieceOf xs source
    pub to_it : disc_under coords by xs source ≡ d

  pub disc_from : (d : NormalDisc) → IsPieceOf ys d → IsDiscFrom d
  disc_from d h =
      let f = from_column coords (length rows) by is d.column (subst (λ m. d.column < m) carried.to_width h.column) in
      let t : ℕ = f.0 in
      let i : ℕ = f.1 in
      let c : ℕ = placed coords t i in
      let side : Bool = stays coords (slice_index_or by.perms f.0 []) f.1 in
      let same : slice_index ys d.column ≡ slice_index xs c = ap (slice_index ys) (sym f.4) ∙ carried.entries f.0 f.1 f.2 f.3 in
      let limited : d.number < slice_index xs c = subst (λ m. d.number < m) same h.number in
      let low : from_end (slice_index xs c) side d.number < slice_index xs c = from_end_below (slice_index xs c) side d.number limited in
      let tet : c / columns_each coords ≡ t = tet_of_index coords t i f.3 in
      let index : c % columns_each coords ≡ i = index_of_index coords t i f.3 in
      record {
        source = piece_at c (from_end (slice_index xs c) side d.number);
        is_disc = record { column = in_width xs c (from_end (slice_index xs c) side d.number) low; number = low };
        to_it = (λ m. piece_at (column_at coords by t i f.3 m) (from_end (slice_index xs c) (stays coords (slice_index_or by.perms (tet m) []) (index m)) (from_end (slice_index xs c) side d.number)))
            ∙ (λ m. piece_at (f.4 m) (from_end_twice (slice_index xs c) side d.number limited m));
      }

  -- a surface in one component is carried to one
  pub components_one : (components : List ℕ) → AreComponents rows coords xs components 1 → AreComponents new coords ys (map (λ i. 0) (below (length (discs_of ys)))) 1
  components_one components one = record {
    one_each = length-map-range_with_len (λ i. 0) 0 (length (discs_of ys));
    in_range = λ i l. subst (λ m. m < 1) (sym (none i l)) (omega arith);
    together = λ i j li lj. ((λ e. joined i j li lj), (λ c. none i li ∙ sym (none j lj)));
    ascending = λ i c l less. absurd (let z : slice_index (map (λ i. zero) (below (length (discs_of ys)))) i ≡ 0 = none i l in omega arith);
    none_empty = λ c l. (0, some, none 0 some ∙ (let z : zero ≡ c = omega arith in z));
  }
    where
      none : (i : ℕ) → i < length (discs_of ys) → slice_index (map (λ i. zero) (below (length (discs_of ys)))) i ≡ 0
      none i l = get_or-map-range_with_len (λ i. zero) 0 (length (discs_of ys)) i i 0 l (omega arith)

      first : (i : ℕ) × (i < length (discs_of xs)) × (slice_index components i ≡ 0)
      first = one.none_empty 0 (omega arith)

      same_size : length (discs_of ys) ≡ length (discs_of xs)
      same_size = (piece_numbers ys).count ∙ pieces_carried coords (length rows) by is xs ys carried ∙ sym (piece_numbers xs).count

      some : 0 < length (discs_of ys)
      some = let l = first.1 in let e = same_size in omega arith

      -- the index of the disc with the image of index i
      from : (i : ℕ) → i < length (discs_of ys) → IsDiscFrom (slice_index_or (discs_of ys) i no_piece)
      from i l = disc_from (slice_index_or (discs_of ys) i no_piece) (listed_piece ys i no_piece l)

      joined : (i j : ℕ) → i < length (discs_of ys) → j < length (discs_of ys) → SamePiece new coords ys i j
      joined i j li lj =
          let a = from i li in
          let b = from j lj in
          let fa : IsFound xs a.source = piece_found xs a.source a.is_disc in
          let fb : IsFound xs b.source = piece_found xs b.source b.is_disc in
          let za : slice_index components (disc_number xs a.source) < 1 = one.in_range (disc_number xs a.source) fa.in_range in
          let zb : slice_index components (disc_number xs b.source) < 1 = one.in_range (disc_number xs b.source) fb.in_range in
          let same : slice_index components (disc_number xs a.source) ≡ slice_index components (disc_number xs b.source) = omega arith in
          let chain : SamePiece rows coords xs (disc_number xs a.source) (disc_number xs b.source) = (one.together (disc_number xs a.source) (disc_number xs b.source) fa.in_range fb.in_range).0 same in (
            map (arc_under by) chain.0,
            subst₂ (λ (p q : NormalDisc). ArcsLead new coords ys p (map (arc_under by) chain.0) q)
                (ap (disc_under coords by xs) fa.there ∙ a.to_it) (ap (disc_under coords by xs) fb.there ∙ b.to_it) (leads_image chain.0 _ _ chain.1),
          )
