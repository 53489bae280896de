-- Neighbours that are the meeting pieces join what is one component.
use Rattle.std.proofs.Common.{◌≡◌, ℕ, ◌<◌, List, [], ◌∷◌, length, Contains, refl, sym, ap, ◌∙◌, subst}
use Rattle.std.specs.List.{slice_index_or}
use Rattle.table_walk_laws.specs.Joined.{LeadsBy, IsJoined}
use Rattle.table_definitions.specs.Table.{Gluing, Row, inverse_gluing}
use Rattle.surface_definitions.specs.declared.Coords.{Coords}
use Rattle.surface_definitions.specs.Pieces.{NormalDisc, Arc, arc_across, disc_of, discs_of, disc_number, Meets, ArcsLead, SamePiece}
use Rattle.surface_laws.specs.PieceLaws.{IsSurface, face_of_arc, MeetsBack, ChainsOfArcs, PiecesMeet, AreMeetingPieces, JoinComponents}
use Rattle.surface_laws.proofs.MeetingArcs.{meets_back}
use Rattle.surface_laws.proofs.PieceChains.{chains_of_arcs}
use Rattle.surface_laws.proofs.PieceNumbers.{no_piece, IsFound, piece_found, number-piece}
use Rattle.surface_laws.proofs.ComponentSurfaces.{piece_there}

module _ (rows : List Row) (coords : Coords) (xs : List ℕ) (neighbours : ℕ → List ℕ) (s : IsSurface rows coords xs) (lists : AreMeetingPieces rows coords xs neighbours) where
  found : (a : Arc) (g : Gluing) → Meets rows coords xs a g → IsFound xs (disc_of coords xs a)
  found a g m = piece_found xs (disc_of coords xs a) (piece_there rows coords xs s a g m)

  found_across : (a : Arc) (g : Gluing) → Meets rows coords xs a g → IsFound xs (disc_of coords xs (arc_across g a))
  found_across a g m = let b : MeetsBack rows coords xs a g = meets_back rows coords xs s a g m in found (arc_across g a) (inverse_gluing (face_of_arc a) g) b.meets

  meet_back : (i j : ℕ) → PiecesMeet rows coords xs i j → PiecesMeet rows coords xs j i
  meet_back i j p =
      let b : MeetsBack rows coords xs p.arc p.gluing = meets_back rows coords xs s p.arc p.gluing p.meets in
      record {
        arc = arc_across p.gluing p.arc;
        gluing = inverse_gluing (face_of_arc p.arc) p.gluing;
        meets = b.meets;
        one = p.other;
        other = ap (λ (a : Arc). disc_number xs (disc_of coords xs a)) b.same ∙ p.one;
      }

  -- meeting pieces are of one component
  one_step : (i j : ℕ) → PiecesMeet rows coords xs i j → SamePiece rows coords xs i j
  one_step i j p =
      let here : slice_index_or (discs_of xs) i no_piece ≡ disc_of coords xs p.arc = ap (λ k. slice_index_or (discs_of xs) k no_piece) (sym p.one) ∙ (found p.arc p.gluing p.meets).there in
      let there : slice_index_or (discs_of xs) j no_piece ≡ disc_of coords xs (arc_across p.gluing p.arc) =
      ap (λ k. slice_index_or (discs_of xs) k no_piece) (sym p.other) ∙ (found_across p.arc p.gluing p.meets).there in
      (p.arc ∷ [], (p.gluing, p.meets, sym here, sym there))

  path_leads : (path : List ℕ) (i j : ℕ) → LeadsBy (λ a b. Contains (neighbours a) b) i path j → SamePiece rows coords xs i j
  path_leads [] i j e = subst (SamePiece rows coords xs i) e ([], refl)
  path_leads (k ∷ path) i j h =
      let c : ChainsOfArcs rows coords xs = chains_of_arcs rows coords xs s in
      c.further i k j (one_step i k ((lists i k).0 h.0)) (path_leads path k j h.1)

  arcs_join : (arcs : List Arc) (p q : NormalDisc) → ArcsLead rows coords xs p arcs q → IsJoined neighbours (disc_number xs p) (disc_number xs q)
  arcs_join [] p q e = ([], ap (disc_number xs) e)
  arcs_join (a ∷ arcs) p q (g, m, e, h) =
      let next : NormalDisc = disc_of coords xs (arc_across g a) in
      let step : Contains (neighbours (disc_number xs p)) (disc_number xs next) = (lists (disc_number xs p) (disc_number xs next)).1 (record { arc = a; gluing = g; meets = m; one = ap (disc_number xs) e; other = refl }) in
      let rest : IsJoined neighbours (disc_number xs next) (disc_number xs q) = arcs_join arcs next q h in
      (disc_number xs next ∷ rest.0, (step, rest.1))

  pub join_components : JoinComponents rows coords xs neighbours
  join_components = record {
    below = λ i j l h. let p : PiecesMeet rows coords xs i j = (lists i j).0 h in subst (λ k. k < length (discs_of xs)) p.other (found_across p.arc p.gluing p.meets).in_range;
    symmetric = λ i j h. (lists j i).1 (meet_back i j ((lists i j).0 h));
    joined = λ i j li lj. (
      (λ h. path_leads h.0 i j h.1),
      (λ h. (
          let e : disc_number xs (slice_index_or (discs_of xs) i no_piece) ≡ i = number-piece xs i no_piece li in
          let f : disc_number xs (slice_index_or (discs_of xs) j no_piece) ≡ j = number-piece xs j no_piece lj in
          subst (λ k. IsJoined neighbours k j) e (subst (IsJoined neighbours (disc_number xs (slice_index_or (discs_of xs) i no_piece))) f
          (arcs_join h.0 (slice_index_or (discs_of xs) i no_piece) (slice_index_or (discs_of xs) j no_piece) h.1)))),
    );
  }
