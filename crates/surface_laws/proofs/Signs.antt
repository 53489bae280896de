-- Signs of a component exist or do not: they do if no piece is joined to itself with the other sign.
use Rattle.std.proofs.Common.{◌≡◌, ℕ, ◌+◌, ◌*◌, ◌/◌, ◌%◌, ◌<◌, Bool, true, List, length, filter_map, Option, Some, None, Contains, ◌⊎◌, inl, inr, ap, ◌∙◌}
use Rattle.std.specs.Prelude.{◌==◌, if◌then◌else◌, slice_index}
use Rattle.std.proofs.lemmas.Bool.{cases_eq, eq-eqb, eqb-true}
use Rattle.table_walk_laws.specs.Joined.{IsJoined, IsSymmetric, HasNeighboursBelow}
use Rattle.table_definitions.specs.Lists.{below}
use Rattle.table_definitions.specs.Table.{Gluing, Row, inverse_gluing}
use Rattle.table_definitions.proofs.TableLaws.{Among, Among-below}
use Rattle.surface_definitions.specs.declared.Coords.{Coords}
use Rattle.surface_definitions.specs.Pieces.{Arc, arc_across, disc_of, discs_of, disc_number, Meets, AreComponents, HasSigns}
use Rattle.surface_definitions.proofs.SurfaceEvaluators.{meeting_arcs}
use Rattle.surface_laws.specs.PieceLaws.{IsSurface, face_of_arc, IsFreePiece, reversed_if}
use Rattle.surface_laws.proofs.SignedSteps.{SignedStep, steps_below, steps_back, free_by_signs, signs_by_free}
use Rattle.surface_laws.proofs.PieceTests.{among_meeting}
use Rattle.surface_laws.proofs.ComponentsFound.{listed, some_if}
use Rattle.table_walk_laws.proofs.Numberings.{HasNumbering, numbering_exists}
use Rattle.surface_laws.proofs.Spreading.{decided_all}
use Rattle.table_definitions.proofs.Listed.{contains_among, among_contains, Among-filter_map, filter_map-among, below-among}

module _ (rows : List Row) (coords : Coords) (xs : List ℕ) (s : IsSurface rows coords xs) (stays : Arc → Gluing → Bool)
    (stays_back : (a : Arc) (g : Gluing) → Meets rows coords xs a g → stays (arc_across g a) (inverse_gluing (face_of_arc a) g) ≡ stays a g) where
  abbrev n : ℕ
  n = length (discs_of xs)

  abbrev piece : Arc → ℕ
  piece a = disc_number xs (disc_of coords xs a)

  -- from a piece with a sign across an arc
  abbrev signed_from : ℕ → Arc × Gluing → Option ℕ
  signed_from k m = if piece m.0 == k / 2 then Some (2 * piece (arc_across m.1 m.0) + reversed_if (stays m.0 m.1) (k % 2)) else None

  signed : ℕ → List ℕ
  signed k = filter_map (signed_from k) (meeting_arcs rows coords xs)

  step_of : (k l : ℕ) → Contains (signed k) l → SignedStep rows coords xs stays k l
  unfolding signed
  step_of k l c =
      let m : (x : Arc × Gluing) × Among x (meeting_arcs rows coords xs) × (signed_from k x ≡ Some l) = filter_map-among (signed_from k) l (meeting_arcs rows coords xs) (among_contains l (signed k) c) in
      let t : ((piece m.0.0 == k / 2) ≡ true) × (2 * piece (arc_across m.0.1 m.0.0) + reversed_if (stays m.0.0 m.0.1) (k % 2) ≡ l) =
      some_if (piece m.0.0 == k / 2) (2 * piece (arc_across m.0.1 m.0.0) + reversed_if (stays m.0.0 m.0.1) (k % 2)) l m.2 in
      record { arc = m.0.0; gluing = m.0.1; meets = listed rows coords xs s.table m.0 m.1; one = eqb-true (piece m.0.0) (k / 2) t.0; other = t.1 }

  of_step : (k l : ℕ) → SignedStep rows coords xs stays k l → Contains (signed k) l
  unfolding signed
  of_step k l p =
      contains_among l (signed k) (Among-filter_map (signed_from k) (p.arc, p.gluing) l (meeting_arcs rows coords xs) (among_meeting rows coords xs p.arc p.gluing s.table p.meets)
      (ap (λ b. if b then Some (2 * piece (arc_across p.gluing p.arc) + reversed_if (stays p.arc p.gluing) (k % 2)) else None) (eq-eqb (piece p.arc) (k / 2) p.one) ∙ ap Some p.other))

  signed_back : IsSymmetric signed
  signed_back = steps_back rows coords xs s stays stays_back signed step_of of_step

  signed_below : HasNeighboursBelow (2 * n) signed
  signed_below = steps_below rows coords xs s stays stays_back signed step_of of_step

  numbering : HasNumbering (2 * n) signed signed_back signed_below (IsJoined signed)
  numbering = numbering_exists (2 * n) signed signed_back signed_below (IsJoined signed) (λ i j li lj. ((λ h. h), (λ h. h)))

  module _ (components : List ℕ) (count : ℕ) (are : AreComponents rows coords xs components count) (i : ℕ) where
    abbrev FreeAt : ℕ → Type 0
    FreeAt p = IsFreePiece numbering.classes components i p

    free_decided : (p : ℕ) → FreeAt p ⊎ (FreeAt p → ⊥)
    free_decided p = elim (cases_eq (slice_index components p) i) [
      | inr out ↦ inl (λ e f. out e)
      | inl e ↦ elim (cases_eq (slice_index numbering.classes (2 * p)) (slice_index numbering.classes (2 * p + 1))) [ inl same ↦ inr (λ h. h e same) | inr separate ↦ inl (λ e' f. separate f) ]
    ]

    pub signs_decided : i < count → HasSigns rows coords xs components i stays ⊎ (HasSigns rows coords xs components i stays → ⊥)
    signs_decided li = elim (decided_all FreeAt (below n) (λ p m. free_decided p)) [
      | inl all ↦ inl (signs_by_free rows coords xs s stays stays_back signed step_of of_step numbering.classes numbering.count numbering.numbered components count are i li (λ p l. all p (Among-below p n l)))
      | inr out ↦ inr (λ signs. out (λ p m. free_by_signs rows coords xs s stays stays_back signed step_of of_step numbering.classes numbering.count numbering.numbered components count are i signs p (below-among p n m)))
    ]
