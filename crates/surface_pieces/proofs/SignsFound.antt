-- Signs of a component exist if and only if no piece is joined to itself with the other sign, by the classes of the
-- rows of neighbours.
use Rattle.std.proofs.Common.{◌≡◌, ℕ, ◌*◌, ◌/◌, ◌<◌, ◌≤◌, ◌↔◌, Bool, List, [], ◌∷◌, length, Option, Contains, inl, inr, sym, ap, ◌∙◌, subst, arith}
use Rattle.std.specs.List.{slice_index_or}
use Rattle.std.proofs.lemmas.Bool.{cases_lt}
use Rattle.std.proofs.lemmas.List.{get_or_past}
use Rattle.table_walk_laws.specs.Joined.{IsJoined, IsSymmetric, HasNeighboursBelow, neighbours_of}
use Rattle.table_definitions.specs.Classes.{IsNumbering}
use Rattle.table_definitions.specs.Table.{Gluing, Row, inverse_gluing}
use Rattle.surface_definitions.specs.declared.Coords.{Coords}
use Rattle.surface_definitions.specs.Pieces.{Arc, arc_across, disc_of, discs_of, disc_number, Meets, AreComponents, HasSigns}
use Rattle.surface_laws.specs.PieceLaws.{IsSurface, face_of_arc}
use Rattle.surface_laws.proofs.PieceNumbers.{no_piece, number-piece}
use Rattle.surface_laws.proofs.SignedSteps.{SignedStep, arc_found, sides_back, orientation_back, steps_below, steps_back, free_by_signs, signs_by_free}
use Rattle.surface_pieces.specs.declared.joined.SignKind.{SignKind}
use Rattle.surface_pieces.specs.declared.joined.SignKind.TheVariants.{Sides, Orientation}
use Rattle.surface_pieces.specs.declared.joined.SearchKind.TheVariants.{Signed}
use Rattle.surface_pieces.specs.Searches.{stays_at, IsArcTo, AreRows, IsFree}

module _ (rows : List Row) (coords : Coords) (xs : List ℕ) (s : IsSurface rows coords xs) where
  -- whether signs stay the same across a gluing does not depend on the side from which it is read
  stays_back : (signs : SignKind) (a : Arc) (g : Gluing) → Meets rows coords xs a g → stays_at signs coords xs (arc_across g a) (inverse_gluing (face_of_arc a) g) ≡ stays_at signs coords xs a g
  stays_back Sides a g m = sides_back rows coords xs s a g m
  stays_back Orientation a g m = orientation_back rows coords xs s a g m

  module _ (signs : SignKind) (table : List (List (Option ℕ))) (are_rows : AreRows (Signed signs) rows coords xs table) where
    abbrev n : ℕ
    n = length (discs_of xs)

    abbrev signed : ℕ → List ℕ
    signed = neighbours_of table

    abbrev stays : Arc → Gluing → Bool
    stays = stays_at signs coords xs

    abbrev piece : Arc → ℕ
    piece a = disc_number xs (disc_of coords xs a)

    none_past : (k l : ℕ) → 2 * n ≤ k → Contains (signed k) l → ⊥
    none_past k l exceeded c =
        let empty : slice_index_or table k [] ≡ [] = get_or_past table k [] (let z = are_rows.size in omega arith) in
        nothing l (subst (λ (r : List (Option ℕ)). Contains (neighbours_of (r ∷ []) 0) l) empty c)
      where
        no_neighbours : List ℕ
        no_neighbours = []

        nothing : (l : ℕ) → Contains no_neighbours l → ⊥
        nothing l (k, lk, e) = absurd (omega arith)

    step_of : (k l : ℕ) → Contains (signed k) l → SignedStep rows coords xs stays k l
    step_of k l c = elim (cases_lt k (2 * n)) [
      | inr exceeded ↦ absurd (none_past k l exceeded c)
      | inl low ↦ (let d : IsArcTo (Signed signs) rows coords xs (slice_index_or (discs_of xs) (k / 2) no_piece) k l = (are_rows.each k low l).0 c in
          record {
            arc = d.arc;
            gluing = d.gluing;
            meets = d.meets;
            one = ap (disc_number xs) d.one ∙ number-piece xs (k / 2) no_piece (omega arith);
            other = d.other;
          })
    ]

    of_step : (k l : ℕ) → SignedStep rows coords xs stays k l → Contains (signed k) l
    of_step k l p =
        let inside : piece p.arc < n = (arc_found rows coords xs s p.arc p.gluing p.meets).in_range in
        let one : piece p.arc ≡ k / 2 = p.one in
        let low : k < 2 * n = omega arith in
        (are_rows.each k low l).1 (record {
          arc = p.arc;
          gluing = p.gluing;
          meets = p.meets;
          one = sym ((arc_found rows coords xs s p.arc p.gluing p.meets).there) ∙ ap (λ i. slice_index_or (discs_of xs) i no_piece) p.one;
          other = p.other;
        })

    pub signed_below : HasNeighboursBelow (2 * n) signed
    signed_below = steps_below rows coords xs s stays (stays_back signs) signed step_of of_step

    pub signed_back : IsSymmetric signed
    signed_back = steps_back rows coords xs s stays (stays_back signs) signed step_of of_step

    module _ (classes : List ℕ) (number : ℕ) (numbered : IsNumbering (2 * n) (IsJoined signed) classes number)
        (components : List ℕ) (count : ℕ) (are : AreComponents rows coords xs components count) (i : ℕ) where
      pub free_is : i < count → IsFree classes components i ↔ HasSigns rows coords xs components i stays
      free_is li = (
        (λ h. signs_by_free rows coords xs s stays (stays_back signs) signed step_of of_step classes number numbered components count are i li
            (λ p lp. h p (omega (arith, are.one_each)))),
        (λ have p lp. free_by_signs rows coords xs s stays (stays_back signs) signed step_of of_step classes number numbered components count are i have p (omega (arith, are.one_each))),
      )
