-- The answer of `cover` is the orientation cover.
use Rattle.std.proofs.Common.{◌≡◌, ◌↔◌, ◌⊎◌, ◌*◌, ◌<◌, ◌≤◌, ℕ, Bool, true, false, List, length, Option, None, Some, MatchOption, option_map, if◌then◌else◌, inl, inr, refl, sym, ◌∙◌, ap, ap₂, subst, arith}
use Rattle.std.specs.Prelude.{nat_lt, IsTrue}
use Rattle.std.proofs.lemmas.Bool.{ltb-true, ltb-false}
use Rattle.table_definitions.specs.Table.{max_tets, Row, Face, IsTable, glue}
use Rattle.table_definitions.specs.Places.{is_closed}
use Rattle.cover_definitions.specs.Cover.{over, sheet, above, lifted, cover, face_below, sheet_signs, too_large}
use Rattle.move_laws.proofs.Closed.{AreGluedAll, all_glued, is_closed-from}
use Rattle.cover_laws.proofs.Sheets.{cases_sheet, sheet_small, above_over, over_above, over_below, above_below, glue-cover, length-cover}
use Rattle.cover_laws.proofs.Covered.{cover_is_table, cover_signs}
use Rattle.cover_laws.proofs.Moved.{exchange_carries}
use Rattle.cover_laws.proofs.Connected.{connected_exactly}
use Rattle.text_document_definitions.specs.Documents.{table_document}
use Rattle.command_definitions.specs.declared.Request.TheVariants.{Cover}
use Rattle.outcome_definitions.specs.declared.Status.TheVariants.{Done, Refused}
use Rattle.outcome_definitions.specs.Outcomes.{Outcome}
use Rattle.outcome_definitions.specs.Canonical.{done}
use Rattle.outcome_definitions.specs.Covers.{cover_text, large_cover_outcome, IsCoverAnswered, IsCoverAnswer}
use Rattle.outcome_laws.proofs.Certified.{table_alone}
use Rattle.outcome_answer_laws.specs.Covers.{TwoLieOver, IsOrientationCover, IsCoverOutcome, IsCovering, CoversAreAnswered}
use Rattle.outcome_answer_laws.proofs.Asked.{means_by, status_of}

two_lie_over : (n : ℕ) → TwoLieOver n
two_lie_over n t u lt lu = (by_sheet, lies)
  where
    by_sheet : over n u ≡ t → (u ≡ above n t 0) ⊎ (u ≡ above n t 1)
    by_sheet e = elim (cases_sheet (sheet n u) (sheet_small n u)) [
      | inl z ↦ inl (sym (above_over n u) ∙ ap₂ (above n) e z)
      | inr s ↦ inr (sym (above_over n u) ∙ ap₂ (above n) e s)
    ]

    lies : (u ≡ above n t 0) ⊎ (u ≡ above n t 1) → over n u ≡ t
    lies (inl e) = ap (over n) e ∙ over_above n t 0 lt (omega arith)
    lies (inr e) = ap (over n) e ∙ over_above n t 1 lt (omega arith)

-- ---- each face is glued if and only if the face below it is

glued_below : {A B : Type 0} (f : A → B) (o : Option A) (h : B) → option_map f o ≡ Some h → (g : A) × (o ≡ Some g)
glued_below f None h e = absurd cc
glued_below f (Some g) h e = (g, refl)

closed_above : (rows : List Row) → AreGluedAll rows → AreGluedAll (cover rows)
closed_above rows all x lt lf =
    let low : x.tet < 2 * length rows = subst (λ k. x.tet < k) (length-cover rows) lt in
    let g = all (face_below (length rows) x) (over_below (length rows) x.tet low) lf in
    (lifted (length rows) (sheet (length rows) x.tet) g.0, glue-cover rows x low ∙ ap (option_map (lifted (length rows) (sheet (length rows) x.tet))) g.1)

closed_below : (rows : List Row) → AreGluedAll (cover rows) → AreGluedAll rows
closed_below rows all x lt lf =
    let up : Face = record { tet = above (length rows) x.tet 0; face = x.face } in
    let low : above (length rows) x.tet 0 < 2 * length rows = above_below (length rows) x.tet 0 lt (omega arith) in
    let g = all up (subst (λ k. above (length rows) x.tet 0 < k) (sym (length-cover rows)) low) lf in
    let below = glued_below (lifted (length rows) (sheet (length rows) up.tet)) (glue rows (face_below (length rows) up)) g.0 (sym (glue-cover rows up low) ∙ g.1) in
    (below.0, ap (λ t. glue rows (record { tet = t; face = x.face })) (sym (over_above (length rows) x.tet 0 lt (omega arith))) ∙ below.1)

closed_exactly : (rows : List Row) → IsTrue (is_closed (cover rows)) ↔ IsTrue (is_closed rows)
closed_exactly rows = (
  (λ e. is_closed-from rows (closed_below rows (all_glued (cover rows) e))),
  (λ e. is_closed-from (cover rows) (closed_above rows (all_glued rows e))),
)

-- ---- the outcome

module _ (rows : List Row) (table : IsTable rows) (o : Outcome) where
  orientation_cover : 2 * length rows ≤ max_tets → IsOrientationCover rows (cover rows)
  orientation_cover small = record {
    table = cover_is_table rows table small;
    twice = length-cover rows;
    two_over = two_lie_over (length rows);
    lies_over = glue-cover rows;
    orientable = (sheet_signs (length rows), cover_signs rows table);
    closed = closed_exactly rows;
    exchanged = exchange_carries rows table;
  }

  determines : 2 * length rows ≤ max_tets → IsCoverAnswered rows o → IsCoverOutcome rows o
  determines small t = record {
    is_cover = orientation_cover small;
    connected = t.0;
    outcome = t.2;
    is_connected = t.1;
    orientation = λ joined some. let e = connected_exactly rows table (cover_is_table rows table small) joined some in
        ((λ reported. e.0 (t.1.0 reported)), (λ none. t.1.1 (e.1 none)));
  }

  separate : {P : Type 0} (connected : Bool) → o ≡ done (cover_text rows connected) → o ≡ large_cover_outcome → P
  separate connected reported e =
      let z : Done ≡ Refused = sym (status_of o (done (cover_text rows connected)) reported) ∙ status_of o large_cover_outcome e in absurd cc

  by_test : (b : Bool) → nat_lt max_tets (2 * length rows) ≡ b → MatchOption (if b then Some too_large else None) (IsCoverAnswered rows o) (λ _. o ≡ large_cover_outcome) → IsCovering rows o
  by_test true e h =
      let large : max_tets < 2 * length rows = ltb-true max_tets (2 * length rows) e in
      record { too_many = ((λ same. large), (λ l. h)); reported = λ small. absurd (omega arith) }
  by_test false e h =
      let small : 2 * length rows ≤ max_tets = ltb-false max_tets (2 * length rows) e in
      record { too_many = ((λ same. separate h.0 h.2 same), (λ l. absurd (omega arith))); reported = λ l. determines small h }

  covering : IsCoverAnswer rows o → IsCovering rows o
  covering h = by_test (nat_lt max_tets (2 * length rows)) refl h

pub covers_told : CoversAreAnswered
covers_told = means_by Cover table_document IsCoverAnswer IsCovering (λ bytes o a. a) (λ bytes rows o read a. covering rows (table_alone bytes rows read) o a)
