-- The text of a crushed table, and that of the table and the moves of a descent, are read as these.
use Rattle.std.proofs.Common.{◌≡◌, ℕ, List, Result, Ok, Err, sym, ap, ◌∙◌}
use Rattle.table_definitions.specs.Table.{Row, IsTable}
use Rattle.surface_definitions.specs.Crushing.{IsCrushed}
use Rattle.surface_definitions.specs.declared.VectorFault.TheVariants as faults
use Rattle.surface_vector_definitions.specs.Answers.{IsCrushedAlong}
use Rattle.surface_vector_definitions.specs.declared.Refusal.{Refusal}
use Rattle.surface_vector_definitions.specs.declared.Refusal.TheVariants.{Unfit, LargeSum, TooManyPieces, LargeLift, NoLift}
use Rattle.surface_laws.proofs.CrushedRows.{crushed_is_table}
use Rattle.cone_definitions.specs.Rows.{Row as EquationRow}
use Rattle.certificate_definitions.specs.Answers.{DescentAnswer, IsDescentAnswer}
use Rattle.move_laws.proofs.Played.{all_led_table}
use Rattle.certificate_laws.proofs.Descents.{descent_leads}
use Rattle.text_document_definitions.specs.Documents.{table_document, vector_document}
use Rattle.command_definitions.specs.declared.Request.TheVariants.{Crush, Descend}
use Rattle.outcome_definitions.specs.declared.Status.TheVariants.{Done, Refused, Large}
use Rattle.outcome_definitions.specs.Outcomes.{Outcome}
use Rattle.outcome_definitions.specs.Vectors.{crush_outcome, IsCrushAnswer}
use Rattle.outcome_definitions.specs.Certificates.{descend_outcome, IsDescendAnswer}
use Rattle.outcome_laws.proofs.Certified.{table_alone}
use Rattle.outcome_laws.proofs.ReadPairs.{table_with_vector}
use Rattle.outcome_written_laws.proofs.WrittenDocuments.{written_table_read}
use Rattle.outcome_written_laws.proofs.WrittenMoves.{written_moves_read}
use Rattle.outcome_written_laws.proofs.Accepted.{reached_accepted}
use Rattle.outcome_answer_laws.proofs.Asked.{answer_to, answer_to_value}
use Rattle.surface_crushing_laws.proofs.Linking.{nothing_else_is_crushed}
use Rattle.outcome_written_laws.specs.Tables.{IsReadAsCrushed, CrushedAreRead, IsDescentRead, DescentsAreRead}

module _ (rows : List Row) (xs : List ℕ) (table : IsTable rows) (o : Outcome) where
  crushed_read : (new : List Row) → IsCrushed rows xs new → o ≡ crush_outcome (Ok new) → IsReadAsCrushed rows xs o.text
  crushed_read new c reported = record {
    new = new;
    crushed = c;
    read = ap (λ (q : Outcome). table_document q.text) reported ∙ written_table_read new (crushed_is_table rows xs table new c);
    whole = λ quads. nothing_else_is_crushed rows new xs table quads c;
  }

  -- the status of a refusal is not that of success
  told_read : (equations : List EquationRow) (reported : Result (List Row) Refusal) → IsCrushedAlong rows equations xs reported → o ≡ crush_outcome reported → o.status ≡ Done → IsReadAsCrushed rows xs o.text
  told_read equations (Ok new) c e done = crushed_read new c.1 e
  told_read equations (Err (Unfit (faults.Length n))) c e done = absurd (let same : Refused ≡ Done = sym (ap (λ (q : Outcome). q.status) e) ∙ done in cc)
  told_read equations (Err (Unfit (faults.Large i))) c e done = absurd (let same : Large ≡ Done = sym (ap (λ (q : Outcome). q.status) e) ∙ done in cc)
  told_read equations (Err (Unfit (faults.NotSolution i))) c e done = absurd (let same : Refused ≡ Done = sym (ap (λ (q : Outcome). q.status) e) ∙ done in cc)
  told_read equations (Err (Unfit (faults.Clash a b))) c e done = absurd (let same : Refused ≡ Done = sym (ap (λ (q : Outcome). q.status) e) ∙ done in cc)
  told_read equations (Err (LargeSum n)) c e done = absurd c
  told_read equations (Err (TooManyPieces n)) c e done = absurd c
  told_read equations (Err LargeLift) c e done = absurd c
  told_read equations (Err (NoLift n)) c e done = absurd c

pub crushed_are_read_lem : CrushedAreRead
crushed_are_read_lem words bytes o rows xs asked spelled done =
    let a : IsCrushAnswer (rows, xs) o = answer_to_value (vector_document bytes) (rows, xs) IsCrushAnswer o spelled (answer_to Crush words bytes o asked) in
    told_read rows xs (table_with_vector bytes (rows, xs) spelled) o a.equations a.reported a.crushed a.outcome done

descent_read : (rows : List Row) (table : IsTable rows) (o : Outcome) (reported : DescentAnswer) → IsDescentAnswer rows reported → o ≡ descend_outcome reported → o.status ≡ Done → IsDescentRead rows o
descent_read rows table o (Err t) d e done = absurd (let same : Refused ≡ Done = sym (ap (λ (q : Outcome). q.status) e) ∙ done in cc)
descent_read rows table o (Ok descended) d e done =
    let led = descent_leads rows descended.moves descended.table table d.1.descent in record {
      descended = descended;
      descends = d.1;
      outcome = e;
      table = written_table_read descended.table (all_led_table rows descended.moves descended.table table led);
      moves = written_moves_read rows descended.moves descended.table table led;
      accepted = reached_accepted rows descended table d.1;
    }

pub descents_are_read_lem : DescentsAreRead
descents_are_read_lem words bytes o rows asked spelled done =
    let a : IsDescendAnswer rows o = answer_to_value (table_document bytes) rows IsDescendAnswer o spelled (answer_to Descend words bytes o asked) in
    descent_read rows (table_alone bytes rows spelled) o a.reported a.descended a.outcome done
