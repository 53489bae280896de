-- Moves are accepted if and only if they are a certificate.
use Rattle.std.proofs.Common.{◌≡◌, ◌↔◌, ℕ, List, Ok, Err, sym, ◌∙◌, ap}
use Rattle.table_definitions.specs.Table.{Row, IsTable}
use Rattle.move_definitions.specs.Moves.{Move}
use Rattle.move_definitions.specs.Certificates.{IsCertificate}
use Rattle.text_document_definitions.specs.Documents.{moves_document}
use Rattle.command_definitions.specs.declared.Request.TheVariants.{Check}
use Rattle.certificate_definitions.specs.Answers.{CheckAnswer, IsChecked}
use Rattle.certificate_laws.proofs.Checked.{answers_agree_lem}
use Rattle.outcome_definitions.specs.declared.Status.TheVariants.{Done, Refused}
use Rattle.outcome_definitions.specs.Lines.{accepted_text}
use Rattle.outcome_definitions.specs.Outcomes.{Outcome}
use Rattle.outcome_definitions.specs.Canonical.{done}
use Rattle.outcome_definitions.specs.Certificates.{check_outcome, IsCheckAnswer}
use Rattle.outcome_laws.proofs.Certified.{table_with_moves}
use Rattle.outcome_answer_laws.specs.Requests.{IsOutcomeTo}
use Rattle.outcome_answer_laws.specs.Checks.{CertificatesAreAccepted, CertificatesAreDone}
use Rattle.outcome_answer_laws.proofs.Asked.{answer_to, answer_to_value, status_of}

not_refused : {P : Type 0} → Refused ≡ Done → P
not_refused e = absurd cc

module _ (rows : List Row) (moves : List Move) where
  certified : (reported : CheckAnswer) → IsChecked rows moves reported → (check_outcome reported).status ≡ Done → IsCertificate rows moves
  certified (Ok u) checked e = checked
  certified (Err fault) checked e = not_refused e

  accepted : (reported : CheckAnswer) → IsTable rows → IsChecked rows moves reported → IsCertificate rows moves → check_outcome reported ≡ done accepted_text
  accepted reported table checked certificate =
      let yes : CheckAnswer = Ok tt in
      ap check_outcome (answers_agree_lem rows moves reported yes table checked certificate)

  decided : (o : Outcome) → IsTable rows → IsCheckAnswer (rows, moves) o → (o ≡ done accepted_text) ↔ IsCertificate rows moves
  decided o table a = (
    (λ e. certified a.reported a.checked (status_of (check_outcome a.reported) (done accepted_text) (sym a.outcome ∙ e))),
    (λ certificate. a.outcome ∙ accepted a.reported table a.checked certificate),
  )

  done_where : (o : Outcome) → IsTable rows → IsCheckAnswer (rows, moves) o → (o.status ≡ Done) ↔ IsCertificate rows moves
  done_where o table a = (
    (λ e. certified a.reported a.checked (sym (status_of o (check_outcome a.reported) a.outcome) ∙ e)),
    (λ certificate. status_of o (done accepted_text) (a.outcome ∙ accepted a.reported table a.checked certificate)),
  )

check_answered : (words : List (List ℕ)) (bytes : List ℕ) (o : Outcome) (rows : List Row) (moves : List Move) → IsOutcomeTo Check words bytes o
    → moves_document bytes ≡ Ok (rows, moves) → IsCheckAnswer (rows, moves) o
check_answered words bytes o rows moves h read = answer_to_value (moves_document bytes) (rows, moves) IsCheckAnswer o read (answer_to Check words bytes o h)

pub certificates_accepted : CertificatesAreAccepted
certificates_accepted words bytes o rows moves h read = decided rows moves o (table_with_moves bytes (rows, moves) read) (check_answered words bytes o rows moves h read)

pub done_where_certified : CertificatesAreDone
done_where_certified words bytes o rows moves h read = done_where rows moves o (table_with_moves bytes (rows, moves) read) (check_answered words bytes o rows moves h read)
