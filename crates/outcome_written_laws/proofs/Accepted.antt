-- Certificates are accepted.
use Rattle.std.proofs.Common.{◌≡◌, ℕ, List, Result, Ok, Err, refl, sym, ap, ◌∙◌, subst}
use Rattle.std.specs.Prelude.{◌↔◌}
use Rattle.table_definitions.specs.Table.{Row, IsTable}
use Rattle.move_definitions.specs.Moves.{Move}
use Rattle.move_definitions.specs.Certificates.{IsCertificate}
use Rattle.signature_definitions.specs.declared.InputFault.{InputFault}
use Rattle.certificate_laws.proofs.Descents.{descents_certify_lem}
use Rattle.certificate_laws.proofs.Made.{made_are_certified_lem, made_table}
use Rattle.text_document_definitions.specs.Documents.{moves_document}
use Rattle.outcome_definitions.specs.Outcomes.{Outcome, IsReadOutcome}
use Rattle.outcome_definitions.specs.Canonical.{done}
use Rattle.outcome_definitions.specs.Lines.{accepted_text}
use Rattle.outcome_definitions.specs.Certificates.{check_outcome, table_then_moves, IsCheckAnswer}
use Rattle.outcome_definitions.specs.declared.Status.TheVariants.{Done, Refused}
use Rattle.certificate_definitions.specs.declared.CheckFault.{CheckFault}
use Rattle.certificate_definitions.specs.Answers.{CheckAnswer, IsChecked}
use Rattle.outcome_laws.proofs.Certified.{one_check}
use Rattle.outcome_written_laws.specs.Certificates.{AcceptedAreCertificates, CertificatesAreAccepted, ReachedDescentsAreAccepted, MadeTablesAreAccepted}
use Rattle.outcome_written_laws.proofs.WrittenMoves.{written_moves_read}

accepted_there : (rows : List Row) (moves : List Move) (o : Outcome) → IsCertificate rows moves → o ≡ done accepted_text → IsCheckAnswer (rows, moves) o
accepted_there rows moves o c e = record { reported = Ok tt; checked = c; outcome = e }

-- the status of an error is not that of success
refused_not_done : (fault : CheckFault (List ℕ)) → check_outcome (Err fault) ≡ done accepted_text → ⊥
refused_not_done fault e = let same : Refused ≡ Done = ap (λ (o : Outcome). o.status) e in cc

accepted_certifies : (rows : List Row) (moves : List Move) (o : Outcome) (reported : CheckAnswer) → IsChecked rows moves reported → o ≡ check_outcome reported → o ≡ done accepted_text → IsCertificate rows moves
accepted_certifies rows moves o (Ok u) c e accepted = c
accepted_certifies rows moves o (Err fault) c e accepted = absurd (refused_not_done fault (sym e ∙ accepted))

pub accepted_are_certificates : AcceptedAreCertificates
accepted_are_certificates rows moves o table h = (
  λ e. accepted_certifies rows moves o h.reported h.checked h.outcome e,
  λ c. one_check (rows, moves) o (done accepted_text) table h (accepted_there rows moves (done accepted_text) c refl),
)

read_as : (rows : List Row) (moves : List Move) (o : Outcome) (document : Result (List Row × List Move) InputFault) → IsTable rows → IsCertificate rows moves → document ≡ Ok (rows, moves)
    → IsReadOutcome document IsCheckAnswer o ↔ (o ≡ done accepted_text)
read_as rows moves o document table c e =
    subst (λ (d : Result (List Row × List Move) InputFault). IsReadOutcome d IsCheckAnswer o ↔ (o ≡ done accepted_text)) (sym e) (
      λ h. one_check (rows, moves) o (done accepted_text) table h (accepted_there rows moves (done accepted_text) c refl),
      λ same. accepted_there rows moves o c same,
    )

pub certificates_accepted : CertificatesAreAccepted
certificates_accepted rows moves table c o = read_as rows moves o (moves_document (table_then_moves rows moves)) table c (written_moves_read rows moves c.0 table c.1)

pub reached_accepted : ReachedDescentsAreAccepted
reached_accepted rows d table h r = certificates_accepted rows d.moves table (descents_certify_lem rows d.moves d.table table h.descent (h.reached.0 r))

pub made_accepted : MadeTablesAreAccepted
made_accepted seed most table certificate h = certificates_accepted table certificate (made_table seed most table certificate h) (made_are_certified_lem seed most table certificate h)
