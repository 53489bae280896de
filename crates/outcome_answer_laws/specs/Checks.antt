-- `check` accepts the moves that are a certificate, and no others.
use Rattle.std.specs.Prelude.{◌≡◌, ◌↔◌, ℕ, List, Ok}
use Rattle.table_definitions.specs.Table.{Row}
use Rattle.move_definitions.specs.Moves.{Move}
use Rattle.move_definitions.specs.Certificates.{IsCertificate}
use Rattle.text_document_definitions.specs.Documents.{moves_document}
use Rattle.command_definitions.specs.declared.Request.TheVariants.{Check}
use Rattle.outcome_definitions.specs.declared.Status.TheVariants.{Done}
use Rattle.outcome_definitions.specs.Lines.{accepted_text}
use Rattle.outcome_definitions.specs.Outcomes.{Outcome}
use Rattle.outcome_definitions.specs.Canonical.{done}
use Rattle.outcome_answer_laws.specs.Requests.{IsOutcomeTo}

abbrev pub CertificatesAreAccepted : Type 0
CertificatesAreAccepted =
    (words : List (List ℕ)) (bytes : List ℕ) (o : Outcome) (rows : List Row) (moves : List Move) → IsOutcomeTo Check words bytes o → moves_document bytes ≡ Ok (rows, moves)
    → (o ≡ done accepted_text) ↔ IsCertificate rows moves

-- it is done exactly there
abbrev pub CertificatesAreDone : Type 0
CertificatesAreDone =
    (words : List (List ℕ)) (bytes : List ℕ) (o : Outcome) (rows : List Row) (moves : List Move) → IsOutcomeTo Check words bytes o → moves_document bytes ≡ Ok (rows, moves)
    → (o.status ≡ Done) ↔ IsCertificate rows moves
