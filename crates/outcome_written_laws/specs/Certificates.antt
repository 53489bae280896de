-- The laws of certificates that are written: `check` accepts each.
use Rattle.std.specs.Prelude.{◌≡◌, ◌↔◌, ◌≤◌, ℕ, ◌+◌, ◌*◌, true, List, length, Some}
use Rattle.table_definitions.specs.Table.{Row, IsTable}
use Rattle.move_definitions.specs.Moves.{Move, PlaysAll}
use Rattle.move_definitions.specs.Certificates.{IsCertificate}
use Rattle.certificate_definitions.specs.Makings.{IsMade}
use Rattle.certificate_definitions.specs.Answers.{Descended, IsDescended}
use Rattle.text_document_definitions.specs.Documents.{moves_document}
use Rattle.command_definitions.specs.declared.Request.TheVariants.{Check, Make}
use Rattle.command_definitions.specs.Words.{accepted_request}
use Rattle.outcome_definitions.specs.Outcomes.{Outcome, IsReadOutcome}
use Rattle.outcome_definitions.specs.Canonical.{done}
use Rattle.outcome_definitions.specs.Lines.{accepted_text}
use Rattle.outcome_definitions.specs.Certificates.{table_then_moves, IsCheckAnswer}
use Rattle.outcome_definitions.specs.Answers.{IsOutcome, most_bytes}

-- `check` answers that moves are accepted if and only if they are a certificate
abbrev pub AcceptedAreCertificates : Type 0
AcceptedAreCertificates = (rows : List Row) (moves : List Move) (o : Outcome) → IsTable rows → IsCheckAnswer (rows, moves) o → (o ≡ done accepted_text) ↔ IsCertificate rows moves

-- the one answer of `check` to this text is that the moves are accepted
abbrev pub IsAccepted : List Row → List Move → Type 0
IsAccepted rows moves = (o : Outcome) → IsReadOutcome (moves_document (table_then_moves rows moves)) IsCheckAnswer o ↔ (o ≡ done accepted_text)

abbrev pub CertificatesAreAccepted : Type 0
CertificatesAreAccepted = (rows : List Row) (moves : List Move) → IsTable rows → IsCertificate rows moves → IsAccepted rows moves

-- so are the moves of a descent that reached the standard sphere
abbrev pub ReachedDescentsAreAccepted : Type 0
ReachedDescentsAreAccepted = (rows : List Row) (d : Descended) → IsTable rows → IsDescended rows d → d.reached ≡ true → IsAccepted rows d.moves

-- and those of the certificate of a table that was made
abbrev pub MadeTablesAreAccepted : Type 0
MadeTablesAreAccepted = (seed most : ℕ) (table : List Row) (certificate : List Move) → IsMade seed most table certificate → IsAccepted table certificate

-- the text of a table and of moves that lead from it has at most 37 bytes for a tetrahedron and 28 for a move
abbrev pub WrittenMovesAreShort : Type 0
WrittenMovesAreShort = (rows : List Row) (moves : List Move) (last : List Row) → IsTable rows → PlaysAll rows moves last → length (table_then_moves rows moves) ≤ 9 + 37 * length rows + 28 * length moves

-- where words ask for `check`, the one outcome of this text is that the moves are accepted
abbrev pub IsAcceptedByCheck : List ℕ → Type 0
IsAcceptedByCheck text = (words : List (List ℕ)) (o : Outcome) → accepted_request words ≡ Some Check → IsOutcome words text o ↔ (o ≡ done accepted_text)

-- so it is of a certificate whose text an input may have
abbrev pub CheckAcceptsCertificates : Type 0
CheckAcceptsCertificates =
    (rows : List Row) (moves : List Move) → IsTable rows → IsCertificate rows moves → length (table_then_moves rows moves) ≤ most_bytes → IsAcceptedByCheck (table_then_moves rows moves)

-- of the moves of a descent that reached the standard sphere
abbrev pub CheckAcceptsDescents : Type 0
CheckAcceptsDescents = (rows : List Row) (d : Descended) → IsTable rows → IsDescended rows d → d.reached ≡ true → IsAcceptedByCheck (table_then_moves rows d.moves)

-- and of what `make` writes
abbrev pub CheckAcceptsMade : Type 0
CheckAcceptsMade =
    (words : List (List ℕ)) (bytes : List ℕ) (o : Outcome) (seed moves : ℕ) → accepted_request words ≡ Some (Make seed moves) → IsOutcome words bytes o → IsAcceptedByCheck o.text
