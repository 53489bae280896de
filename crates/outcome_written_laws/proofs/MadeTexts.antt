-- The text of a table that was made is read as the table and its moves.
use Rattle.std.proofs.Common.{◌≡◌, ℕ, List, Ok, ap, ◌∙◌}
use Rattle.table_definitions.specs.Table.{Row}
use Rattle.move_definitions.specs.Moves.{Move}
use Rattle.certificate_definitions.specs.Makings.{IsMade}
use Rattle.certificate_laws.proofs.Made.{made_are_certified_lem, made_table}
use Rattle.text_document_definitions.specs.Documents.{moves_document}
use Rattle.outcome_definitions.specs.Outcomes.{Outcome}
use Rattle.outcome_definitions.specs.Certificates.{table_then_moves}
use Rattle.outcome_written_laws.specs.Moves.{MadeAreRead, MadeAreCertified}
use Rattle.outcome_written_laws.proofs.WrittenMoves.{written_moves_read}

made_read : (seed most : ℕ) (table : List Row) (certificate : List Move) → IsMade seed most table certificate → moves_document (table_then_moves table certificate) ≡ Ok (table, certificate)
made_read seed most table certificate made =
    let c = made_are_certified_lem seed most table certificate made in
    written_moves_read table certificate c.0 (made_table seed most table certificate made) c.1

pub made_are_read_lem : MadeAreRead
made_are_read_lem seed moves o h = ap (λ (text : List ℕ). moves_document text) (ap (λ (q : Outcome). q.text) h.outcome) ∙ made_read seed moves h.table h.certificate h.made

pub made_are_certified_too : MadeAreCertified
made_are_certified_too seed moves o h = made_are_certified_lem seed moves h.table h.certificate h.made
