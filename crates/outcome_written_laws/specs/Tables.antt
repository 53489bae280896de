-- What `crush` and `descend` answer holds tables and moves that are read again.
use Rattle.std.specs.Prelude.{◌≡◌, ℕ, true, List, length, Ok}
use Rattle.table_definitions.specs.Table.{Row}
use Rattle.table_definitions.specs.TableText.{table_text}
use Rattle.surface_definitions.specs.Crushing.{IsCrushed}
use Rattle.certificate_definitions.specs.Answers.{Descended, IsDescended}
use Rattle.text_document_definitions.specs.Documents.{table_document, vector_document, moves_document}
use Rattle.command_definitions.specs.declared.Request.TheVariants.{Crush, Descend}
use Rattle.outcome_definitions.specs.declared.Status.TheVariants.{Done}
use Rattle.outcome_definitions.specs.Outcomes.{Outcome}
use Rattle.outcome_definitions.specs.Canonical.{done}
use Rattle.outcome_definitions.specs.Certificates.{table_then_moves, descent_text}
use Rattle.outcome_answer_laws.specs.Requests.{IsOutcomeTo}
use Rattle.surface_crushing_laws.specs.Laws.{HasNoQuads}
use Rattle.outcome_written_laws.specs.Certificates.{IsAccepted}

-- the text is read as the crushed table, which is the table itself where the vector has no quads
pub record IsReadAsCrushed (rows : List Row) (xs text : List ℕ) : Type 0 where
  pub new : List Row
  pub crushed : IsCrushed rows xs new
  pub read : table_document text ≡ Ok new
  pub whole : HasNoQuads (length rows) xs → new ≡ rows

abbrev pub CrushedAreRead : Type 0
CrushedAreRead =
    (words : List (List ℕ)) (bytes : List ℕ) (o : Outcome) (rows : List Row) (xs : List ℕ) → IsOutcomeTo Crush words bytes o → vector_document bytes ≡ Ok (rows, xs) → o.status ≡ Done
    → IsReadAsCrushed rows xs o.text

-- the answer of `descend`: its table, and its moves after the text of the first table, are read again, and if it
-- reached the standard sphere `check` accepts these and has no other outcome
pub record IsDescentRead (rows : List Row) (o : Outcome) : Type 0 where
  pub descended : Descended
  pub descends : IsDescended rows descended
  pub outcome : o ≡ done (descent_text descended)
  pub table : table_document (table_text descended.table) ≡ Ok descended.table
  pub moves : moves_document (table_then_moves rows descended.moves) ≡ Ok (rows, descended.moves)
  pub accepted : descended.reached ≡ true → IsAccepted rows descended.moves

abbrev pub DescentsAreRead : Type 0
DescentsAreRead =
    (words : List (List ℕ)) (bytes : List ℕ) (o : Outcome) (rows : List Row) → IsOutcomeTo Descend words bytes o → table_document bytes ≡ Ok rows → o.status ≡ Done → IsDescentRead rows o
