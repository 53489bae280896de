-- Answers of `sig`, and of `csig`, are equal if and only if the tables are isomorphic.
use Rattle.std.specs.Prelude.{◌≡◌, ◌↔◌, ℕ, List, Ok}
use Rattle.table_definitions.specs.Table.{Row}
use Rattle.table_definitions.specs.Places.{IsConnected}
use Rattle.table_definitions.specs.Relabelling.{AreIsomorphic}
use Rattle.text_document_definitions.specs.Documents.{table_document}
use Rattle.command_definitions.specs.declared.Request.{Request}
use Rattle.command_definitions.specs.declared.Request.TheVariants.{Sig, Csig}
use Rattle.outcome_definitions.specs.Outcomes.{Outcome}
use Rattle.outcome_answer_laws.specs.Requests.{IsOutcomeTo}

-- the outcome of a request on an input that spells a table
pub record IsTableOutcome (request : Request) (rows : List Row) (o : Outcome) : Type 0 where
  pub words : List (List ℕ)
  pub bytes : List ℕ
  pub asked : IsOutcomeTo request words bytes o
  pub spelled : table_document bytes ≡ Ok rows

abbrev pub SignaturesDetermine : Type 0
SignaturesDetermine =
    (first second : List Row) (o p : Outcome) → IsTableOutcome Sig first o → IsTableOutcome Sig second p → IsConnected first → IsConnected second
    → (o ≡ p) ↔ AreIsomorphic first second

abbrev pub ComponentSignaturesDetermine : Type 0
ComponentSignaturesDetermine = (first second : List Row) (o p : Outcome) → IsTableOutcome Csig first o → IsTableOutcome Csig second p → (o ≡ p) ↔ AreIsomorphic first second
