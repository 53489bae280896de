-- What a run is to answer to words and to the bytes of an input.
use Rattle.std.specs.Prelude.{◌≡◌, ℕ, Bool, ◌&&◌, List, map, length, Option, Some, None, nat_lt, codes}
use Rattle.std.specs.Bool.{MatchBool}
use Rattle.table_definitions.specs.Table.{Row}
use Rattle.cone_definitions.specs.Rows.{Row as EquationRow}
use Rattle.surface_definitions.specs.declared.Coords.{Coords}
use Rattle.surface_definitions.specs.QuadEquations.{AreEquations}
use Rattle.surface_vector_definitions.specs.Answers.{verdict_in}
use Rattle.text_document_definitions.specs.Documents.{worded, table_document, two_tables_document, tables_document, vectors_document, vector_document, steps_document, moves_document, cone_document, verdicts_text}
use Rattle.text_document_definitions.specs.Blocks.{blocks_document}
use Rattle.command_definitions.specs.declared.Request.{Request}
use Rattle.command_definitions.specs.declared.Request.TheVariants.{Verify, Info, Surfaces, Rays, Describe, Lift, Crush, Play, Sig, Same, Group, Check, Descend, Make, Bulk, Decompose, Addup, Cover, Pi1, Csig, Csame}
use Rattle.command_definitions.specs.Requests.{reads_input}
use Rattle.command_definitions.specs.Words.{accepted_request}
use Rattle.outcome_definitions.specs.declared.Status.TheVariants.{Done}
use Rattle.outcome_definitions.specs.Outcomes.{Outcome, usage_outcome, too_long_outcome}
use Rattle.outcome_definitions.specs.Meanings.{CommandMeaning, Reads, Alone, IsOutcomeBy}
use Rattle.outcome_definitions.specs.Enumerations.{IsEnumerationAnswer, IsSurfacesAnswer, ray_enumeration}
use Rattle.outcome_definitions.specs.Information.{IsInformationAnswer}
use Rattle.outcome_definitions.specs.Scripts.{IsScriptAnswer}
use Rattle.outcome_definitions.specs.Vectors.{IsDescribeAnswer, IsCrushAnswer, IsLiftsAnswer}
use Rattle.outcome_definitions.specs.Sums.{IsDecomposeAnswer, IsAddupAnswer}
use Rattle.outcome_definitions.specs.Covers.{IsCoverAnswer}
use Rattle.outcome_definitions.specs.Presented.{IsPresentationAnswer}
use Rattle.outcome_definitions.specs.Parts.{IsComponentSignatureAnswer, IsSamePartsAnswer}
use Rattle.outcome_definitions.specs.Certificates.{IsCheckAnswer, IsDescendAnswer}
use Rattle.outcome_definitions.specs.Makings.{IsMakeAnswer, IsBulkAnswer}
use Rattle.outcome_definitions.specs.Canonical.{IsSignatureAnswer, IsSameAnswer, IsGroupAnswer}

-- the greatest number of bytes of an input
abbrev pub most_bytes : ℕ
most_bytes = 1048576

-- a verdict on each vector
abbrev pub verify_outcome : Coords → List Row → List EquationRow → List (List ℕ) → Outcome
verify_outcome coords rows equations vectors = record { status = Done; text = verdicts_text (map (verdict_in coords rows equations) vectors) }

-- the answer to a table and vectors: a verdict on each vector, under the equations of the table
abbrev pub IsVerdictsAnswer : Coords → List Row × List (List ℕ) → Outcome → Type 0
IsVerdictsAnswer coords d o = (equations : List EquationRow) × AreEquations coords d.0 equations × (o ≡ verify_outcome coords d.0 equations d.1)

-- the meaning of each command, by the values of its options
abbrev pub meaning_of : Request → CommandMeaning
meaning_of (Verify coords) = Reads vectors_document (IsVerdictsAnswer coords)
meaning_of Info = Reads table_document IsInformationAnswer
meaning_of (Surfaces coords order most) = Reads table_document (IsSurfacesAnswer coords order most)
meaning_of (Rays order most) = Reads (λ bytes. worded (cone_document bytes)) (λ cone. IsEnumerationAnswer (codes "rays") (ray_enumeration order most cone))
meaning_of (Describe coords) = Reads vectors_document (IsDescribeAnswer coords)
meaning_of Lift = Reads vectors_document IsLiftsAnswer
meaning_of Crush = Reads vector_document IsCrushAnswer
meaning_of Play = Reads steps_document IsScriptAnswer
meaning_of Sig = Reads table_document IsSignatureAnswer
meaning_of Same = Reads two_tables_document IsSameAnswer
meaning_of Group = Reads tables_document IsGroupAnswer
meaning_of Check = Reads moves_document IsCheckAnswer
meaning_of Descend = Reads table_document IsDescendAnswer
meaning_of (Make seed moves) = Alone (IsMakeAnswer seed moves)
meaning_of (Bulk seed moves) = Alone (IsBulkAnswer seed moves)
meaning_of (Decompose coords most) = Reads vectors_document (IsDecomposeAnswer coords most)
meaning_of (Addup coords) = Reads blocks_document (IsAddupAnswer coords)
meaning_of Cover = Reads table_document IsCoverAnswer
meaning_of Pi1 = Reads table_document IsPresentationAnswer
meaning_of Csig = Reads table_document IsComponentSignatureAnswer
meaning_of Csame = Reads two_tables_document IsSamePartsAnswer

-- the outcome of a command on an input that is not too long
abbrev pub IsAnswerTo : Request → List ℕ → Outcome → Type 0
IsAnswerTo request bytes o = IsOutcomeBy (meaning_of request) bytes o

-- whether a command that reads is given more bytes than an input may have
abbrev pub is_too_long : Request → List ℕ → Bool
is_too_long request bytes = reads_input request && nat_lt most_bytes (length bytes)

-- the outcome of accepted words and of an input
abbrev pub IsRequestOutcome : Request → List ℕ → Outcome → Type 0
IsRequestOutcome request bytes o = MatchBool (is_too_long request bytes) (o ≡ too_long_outcome) (IsAnswerTo request bytes o)

abbrev pub IsOutcomeOf : Option Request → List ℕ → Outcome → Type 0
IsOutcomeOf None bytes o = o ≡ usage_outcome
IsOutcomeOf (Some request) bytes o = IsRequestOutcome request bytes o

-- the outcome of words and of an input
abbrev pub IsOutcome : List (List ℕ) → List ℕ → Outcome → Type 0
IsOutcome words bytes o = IsOutcomeOf (accepted_request words) bytes o
