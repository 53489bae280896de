-- What there is to answer of parts.
use Rattle.std.specs.Prelude.{List}
use Rattle.table_definitions.specs.Table.{Row, IsTable}
use Rattle.outcome_definitions.specs.Outcomes.{Outcome}
use Rattle.outcome_definitions.specs.Parts.{IsComponentSignatureAnswer, IsSamePartsAnswer}

-- `csig` has an answer to each table
abbrev pub SomeComponentSignatureAnswer : Type 0
SomeComponentSignatureAnswer = (rows : List Row) → IsTable rows → (o : Outcome) × IsComponentSignatureAnswer rows o

-- and `csame` to each two
abbrev pub SomeSamePartsAnswer : Type 0
SomeSamePartsAnswer = (first second : List Row) → IsTable first → IsTable second → (o : Outcome) × IsSamePartsAnswer (first, second) o
