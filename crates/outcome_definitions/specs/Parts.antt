-- The answers of `csig` and `csame`: the component signature of a table, and a relabelling from one table to another.
use Rattle.std.specs.Prelude.{◌≡◌, ◌⊎◌, ℕ, List}
use Rattle.table_definitions.specs.Table.{Row}
use Rattle.table_definitions.specs.Relabelling.{Relabelling, AreIsomorphic}
use Rattle.component_definitions.specs.ComponentSignature.{IsComponentSignature}
use Rattle.component_definitions.specs.SameParts.{IsSameParts}
use Rattle.text_definitions.specs.Written.{line}
use Rattle.outcome_definitions.specs.Outcomes.{Outcome}
use Rattle.outcome_definitions.specs.Canonical.{done, relabelling_text, different_outcome}

-- the answer of `csig` to a table
pub record IsComponentSignatureAnswer (rows : List Row) (o : Outcome) : Type 0 where
  pub text : List ℕ
  pub signature : IsComponentSignature rows text
  pub reported : o ≡ done (line text)

-- the answer is the relabelling that carries the components of the first table to those of the second
pub record AreSameParts (first second : List Row) (o : Outcome) : Type 0 where
  pub by : Relabelling
  pub same : IsSameParts first second by
  pub reported : o ≡ done (relabelling_text by)

-- the answer of `csame` to two tables: such a relabelling, or that none carries the first to the second
abbrev pub IsSamePartsAnswer : List Row × List Row → Outcome → Type 0
IsSamePartsAnswer pair o = AreSameParts pair.0 pair.1 o ⊎ ((AreIsomorphic pair.0 pair.1 → ⊥) × (o ≡ different_outcome))
