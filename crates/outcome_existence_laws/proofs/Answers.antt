-- Each table, and each two tables, have an answer.
use Rattle.std.proofs.Common.{List, ◌⊎◌, inl, inr, refl}
use Rattle.table_definitions.specs.Table.{Row, IsTable}
use Rattle.table_definitions.specs.Relabelling.{AreIsomorphic}
use Rattle.component_laws.proofs.Signatures.{component_signatures_tell}
use Rattle.outcome_definitions.specs.Outcomes.{Outcome}
use Rattle.outcome_definitions.specs.Canonical.{done, relabelling_text, different_outcome}
use Rattle.outcome_definitions.specs.Parts.{IsComponentSignatureAnswer, IsSamePartsAnswer}
use Rattle.text_definitions.specs.Written.{line}
use Rattle.outcome_existence_laws.proofs.LeastExists.{same_or_not}
use Rattle.outcome_existence_laws.proofs.Ordering.{some_component_signature}
use Rattle.outcome_existence_laws.proofs.PartRelabellings.{some_same_parts}

pub relabelled_or_not : (first second : List Row) → IsTable first → IsTable second → AreIsomorphic first second ⊎ (AreIsomorphic first second → ⊥)
relabelled_or_not first second tf ts =
    let a = some_component_signature first tf in
    let b = some_component_signature second ts in
    let tell = component_signatures_tell first second a.0 b.0 tf ts a.1 b.1 in
    elim (same_or_not a.0 b.0) [ inl same ↦ inl (tell.0 same) | inr other ↦ inr (λ r. other (tell.1 r)) ]

pub some_signature_answer : (rows : List Row) → IsTable rows → (o : Outcome) × IsComponentSignatureAnswer rows o
some_signature_answer rows table = let s = some_component_signature rows table in (done (line s.0), record { text = s.0; signature = s.1; reported = refl })

pub some_same_answer : (first second : List Row) → IsTable first → IsTable second → (o : Outcome) × IsSamePartsAnswer (first, second) o
some_same_answer first second tf ts = elim (relabelled_or_not first second tf ts) [
  | inl r ↦ let s = some_same_parts first second tf ts r in (done (relabelling_text s.0), inl (record { by = s.0; same = s.1; reported = refl }))
  | inr never ↦ (different_outcome, inr (never, refl))
]
