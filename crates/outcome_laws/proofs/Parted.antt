-- The answers about the components of a table, and about those of two tables, are unique.
use Rattle.std.proofs.Common.{◌≡◌, ℕ, List, inl, inr, sym, ap, ◌∙◌}
use Rattle.table_definitions.specs.Table.{Row, IsTable}
use Rattle.table_definitions.specs.Relabelling.{Relabelling}
use Rattle.component_laws.proofs.Signatures.{one_component_signature}
use Rattle.component_laws.proofs.SameParts.{same_parts_carry}
use Rattle.component_laws.proofs.OneOrder.{one_same_parts}
use Rattle.outcome_definitions.specs.Outcomes.{Outcome}
use Rattle.outcome_definitions.specs.Canonical.{done, relabelling_text}
use Rattle.outcome_definitions.specs.Parts.{IsComponentSignatureAnswer, IsSamePartsAnswer}
use Rattle.text_definitions.specs.Written.{line}

pub one_component_answer : (rows : List Row) (o p : Outcome) → IsTable rows → IsComponentSignatureAnswer rows o → IsComponentSignatureAnswer rows p → o ≡ p
one_component_answer rows o p table h k =
    h.reported ∙ ap (λ (text : List ℕ). done (line text)) (one_component_signature rows h.text k.text table h.signature k.signature) ∙ sym k.reported

pub one_same_parts_answer : (pair : List Row × List Row) (o p : Outcome) → IsTable pair.0 → IsTable pair.1 → IsSamePartsAnswer pair o → IsSamePartsAnswer pair p → o ≡ p
one_same_parts_answer pair o p first second (inl h) (inl k) =
    h.reported ∙ ap (λ (by : Relabelling). done (relabelling_text by)) (one_same_parts pair.0 pair.1 h.by k.by first second h.same k.same) ∙ sym k.reported
one_same_parts_answer pair o p first second (inl h) (inr k) = absurd (k.0 (h.by, h.same.relabelling, same_parts_carry pair.0 pair.1 h.by first second h.same))
one_same_parts_answer pair o p first second (inr h) (inl k) = absurd (h.0 (k.by, k.same.relabelling, same_parts_carry pair.0 pair.1 k.by first second k.same))
one_same_parts_answer pair o p first second (inr h) (inr k) = h.1 ∙ sym k.1
