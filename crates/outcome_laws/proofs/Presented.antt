-- The answer about the group of a table is unique.
use Rattle.std.proofs.Common.{◌≡◌, ℕ, ◌⊎◌, inl, inr, List, None, Some, subst, sym, ap, ◌∙◌}
use Rattle.std.proofs.lemmas.Bool.{cases_order}
use Rattle.table_definitions.specs.Table.{Row}
use Rattle.table_definitions.specs.Places.{IsConnected}
use Rattle.skeleton_definitions.specs.Skeleton.{Skeleton, IsFirstInvalid}
use Rattle.presentation_definitions.specs.Presentations.{Presentation}
use Rattle.presentation_definitions.specs.Groups.{HasGroup}
use Rattle.presentation_laws.proofs.OnePresentation.{one_presentation}
use Rattle.surface_vector_definitions.specs.Texts.{invalid_edge_line}
use Rattle.outcome_definitions.specs.declared.Status.TheVariants.{Refused}
use Rattle.outcome_definitions.specs.Outcomes.{Outcome}
use Rattle.outcome_definitions.specs.Canonical.{done, IsNotConnected}
use Rattle.outcome_definitions.specs.Vectors.{IsInvalidAnswered}
use Rattle.outcome_definitions.specs.Presented.{presentation_text, IsPresented, IsPresentationAnswer}
use Rattle.outcome_laws.proofs.Labelled.{one_not_connected, not_both}
use Rattle.skeleton_definitions.proofs.OneSkeleton.{one_skeleton}

-- the least invalid edge class is unique
one_invalid : (s : Skeleton) (c d : ℕ) → IsFirstInvalid s (Some c) → IsFirstInvalid s (Some d) → c ≡ d
one_invalid s c d h k = elim (cases_order c d) [
  | inl e ↦ e
  | inr (inl less) ↦ absurd (k.2 c less h.1)
  | inr (inr more) ↦ absurd (h.2 d more k.1)
]

pub one_refusal : (s : Skeleton) (o p : Outcome) → IsInvalidAnswered s o → IsInvalidAnswered s p → o ≡ p
one_refusal s o p h k =
    let make : ℕ → Outcome = λ c. record { status = Refused; text = invalid_edge_line c } in
    h.2 ∙ ap make (one_invalid s h.0 k.0 h.1 k.1) ∙ sym k.2

pub never_invalid : {P : Type 0} (s : Skeleton) (o : Outcome) → IsFirstInvalid s None → IsInvalidAnswered s o → P
never_invalid s o none h = absurd (none h.0 h.1.0 h.1.1)

one_presented : (s : Skeleton) (o p : Outcome) → IsPresented s o → IsPresented s p → o ≡ p
one_presented s o p h k = h.2 ∙ ap (λ (q : Presentation). done (presentation_text q)) (one_presentation s h.0 k.0 h.1 k.1) ∙ sym k.2

abbrev pub Told : Skeleton → Outcome → Type 0
Told s o = IsNotConnected 0 s.rows o ⊎ (IsConnected s.rows × IsInvalidAnswered s o) ⊎ (HasGroup s × IsPresented s o)

one_told : (s : Skeleton) (o p : Outcome) → Told s o → Told s p → o ≡ p
one_told s o p (inl h) (inl k) = one_not_connected 0 s.rows o p h k
one_told s o p (inl h) (inr (inl k)) = not_both 0 s.rows o k.0 h
one_told s o p (inl h) (inr (inr k)) = not_both 0 s.rows o k.0.connected h
one_told s o p (inr (inl h)) (inl k) = not_both 0 s.rows p h.0 k
one_told s o p (inr (inl h)) (inr (inl k)) = one_refusal s o p h.1 k.1
one_told s o p (inr (inl h)) (inr (inr k)) = never_invalid s o k.0.valid h.1
one_told s o p (inr (inr h)) (inl k) = not_both 0 s.rows p h.0.connected k
one_told s o p (inr (inr h)) (inr (inl k)) = never_invalid s p h.0.valid k.1
one_told s o p (inr (inr h)) (inr (inr k)) = one_presented s o p h.1 k.1

pub one_presentation_answer : (rows : List Row) (o p : Outcome) → IsPresentationAnswer rows o → IsPresentationAnswer rows p → o ≡ p
one_presentation_answer rows o p h k = one_told k.skeleton o p (subst (λ (s : Skeleton). Told s o) same h.reported) k.reported
  where
    same : h.skeleton ≡ k.skeleton
    same = one_skeleton h.skeleton k.skeleton (h.of_rows ∙ sym k.of_rows) h.is_skeleton k.is_skeleton
