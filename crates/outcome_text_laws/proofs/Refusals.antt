-- The text of an answer of `describe` determines its status.
use Rattle.std.proofs.Common.{◌≡◌, ℕ, ◌⊎◌, inl, inr, Bool, true, false, List, get_or, None, Result, Ok, Err, refl, sym, ap, ◌∙◌, subst, arith}
use Rattle.std.specs.Prelude.{◌==◌, ◌&&◌, if◌then◌else◌}
use Rattle.table_definitions.specs.Table.{Row}
use Rattle.skeleton_definitions.specs.Skeleton.{IsFirstInvalid}
use Rattle.surface_definitions.specs.declared.Coords.{Coords}
use Rattle.surface_definitions.specs.QuadEquations.{AreEquations}
use Rattle.surface_definitions.specs.declared.VectorFault.TheVariants as faults
use Rattle.surface_definitions.specs.Verdict.{verdict_text}
use Rattle.surface_vector_definitions.specs.declared.Refusal.{Refusal}
use Rattle.surface_vector_definitions.specs.declared.Refusal.TheVariants.{Unfit, LargeSum, TooManyPieces, LargeLift, NoLift}
use Rattle.surface_vector_definitions.specs.Answers.{Description, IsDescription, AreAnswered}
use Rattle.surface_vector_definitions.specs.Texts.{fault_text, refusal_line, invalid_edge_line}
use Rattle.outcome_definitions.specs.declared.Status.{Status}
use Rattle.outcome_definitions.specs.declared.Status.TheVariants.{Done, Refused, Large}
use Rattle.outcome_definitions.specs.Outcomes.{Outcome}
use Rattle.outcome_definitions.specs.Vectors.{refusal_status, IsInvalidAnswered, AreDescribed, IsDescribeAnswer, describe_outcome}
use Rattle.outcome_text_laws.specs.Descriptions.{HasDescriptions, DoneHasDescriptions, DescribeTextsDetermineStatus}
use Rattle.outcome_text_laws.proofs.Described.{first_bytes}
use Rattle.outcome_text_laws.proofs.Reasons.{split_refusal}

-- byte i of a text, or 0 after its end
abbrev byte : ℕ → List ℕ → ℕ
byte i text = get_or text i 0

-- whether the reason of a refusal is that a number is too large
abbrev is_large : List ℕ → Bool
is_large text = (byte 0 text == 108) && (byte 1 text == 97)

-- the status of the refusal of a vector whose reason is this text
abbrev status_of : List ℕ → Status
status_of text = if is_large text then Large else Refused

status_is : (f : Refusal) → status_of (fault_text f) ≡ refusal_status f
unfolding verdict_text
status_is (Unfit (faults.Length n)) = refl
status_is (Unfit (faults.Large i)) = refl
status_is (Unfit (faults.NotSolution i)) = refl
status_is (Unfit (faults.Clash a b)) = refl
status_is (LargeSum sum) = refl
status_is (TooManyPieces n) = refl
status_is LargeLift = refl
status_is (NoLift c) = refl

-- the status of a refused vector is not that of success
not_done : (b : Bool) → (if◌then◌else◌ {A = Status} b Large Refused) ≡ Done → ⊥
not_done true e = absurd cc
not_done false e = absurd cc

pub done_has_descriptions : DoneHasDescriptions
done_has_descriptions coords d o h done = by h.reported
  where
    by_told : (a : AreDescribed h.skeleton coords d.1 o) (reported : Result (List Description) (ℕ × Refusal)) → AreAnswered (IsDescription h.skeleton coords a.equations) d.1 reported
        → o ≡ describe_outcome h.skeleton coords reported → HasDescriptions coords d o
    by_told a (Ok descriptions) described outcome = record {
      skeleton = h.skeleton;
      of_rows = h.of_rows;
      is_skeleton = h.is_skeleton;
      equations = a.equations;
      of_table = subst (λ (rows : List Row). AreEquations coords rows a.equations) h.of_rows a.of_table;
      descriptions = descriptions;
      described = described;
      outcome = outcome;
    }
    by_told a (Err refusal) described outcome = absurd (not_done (is_large (fault_text refusal.1)) (status_is refusal.1 ∙ sym (ap (λ (q : Outcome). q.status) outcome) ∙ done))

    by : IsInvalidAnswered h.skeleton o ⊎ (IsFirstInvalid h.skeleton None × AreDescribed h.skeleton coords d.1 o) → HasDescriptions coords d o
    by (inl invalid) = (let z : Refused ≡ Done = sym (ap (λ (q : Outcome). q.status) invalid.2) ∙ done in absurd cc)
    by (inr a) = by_told a.1 a.1.reported a.1.described a.1.outcome

same_status : (v w : ℕ) (f g : Refusal) → refusal_line v f ≡ refusal_line w g → refusal_status f ≡ refusal_status g
same_status v w f g e = sym (status_is f) ∙ ap status_of (split_refusal v w f g e).rests ∙ status_is g

-- the kind of an answer, by its bytes 0 and 9
refusal_bytes : (v : ℕ) (f : Refusal) → (byte 0 (refusal_line v f) ≡ 114) × (byte 9 (refusal_line v f) ≡ 118)
unfolding refusal_line
refusal_bytes v f = (refl, refl)

invalid_bytes : (c : ℕ) → (byte 0 (invalid_edge_line c) ≡ 114) × (byte 9 (invalid_edge_line c) ≡ 105)
unfolding invalid_edge_line
invalid_bytes c = (refl, refl)

-- a text of descriptions, the line of a refused vector, or that of an invalid edge class
abbrev Kind : Outcome → Type 0
Kind o =
    ((byte 0 o.text ≡ 114 → ⊥) × (o.status ≡ Done)) ⊎ ((v : ℕ) × (f : Refusal) × (o.text ≡ refusal_line v f) × (o.status ≡ refusal_status f))
    ⊎ ((c : ℕ) × (o.text ≡ invalid_edge_line c) × (o.status ≡ Refused))

kind_of : (coords : Coords) (d : List Row × List (List ℕ)) (o : Outcome) → IsDescribeAnswer coords d o → Kind o
kind_of coords d o h = by h.reported
  where
    by_told : (reported : Result (List Description) (ℕ × Refusal)) → o ≡ describe_outcome h.skeleton coords reported → Kind o
    by_told (Ok descriptions) e = inl (
      λ z. first_bytes h.skeleton coords descriptions (ap (byte 0) (sym (ap (λ (q : Outcome). q.text) e)) ∙ z),
      ap (λ (q : Outcome). q.status) e,
    )
    by_told (Err refusal) e = inr (inl (refusal.0, refusal.1, ap (λ (q : Outcome). q.text) e, ap (λ (q : Outcome). q.status) e))

    by : IsInvalidAnswered h.skeleton o ⊎ (IsFirstInvalid h.skeleton None × AreDescribed h.skeleton coords d.1 o) → Kind o
    by (inl invalid) = inr (inr (invalid.0, ap (λ (q : Outcome). q.text) invalid.2, ap (λ (q : Outcome). q.status) invalid.2))
    by (inr a) = by_told a.1.reported a.1.outcome

not_both : (a b : List ℕ) → a ≡ b → byte 9 a ≡ 118 → byte 9 b ≡ 105 → ⊥
not_both a b e h k = (let z : byte 9 a ≡ byte 9 b = ap (byte 9) e in omega arith)

statuses : (o p : Outcome) → Kind o → Kind p → o.text ≡ p.text → o.status ≡ p.status
statuses o p (inl h) (inl k) e = h.1 ∙ sym k.1
statuses o p (inl h) (inr (inl k)) e = absurd (h.0 (ap (byte 0) (e ∙ k.2) ∙ (refusal_bytes k.0 k.1).0))
statuses o p (inl h) (inr (inr k)) e = absurd (h.0 (ap (byte 0) (e ∙ k.1) ∙ (invalid_bytes k.0).0))
statuses o p (inr (inl h)) (inl k) e = absurd (k.0 (ap (byte 0) (sym e ∙ h.2) ∙ (refusal_bytes h.0 h.1).0))
statuses o p (inr (inl h)) (inr (inl k)) e = h.3 ∙ same_status h.0 k.0 h.1 k.1 (sym h.2 ∙ e ∙ k.2) ∙ sym k.3
statuses o p (inr (inl h)) (inr (inr k)) e = absurd (not_both (refusal_line h.0 h.1) (invalid_edge_line k.0) (sym h.2 ∙ e ∙ k.1) (refusal_bytes h.0 h.1).1 (invalid_bytes k.0).1)
statuses o p (inr (inr h)) (inl k) e = absurd (k.0 (ap (byte 0) (sym e ∙ h.1) ∙ (invalid_bytes h.0).0))
statuses o p (inr (inr h)) (inr (inl k)) e = absurd (not_both (refusal_line k.0 k.1) (invalid_edge_line h.0) (sym k.2 ∙ sym e ∙ h.1) (refusal_bytes k.0 k.1).1 (invalid_bytes h.0).1)
statuses o p (inr (inr h)) (inr (inr k)) e = h.2 ∙ sym k.2

pub statuses_told : DescribeTextsDetermineStatus
statuses_told coords other d e o p h k same =
    let status : o.status ≡ p.status = statuses o p (kind_of coords d o h) (kind_of other e p k) same in
    λ i. record { status = status i; text = same i }
