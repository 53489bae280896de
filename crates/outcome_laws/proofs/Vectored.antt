-- The answers about the vectors of a table are unique.
use Rattle.std.proofs.Common.{◌≡◌, ◌⊎◌, ℕ, List, None, inl, inr, sym, ap, ◌∙◌, subst}
use Rattle.cone_definitions.specs.Rows.{Row as EquationRow}
use Rattle.table_definitions.specs.Table.{Row, IsTable}
use Rattle.skeleton_definitions.specs.Skeleton.{Skeleton, IsFirstInvalid}
use Rattle.surface_definitions.specs.declared.Coords.{Coords}
use Rattle.surface_definitions.specs.declared.Coords.TheVariants.{Standard, Quad}
use Rattle.surface_vector_definitions.specs.Answers.{IsDescription, IsLifted, IsCrushedAlong, AreAnswered}
use Rattle.surface_vector_definitions.proofs.AnswerLemmas.{one_description_each}
use Rattle.surface_laws.proofs.AnswerLemmas.{lifted_each, crushed_along_once}
use Rattle.outcome_definitions.specs.Outcomes.{Outcome}
use Rattle.outcome_definitions.specs.Vectors.{IsCrushAnswer, crush_outcome, IsLiftsAnswer, lift_outcome, AreDescribed, describe_outcome, IsInvalidAnswered, IsDescribeAnswer}
use Rattle.surface_definitions.proofs.OneSystem.{one_equations}
use Rattle.skeleton_definitions.proofs.OneSkeleton.{one_skeleton}
use Rattle.outcome_laws.proofs.Presented.{one_refusal, never_invalid}

pub one_crush : (d : List Row × List ℕ) (o p : Outcome) → IsTable d.0 → IsCrushAnswer d o → IsCrushAnswer d p → o ≡ p
one_crush d o p t h k =
    let e : h.equations ≡ k.equations = one_equations Standard d.0 h.equations k.equations h.of_table k.of_table in
    let there : IsCrushedAlong d.0 h.equations d.1 k.reported = subst (λ (q : List EquationRow). IsCrushedAlong d.0 q d.1 k.reported) (sym e) k.crushed in
    h.outcome ∙ ap crush_outcome (crushed_along_once d.0 h.equations d.1 h.reported k.reported t h.crushed there) ∙ sym k.outcome

pub one_lifts : (d : List Row × List (List ℕ)) (o p : Outcome) → IsLiftsAnswer d o → IsLiftsAnswer d p → o ≡ p
one_lifts d o p h k =
    let e : h.equations ≡ k.equations = one_equations Quad d.0 h.equations k.equations h.of_table k.of_table in
    let s : h.skeleton ≡ k.skeleton = one_skeleton h.skeleton k.skeleton (h.of_rows ∙ sym k.of_rows) h.is_skeleton k.is_skeleton in
    let same_rows : AreAnswered (IsLifted k.skeleton h.equations) d.1 k.reported = subst (λ (q : List EquationRow). AreAnswered (IsLifted k.skeleton q) d.1 k.reported) (sym e) k.lifted in
    let there : AreAnswered (IsLifted h.skeleton h.equations) d.1 k.reported = subst (λ (t : Skeleton). AreAnswered (IsLifted t h.equations) d.1 k.reported) (sym s) same_rows in
    h.outcome ∙ ap lift_outcome (lifted_each h.skeleton h.equations d.1 h.reported k.reported h.is_skeleton h.lifted there) ∙ sym k.outcome

one_described : (s : Skeleton) (coords : Coords) (vectors : List (List ℕ)) (o p : Outcome) → AreDescribed s coords vectors o → AreDescribed s coords vectors p → o ≡ p
one_described s coords vectors o p h k =
    let e : h.equations ≡ k.equations = one_equations coords s.rows h.equations k.equations h.of_table k.of_table in
    let there : AreAnswered (IsDescription s coords h.equations) vectors k.reported = subst (λ (q : List EquationRow). AreAnswered (IsDescription s coords q) vectors k.reported) (sym e) k.described in
    h.outcome ∙ ap (describe_outcome s coords) (one_description_each s coords h.equations vectors h.reported k.reported h.described there) ∙ sym k.outcome

-- the outcome names the least invalid edge class, or describes the vectors
abbrev Told : Skeleton → Coords → List (List ℕ) → Outcome → Type 0
Told s coords vectors o = IsInvalidAnswered s o ⊎ (IsFirstInvalid s None × AreDescribed s coords vectors o)

one_told : (s : Skeleton) (coords : Coords) (vectors : List (List ℕ)) (o p : Outcome) → Told s coords vectors o → Told s coords vectors p → o ≡ p
one_told s coords vectors o p (inl h) (inl k) = one_refusal s o p h k
one_told s coords vectors o p (inl h) (inr k) = never_invalid s o k.0 h
one_told s coords vectors o p (inr h) (inl k) = never_invalid s p h.0 k
one_told s coords vectors o p (inr h) (inr k) = one_described s coords vectors o p h.1 k.1

pub one_describe : (coords : Coords) (d : List Row × List (List ℕ)) (o p : Outcome) → IsDescribeAnswer coords d o → IsDescribeAnswer coords d p → o ≡ p
one_describe coords d o p h k =
    let s : h.skeleton ≡ k.skeleton = one_skeleton h.skeleton k.skeleton (h.of_rows ∙ sym k.of_rows) h.is_skeleton k.is_skeleton in
    one_told k.skeleton coords d.1 o p (subst (λ (t : Skeleton). Told t coords d.1 o) s h.reported) k.reported
