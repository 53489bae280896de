-- Each vector that is a solution has a lift.
use Rattle.std.proofs.Common.{◌≡◌, ◌*◌, ◌<◌, ℕ, List, [], ◌∷◌, length, Result, Ok, Err, All, refl, sym, ◌∙◌, ap, subst, sum, arith}
use Rattle.std.specs.List.{AllZip, slice_index_or}
use Rattle.text_definitions.specs.Written.{limit}
use Rattle.cone_definitions.specs.Rows.{Row as EquationRow}
use Rattle.table_definitions.specs.Table.{Row}
use Rattle.skeleton_definitions.specs.Skeleton.{Skeleton, IsSkeleton}
use Rattle.skeleton_definitions.specs.declared.Link.{Link}
use Rattle.skeleton_definitions.proofs.OneSkeleton.{one_skeleton}
use Rattle.surface_definitions.specs.Coordinates.{columns, clash_list}
use Rattle.surface_definitions.specs.declared.Coords.TheVariants.{Quad}
use Rattle.surface_definitions.specs.Lift.{IsLift}
use Rattle.surface_definitions.specs.QuadEquations.{AreEquations}
use Rattle.surface_definitions.specs.Verdict.{solution}
use Rattle.surface_definitions.specs.declared.VectorFault.{VectorFault}
use Rattle.surface_definitions.proofs.OneSystem.{one_equations}
use Rattle.surface_definitions.proofs.VerdictLaws.{accepted_by}
use Rattle.surface_vector_definitions.specs.Answers.{IsUnfit, IsFit, IsLifted, AreAnswered}
use Rattle.surface_vector_definitions.specs.declared.Refusal.{Refusal}
use Rattle.surface_vector_definitions.specs.declared.Refusal.TheVariants.{Unfit, LargeSum, TooManyPieces, LargeLift, NoLift}
use Rattle.surface_quad_lift_laws.specs.Laws.{HasSphereAndDiscLinks}
use Rattle.surface_quad_lift_laws.proofs.Correspondence.{never_without}
use Rattle.text_document_definitions.specs.Documents.{vectors_document}
use Rattle.command_definitions.specs.declared.Request.TheVariants.{Lift}
use Rattle.outcome_definitions.specs.Outcomes.{Outcome}
use Rattle.outcome_definitions.specs.Vectors.{lift_outcome, IsLiftsAnswer}
use Rattle.outcome_answer_laws.specs.Requests.{IsOutcomeTo}
use Rattle.outcome_answer_laws.specs.Lifts.{HasSphereAndDiscVertices, IsAnotherReason, AreLiftsOrAnotherReason, IsSmallSolution, AreLifted, NoneWithoutLift, SolutionsAreLifted}
use Rattle.outcome_answer_laws.proofs.Asked.{answer_to, answer_to_value}

fit_or_not : {P : Type 0} (rows : List Row) (equations : List EquationRow) (xs : List ℕ) (fault : VectorFault) → IsFit Quad rows equations xs → IsUnfit Quad rows equations xs fault → P
fit_or_not rows equations xs fault f g = (let z : solution ≡ Err fault = sym f ∙ g in absurd cc)

module _ (s : Skeleton) (k : IsSkeleton s) (links : List Link) (h : HasSphereAndDiscLinks s links) (equations : List EquationRow) (of_table : AreEquations Quad s.rows equations) where
  -- no vector is refused because it has no lift
  never : (xs : List ℕ) (c : ℕ) → IsLifted s equations xs (Err (NoLift c)) → ⊥
  never xs c t =
      let accepted = accepted_by limit (columns Quad (length s.rows)) equations (clash_list Quad (length s.rows)) xs t.0 in
      never_without s k links h equations of_table limit xs c accepted.solves t.1

  another : (xs : List ℕ) (refusal : Refusal) → IsLifted s equations xs (Err refusal) → IsAnotherReason refusal
  another xs (Unfit fault) t = tt
  another xs (LargeSum n) t = tt
  another xs (TooManyPieces n) t = tt
  another xs LargeLift t = tt
  another xs (NoLift c) t = never xs c t

  told_another : (vectors : List (List ℕ)) (reported : Result (List (List ℕ)) (ℕ × Refusal)) → AreAnswered (IsLifted s equations) vectors reported → AreLiftsOrAnotherReason reported
  told_another vectors (Ok lifts) t = tt
  told_another vectors (Err refusal) t = another (slice_index_or vectors refusal.0 []) refusal.1 t.refused

  -- a solution with parts within the limit is not refused
  never_refused : (xs : List ℕ) (refusal : Refusal) → IsSmallSolution s.rows equations xs → IsLifted s equations xs (Err refusal) → ⊥
  never_refused xs (Unfit fault) small t = fit_or_not s.rows equations xs fault small.fit t
  never_refused xs (LargeSum n) small t = t
  never_refused xs (TooManyPieces n) small t = t
  never_refused xs LargeLift small t = let m = small.small in let more : limit < 4 * sum xs = t.1 in omega arith
  never_refused xs (NoLift c) small t = never xs c t

  abbrev IsLiftTo : List ℕ → List ℕ → Type 0
  IsLiftTo xs ys = IsLift s.rows s.vertices.classes s.vertices.count xs ys

  lifts_of : (vectors lifts : List (List ℕ)) → AllZip (λ xs ys. IsLifted s equations xs (Ok ys)) vectors lifts → AllZip IsLiftTo vectors lifts
  lifts_of [] [] t = tt
  lifts_of [] (y ∷ ys) t = t
  lifts_of (x ∷ xs) [] t = t
  lifts_of (x ∷ xs) (y ∷ ys) t = (((t.0).1).1, lifts_of xs ys t.1)

  lifted : (vectors : List (List ℕ)) (reported : Result (List (List ℕ)) (ℕ × Refusal)) → All (IsSmallSolution s.rows equations) vectors → AreAnswered (IsLifted s equations) vectors reported
      → (lifts : List (List ℕ)) × AllZip IsLiftTo vectors lifts × (reported ≡ Ok lifts)
  lifted vectors (Ok lifts) small t = (lifts, lifts_of vectors lifts t, refl)
  lifted vectors (Err refusal) small t =
      absurd (never_refused (slice_index_or vectors refusal.0 []) refusal.1 (small refusal.0 [] t.in_range) t.refused)

module _ (rows : List Row) (vectors : List (List ℕ)) (o : Outcome) (h : HasSphereAndDiscVertices rows) (answer : IsLiftsAnswer (rows, vectors) o) where
  links_are : HasSphereAndDiscLinks answer.skeleton h.links
  links_are = subst (λ (t : Skeleton). HasSphereAndDiscLinks t h.links) (one_skeleton h.skeleton answer.skeleton (h.of_rows ∙ sym answer.of_rows) h.is_skeleton answer.is_skeleton) h.are

  equations_are : AreEquations Quad answer.skeleton.rows answer.equations
  equations_are = subst (λ (r : List Row). AreEquations Quad r answer.equations) (sym answer.of_rows) answer.of_table

  another_reason : AreLiftsOrAnotherReason answer.reported
  another_reason = told_another answer.skeleton answer.is_skeleton h.links links_are answer.equations equations_are vectors answer.reported answer.lifted

  are_lifted : (equations : List EquationRow) → AreEquations Quad rows equations → All (IsSmallSolution rows equations) vectors → AreLifted rows vectors o
  are_lifted equations of_table small =
      let same : equations ≡ answer.equations = one_equations Quad rows equations answer.equations of_table answer.of_table in
      let here : All (IsSmallSolution answer.skeleton.rows answer.equations) vectors =
      subst (λ (r : List Row). All (IsSmallSolution r answer.equations) vectors) (sym answer.of_rows) (subst (λ (es : List EquationRow). All (IsSmallSolution rows es) vectors) same small) in
      let l = lifted answer.skeleton answer.is_skeleton h.links links_are answer.equations equations_are vectors answer.reported here answer.lifted in record {
        skeleton = answer.skeleton;
        of_rows = answer.of_rows;
        is_skeleton = answer.is_skeleton;
        lifts = l.0;
        are = l.1;
        outcome = answer.outcome ∙ ap lift_outcome l.2;
      }

answered : (words : List (List ℕ)) (bytes : List ℕ) (o : Outcome) (rows : List Row) (vectors : List (List ℕ)) → IsOutcomeTo Lift words bytes o → vectors_document bytes ≡ Ok (rows, vectors)
    → IsLiftsAnswer (rows, vectors) o
answered words bytes o rows vectors asked read = answer_to_value (vectors_document bytes) (rows, vectors) IsLiftsAnswer o read (answer_to Lift words bytes o asked)

pub none_without_lift : NoneWithoutLift
none_without_lift words bytes o rows vectors asked read h =
    let answer = answered words bytes o rows vectors asked read in (answer, another_reason rows vectors o h answer)

pub solutions_lifted : SolutionsAreLifted
solutions_lifted words bytes o rows vectors equations asked read h of_table small = are_lifted rows vectors o h (answered words bytes o rows vectors asked read) equations of_table small
