-- From the answers for the quad vectors to the answer of `lift`.
use Rattle.std.proofs.Common.{◌≡◌, ℕ, List, Ok, Err, subst, ap, ◌∙◌}
use Rattle.cone_definitions.specs.Rows.{Row as EquationRow}
use Rattle.cone_text_definitions.specs.VectorText.{vector_text}
use Rattle.table_definitions.specs.Table.{Row}
use Rattle.skeleton_definitions.specs.Skeleton.{Skeleton, IsSkeleton}
use Rattle.surface_definitions.specs.declared.Coords.TheVariants.{Quad}
use Rattle.surface_definitions.specs.QuadEquations.{AreEquations}
use Rattle.surface_vector_definitions.specs.Answers.{IsLifted, IsFirstRefused}
use Rattle.surface_vector_definitions.specs.Texts.{lifts_text}
use Rattle.surface_vector_definitions.specs.declared.Refusal.{Refusal}
use Rattle.outcome_definitions.specs.declared.Status.TheVariants.{Done}
use Rattle.outcome_definitions.specs.Outcomes.{Outcome}
use Rattle.outcome_definitions.specs.Vectors.{IsLiftsAnswer, refusal_outcome}
use Rattle.vector_commands.specs.Telling.{AreAnsweredIn}

-- the rows of the table are those of its skeleton
module _ (s : Skeleton) (rows : List Row) (equations : List EquationRow) (vectors : List (List ℕ)) (o : Outcome)
    (same : s.rows ≡ rows) (is_skeleton : IsSkeleton s) (of_table : AreEquations Quad s.rows equations) where
  pub lifts_told : (text : List ℕ) → AreAnsweredIn (IsLifted s equations) vector_text vectors text → o ≡ record { status = Done; text = text } → IsLiftsAnswer (rows, vectors) o
  unfolding lifts_text
  lifts_told text reported e = record {
    skeleton = s;
    of_rows = same;
    is_skeleton = is_skeleton;
    equations = equations;
    of_table = subst (λ (r : List Row). AreEquations Quad r equations) same of_table;
    reported = Ok reported.answers;
    lifted = reported.reported;
    outcome = e ∙ ap (λ (t : List ℕ). record { status = Done; text = t }) reported.lines;
  }

  pub lift_refused : (v : ℕ) (refusal : Refusal) → IsFirstRefused (IsLifted s equations) vectors v refusal → o ≡ refusal_outcome v refusal → IsLiftsAnswer (rows, vectors) o
  lift_refused v refusal first e = record {
    skeleton = s;
    of_rows = same;
    is_skeleton = is_skeleton;
    equations = equations;
    of_table = subst (λ (r : List Row). AreEquations Quad r equations) same of_table;
    reported = Err (v, refusal);
    lifted = first;
    outcome = e;
  }
