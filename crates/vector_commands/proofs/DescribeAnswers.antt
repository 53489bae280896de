-- From the answers for the vectors to the answer of `describe`.
use Rattle.std.proofs.Common.{◌≡◌, ℕ, List, inl, inr, None, Some, Ok, Err, ap, ◌∙◌}
use Rattle.cone_definitions.specs.Rows.{Row as EquationRow}
use Rattle.table_definitions.specs.Table.{Row}
use Rattle.skeleton_definitions.specs.Skeleton.{Skeleton, IsSkeleton, IsFirstInvalid}
use Rattle.surface_definitions.specs.declared.Coords.{Coords}
use Rattle.surface_definitions.specs.QuadEquations.{AreEquations}
use Rattle.surface_vector_definitions.specs.Answers.{IsDescription, IsFirstRefused}
use Rattle.surface_vector_definitions.specs.Texts.{description_text, invalid_edge_line}
use Rattle.surface_vector_definitions.specs.declared.Refusal.{Refusal}
use Rattle.outcome_definitions.specs.declared.Status.TheVariants.{Done, Refused}
use Rattle.outcome_definitions.specs.Outcomes.{Outcome}
use Rattle.outcome_definitions.specs.Vectors.{AreDescribed, IsDescribeAnswer, refusal_outcome}
use Rattle.vector_commands.specs.Telling.{AreAnsweredIn}

module _ (s : Skeleton) (coords : Coords) (equations : List EquationRow) (vectors : List (List ℕ)) (o : Outcome) (of_table : AreEquations coords s.rows equations) where
  pub described_told : (text : List ℕ) → AreAnsweredIn (IsDescription s coords equations) (description_text s coords) vectors text → o ≡ record { status = Done; text = text } → AreDescribed s coords vectors o
  described_told text reported e = record {
    equations = equations;
    of_table = of_table;
    reported = Ok reported.answers;
    described = reported.reported;
    outcome = e ∙ ap (λ (t : List ℕ). record { status = Done; text = t }) reported.lines;
  }

  pub describe_refused : (v : ℕ) (refusal : Refusal) → IsFirstRefused (IsDescription s coords equations) vectors v refusal → o ≡ refusal_outcome v refusal → AreDescribed s coords vectors o
  describe_refused v refusal first e = record { equations = equations; of_table = of_table; reported = Err (v, refusal); described = first; outcome = e }

-- the rows of the table are those of its skeleton
module _ (s : Skeleton) (coords : Coords) (rows : List Row) (vectors : List (List ℕ)) (o : Outcome) (same : s.rows ≡ rows) (is_skeleton : IsSkeleton s) where
  pub valid_told : IsFirstInvalid s None → AreDescribed s coords vectors o → IsDescribeAnswer coords (rows, vectors) o
  valid_told valid described = record { skeleton = s; of_rows = same; is_skeleton = is_skeleton; reported = inr (valid, described) }

  pub invalid_told : (class : ℕ) → IsFirstInvalid s (Some class) → o ≡ record { status = Refused; text = invalid_edge_line class } → IsDescribeAnswer coords (rows, vectors) o
  invalid_told class first e = record { skeleton = s; of_rows = same; is_skeleton = is_skeleton; reported = inl (class, first, e) }
