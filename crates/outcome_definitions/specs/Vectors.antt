-- The answers of `crush`, `lift` and `describe`: the results for the vectors of a table, or the first vector that is
-- refused, with the reason.
use Rattle.std.specs.Prelude.{◌≡◌, ◌⊎◌, ℕ, List, None, Some, Result, Ok, Err}
use Rattle.std.specs.List.{flat_map}
use Rattle.cone_definitions.specs.Rows.{Row as EquationRow}
use Rattle.table_definitions.specs.Table.{Row}
use Rattle.table_definitions.specs.TableText.{table_text}
use Rattle.skeleton_definitions.specs.Skeleton.{Skeleton, IsSkeleton, IsFirstInvalid}
use Rattle.surface_definitions.specs.declared.Coords.{Coords}
use Rattle.surface_definitions.specs.declared.Coords.TheVariants.{Standard, Quad}
use Rattle.surface_definitions.specs.declared.VectorFault.TheVariants as faults
use Rattle.surface_definitions.specs.QuadEquations.{AreEquations}
use Rattle.surface_vector_definitions.specs.declared.Refusal.{Refusal}
use Rattle.surface_vector_definitions.specs.declared.Refusal.TheVariants.{Unfit, LargeSum, TooManyPieces, LargeLift, NoLift}
use Rattle.surface_vector_definitions.specs.Answers.{Description, IsDescription, IsLifted, IsCrushedAlong, AreAnswered}
use Rattle.surface_vector_definitions.specs.Texts.{description_text, lifts_text, refusal_line, invalid_edge_line}
use Rattle.outcome_definitions.specs.declared.Status.{Status}
use Rattle.outcome_definitions.specs.declared.Status.TheVariants.{Done, Refused, Large}
use Rattle.outcome_definitions.specs.Outcomes.{Outcome}

-- a number is too large, or the vector does not allow what is asked
abbrev pub refusal_status : Refusal → Status
refusal_status (Unfit (faults.Length n)) = Refused
refusal_status (Unfit (faults.Large i)) = Large
refusal_status (Unfit (faults.NotSolution i)) = Refused
refusal_status (Unfit (faults.Clash a b)) = Refused
refusal_status (LargeSum sum) = Large
refusal_status (TooManyPieces n) = Refused
refusal_status LargeLift = Large
refusal_status (NoLift c) = Refused

-- the vector of this number is refused
abbrev pub refusal_outcome : ℕ → Refusal → Outcome
refusal_outcome v refusal = record { status = refusal_status refusal; text = refusal_line v refusal }

-- the crushed table, or why there is none
abbrev pub crush_outcome : Result (List Row) Refusal → Outcome
crush_outcome (Ok rows) = record { status = Done; text = table_text rows }
crush_outcome (Err refusal) = refusal_outcome 0 refusal

-- the answer of `crush` to a table and a vector
pub record IsCrushAnswer (d : List Row × List ℕ) (o : Outcome) : Type 0 where
  pub equations : List EquationRow
  pub of_table : AreEquations Standard d.0 equations
  pub reported : Result (List Row) Refusal
  pub crushed : IsCrushedAlong d.0 equations d.1 reported
  pub outcome : o ≡ crush_outcome reported

-- the lift of each vector, or the first that is refused
abbrev pub lift_outcome : Result (List (List ℕ)) (ℕ × Refusal) → Outcome
lift_outcome (Ok lifts) = record { status = Done; text = lifts_text lifts }
lift_outcome (Err refusal) = refusal_outcome refusal.0 refusal.1

-- the answer of `lift` to a table and quad vectors
pub record IsLiftsAnswer (d : List Row × List (List ℕ)) (o : Outcome) : Type 0 where
  pub skeleton : Skeleton
  pub of_rows : skeleton.rows ≡ d.0
  pub is_skeleton : IsSkeleton skeleton
  pub equations : List EquationRow
  pub of_table : AreEquations Quad d.0 equations
  pub reported : Result (List (List ℕ)) (ℕ × Refusal)
  pub lifted : AreAnswered (IsLifted skeleton equations) d.1 reported
  pub outcome : o ≡ lift_outcome reported

-- the lines of each vector, or the first that is refused
abbrev pub describe_outcome : Skeleton → Coords → Result (List Description) (ℕ × Refusal) → Outcome
describe_outcome s coords (Ok descriptions) = record { status = Done; text = flat_map (description_text s coords) descriptions }
describe_outcome s coords (Err refusal) = refusal_outcome refusal.0 refusal.1

-- each vector is described, by the equations of the table
pub record AreDescribed (s : Skeleton) (coords : Coords) (vectors : List (List ℕ)) (o : Outcome) : Type 0 where
  pub equations : List EquationRow
  pub of_table : AreEquations coords s.rows equations
  pub reported : Result (List Description) (ℕ × Refusal)
  pub described : AreAnswered (IsDescription s coords equations) vectors reported
  pub outcome : o ≡ describe_outcome s coords reported

-- an edge class is invalid: the answer names the least such class
abbrev pub IsInvalidAnswered : Skeleton → Outcome → Type 0
IsInvalidAnswered s o = (c : ℕ) × IsFirstInvalid s (Some c) × (o ≡ record { status = Refused; text = invalid_edge_line c })

-- the answer of `describe` to a table and vectors
pub record IsDescribeAnswer (coords : Coords) (d : List Row × List (List ℕ)) (o : Outcome) : Type 0 where
  pub skeleton : Skeleton
  pub of_rows : skeleton.rows ≡ d.0
  pub is_skeleton : IsSkeleton skeleton
  pub reported : IsInvalidAnswered skeleton o ⊎ (IsFirstInvalid skeleton None × AreDescribed skeleton coords d.1 o)
