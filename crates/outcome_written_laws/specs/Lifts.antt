-- A table followed by the answer of `lift` is a document of `verify` and `describe`, and its vectors are solutions.
use Rattle.std.specs.Prelude.{◌≡◌, ◌*◌, ◌≤◌, ℕ, List, ◌++◌, length, Ok, sum, slice_index, All}
use Rattle.std.specs.List.{AllZip}
use Rattle.table_definitions.specs.Table.{Row}
use Rattle.table_definitions.specs.TableText.{table_text}
use Rattle.skeleton_definitions.specs.Skeleton.{Skeleton, IsSkeleton}
use Rattle.surface_definitions.specs.Coordinates.{columns}
use Rattle.surface_definitions.specs.declared.Coords.TheVariants.{Standard, Quad}
use Rattle.surface_definitions.specs.Equations.{matching_rows}
use Rattle.surface_laws.specs.LiftLaws.{IsLiftOf}
use Rattle.surface_laws.specs.PieceLaws.{IsSurface}
use Rattle.text_document_definitions.specs.Documents.{vectors_document}
use Rattle.command_definitions.specs.declared.Request.TheVariants.{Lift, Verify}
use Rattle.outcome_definitions.specs.declared.Status.TheVariants.{Done}
use Rattle.outcome_definitions.specs.Outcomes.{Outcome}
use Rattle.outcome_definitions.specs.Answers.{verify_outcome}
use Rattle.outcome_answer_laws.specs.Requests.{IsOutcomeTo}
use Rattle.outcome_written_laws.specs.Surfaces.{IsSolutionUnlessLarge}

-- no entry of a lift is above four times the sum of the quads
abbrev pub LiftsAreWithin : Type 0
LiftsAreWithin =
    (s : Skeleton) (xs ys : List ℕ) → IsSkeleton s → length xs ≡ columns Quad (length s.rows) → IsLiftOf s xs ys
    → (column : ℕ) → slice_index ys column ≤ 4 * sum xs

-- the text of the table followed by this text is read as the table and the lifts of the vectors, which are admissible
-- solutions
pub record IsReadAsLifts (rows : List Row) (vectors : List (List ℕ)) (text : List ℕ) : Type 0 where
  pub skeleton : Skeleton
  pub of_rows : skeleton.rows ≡ rows
  pub is_skeleton : IsSkeleton skeleton
  pub lifts : List (List ℕ)
  pub are : AllZip (IsLiftOf skeleton) vectors lifts
  pub surfaces : All (IsSurface rows Standard) lifts
  pub read : vectors_document (table_text rows ++ text) ≡ Ok (rows, lifts)

-- so is each answer of `lift` that is not a refusal
abbrev pub LiftsAreRead : Type 0
LiftsAreRead =
    (words : List (List ℕ)) (bytes : List ℕ) (o : Outcome) (rows : List Row) (vectors : List (List ℕ)) → IsOutcomeTo Lift words bytes o → vectors_document bytes ≡ Ok (rows, vectors)
    → o.status ≡ Done → IsReadAsLifts rows vectors o.text

-- the answer says of each lift that it is a solution, or names the first equation of which a part exceeds the limit
pub record AreVerifiedLifts (rows : List Row) (lifts : List (List ℕ)) (o : Outcome) : Type 0 where
  pub verdicts : All (IsSolutionUnlessLarge Standard rows (matching_rows Standard rows)) lifts
  pub outcome : o ≡ verify_outcome Standard rows (matching_rows Standard rows) lifts

-- so does the answer of `verify` in standard coordinates to the answer of `lift` after the table
abbrev pub LiftsAreVerified : Type 0
LiftsAreVerified =
    (words asked : List (List ℕ)) (bytes : List ℕ) (o p : Outcome) (rows : List Row) (vectors : List (List ℕ)) → IsOutcomeTo Lift words bytes o
    → vectors_document bytes ≡ Ok (rows, vectors) → o.status ≡ Done → IsOutcomeTo (Verify Standard) asked (table_text rows ++ o.text) p
    → (read : IsReadAsLifts rows vectors o.text) × AreVerifiedLifts rows read.lifts p
