-- The result for a vector is unique.
use Rattle.std.specs.Prelude.{◌≡◌, ℕ, List, Result}
use Rattle.table_definitions.specs.Table.{Row}
use Rattle.surface_definitions.specs.declared.Coords.{Coords}
use Rattle.surface_vector_definitions.specs.declared.Properties.{Properties}
use Rattle.surface_vector_definitions.specs.declared.PropertyFault.{PropertyFault}
use Rattle.surface_vector_definitions.specs.declared.ManyPieces.{ManyPieces}
use Rattle.skeleton_definitions.specs.Skeleton.{Skeleton}
use Rattle.surface_vector_definitions.specs.Properties.{IsPropertyAnswer}
use Rattle.surface_vector_definitions.specs.Components.{Component, IsPiecesAnswer}
use Rattle.cone_definitions.specs.Rows.{Row as EquationRow}
use Rattle.surface_vector_definitions.specs.Answers.{Description, IsDescription, AreAnswered}
use Rattle.surface_vector_definitions.specs.declared.Refusal.{Refusal}

abbrev pub OnePropertyAnswer : Type 0
OnePropertyAnswer =
    (max : ℕ) (s : Skeleton) (coords : Coords) (xs : List ℕ) (a b : Result Properties PropertyFault)
    → IsPropertyAnswer max s coords xs a → IsPropertyAnswer max s coords xs b → a ≡ b

abbrev pub OnePiecesAnswer : Type 0
OnePiecesAnswer =
    (rows : List Row) (coords : Coords) (xs : List ℕ) (a b : Result (List Component) ManyPieces)
    → IsPiecesAnswer rows coords xs a → IsPiecesAnswer rows coords xs b → a ≡ b

-- so is the result for all vectors of a document
abbrev pub OneDescriptionEach : Type 0
OneDescriptionEach =
    (s : Skeleton) (coords : Coords) (equations : List EquationRow) (vectors : List (List ℕ)) (a b : Result (List Description) (ℕ × Refusal))
    → AreAnswered (IsDescription s coords equations) vectors a → AreAnswered (IsDescription s coords equations) vectors b → a ≡ b
