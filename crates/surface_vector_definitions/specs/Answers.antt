-- The results for the vectors of a document, or why one is refused, by the checks in their order.
use Rattle.std.specs.Prelude.{◌≡◌, ℕ, ◌<◌, List, [], length, None, Result, Ok, Err}
use Rattle.std.specs.List.{AllZip, slice_index_or}
use Rattle.text_definitions.specs.Written.{limit}
use Rattle.cone_definitions.specs.Rows.{Row as EquationRow}
use Rattle.table_definitions.specs.Table.{Row}
use Rattle.skeleton_definitions.specs.Skeleton.{Skeleton}
use Rattle.surface_definitions.specs.Coordinates.{columns, clash_list}
use Rattle.surface_definitions.specs.declared.Coords.{Coords}
use Rattle.surface_definitions.specs.declared.Coords.TheVariants.{Standard, Quad}
use Rattle.surface_definitions.specs.Verdict.{Verdict, verdict, solution}
use Rattle.surface_definitions.specs.declared.VectorFault.{VectorFault}
use Rattle.surface_definitions.specs.Crushing.{IsCrushed}
use Rattle.surface_vector_definitions.specs.Properties.{first_large, IsPropertyAnswer}
use Rattle.surface_vector_definitions.specs.Components.{Component, IsPiecesAnswer}
use Rattle.surface_vector_definitions.specs.Lifting.{IsLiftAnswer}
use Rattle.surface_vector_definitions.specs.declared.Properties.{Properties}
use Rattle.surface_vector_definitions.specs.declared.PropertyFault.TheVariants as property_faults
use Rattle.surface_vector_definitions.specs.declared.LiftFault.TheVariants as lift_faults
use Rattle.surface_vector_definitions.specs.declared.Refusal.{Refusal}
use Rattle.surface_vector_definitions.specs.declared.Refusal.TheVariants.{Unfit, LargeSum, TooManyPieces, LargeLift, NoLift}

-- the verdict on a vector, by the equations of the table in its coordinates
abbrev pub verdict_in : Coords → List Row → List EquationRow → List ℕ → Verdict
verdict_in coords rows equations xs = verdict limit (columns coords (length rows)) equations (clash_list coords (length rows)) xs

-- the vector is no admissible solution of which no part of an equation is large, and this is why
abbrev pub IsUnfit : Coords → List Row → List EquationRow → List ℕ → VectorFault → Type 0
IsUnfit coords rows equations xs fault = verdict_in coords rows equations xs ≡ Err fault

-- the vector is an admissible solution, and no part of an equation is large at it
abbrev pub IsFit : Coords → List Row → List EquationRow → List ℕ → Type 0
IsFit coords rows equations xs = verdict_in coords rows equations xs ≡ solution

-- the whole answer for a vector
pub record Description : Type 0 where
  pub vector : List ℕ
  pub properties : Properties
  pub components : List Component

-- a vector is described if it is an admissible solution within the limit, no sum exceeds the limit, and its discs are
-- not too many
abbrev pub IsDescription : Skeleton → Coords → List EquationRow → List ℕ → Result Description Refusal → Type 0
IsDescription s coords equations xs (Ok d) =
    IsFit coords s.rows equations xs × (d.vector ≡ xs) × IsPropertyAnswer limit s coords xs (Ok d.properties) × IsPiecesAnswer s.rows coords xs (Ok d.components)
IsDescription s coords equations xs (Err (Unfit f)) = IsUnfit coords s.rows equations xs f
IsDescription s coords equations xs (Err (LargeSum sum)) = IsFit coords s.rows equations xs × IsPropertyAnswer limit s coords xs (Err (property_faults.Large sum))
IsDescription s coords equations xs (Err (TooManyPieces n)) =
    IsFit coords s.rows equations xs × (first_large limit s coords xs ≡ None) × IsPiecesAnswer s.rows coords xs (Err (record { count = n }))
IsDescription s coords equations xs (Err LargeLift) = ⊥
IsDescription s coords equations xs (Err (NoLift c)) = ⊥

-- a quad vector is lifted if it is an admissible solution within the limit and has a lift within it
abbrev pub IsLifted : Skeleton → List EquationRow → List ℕ → Result (List ℕ) Refusal → Type 0
IsLifted s equations xs (Ok ys) = IsFit Quad s.rows equations xs × IsLiftAnswer limit s xs (Ok ys)
IsLifted s equations xs (Err (Unfit f)) = IsUnfit Quad s.rows equations xs f
IsLifted s equations xs (Err LargeLift) = IsFit Quad s.rows equations xs × IsLiftAnswer limit s xs (Err lift_faults.Large)
IsLifted s equations xs (Err (NoLift c)) = IsFit Quad s.rows equations xs × IsLiftAnswer limit s xs (Err (lift_faults.NoLift c))
IsLifted s equations xs (Err (LargeSum sum)) = ⊥
IsLifted s equations xs (Err (TooManyPieces n)) = ⊥

-- a table is crushed along an admissible solution within the limit
abbrev pub IsCrushedAlong : List Row → List EquationRow → List ℕ → Result (List Row) Refusal → Type 0
IsCrushedAlong rows equations xs (Ok new) = IsFit Standard rows equations xs × IsCrushed rows xs new
IsCrushedAlong rows equations xs (Err (Unfit f)) = IsUnfit Standard rows equations xs f
IsCrushedAlong rows equations xs (Err (LargeSum sum)) = ⊥
IsCrushedAlong rows equations xs (Err (TooManyPieces n)) = ⊥
IsCrushedAlong rows equations xs (Err LargeLift) = ⊥
IsCrushedAlong rows equations xs (Err (NoLift c)) = ⊥

-- vector number v is refused for this, and none before it
pub record IsFirstRefused {A : Type 0} (IsResult : List ℕ → Result A Refusal → Type 0) (vectors : List (List ℕ)) (v : ℕ) (fault : Refusal) : Type 0 where
  pub in_range : v < length vectors
  pub refused : IsResult (slice_index_or vectors v []) (Err fault)
  pub before : (u : ℕ) → u < v → (a : A) × IsResult (slice_index_or vectors u []) (Ok a)

-- the answer for all vectors: the result of each, or the index of the first that is refused, with the reason
abbrev pub AreAnswered : {A : Type 0} → (List ℕ → Result A Refusal → Type 0) → List (List ℕ) → Result (List A) (ℕ × Refusal) → Type 0
AreAnswered IsResult vectors (Ok answers) = AllZip (λ xs a. IsResult xs (Ok a)) vectors answers
AreAnswered IsResult vectors (Err refusal) = IsFirstRefused IsResult vectors refusal.0 refusal.1
