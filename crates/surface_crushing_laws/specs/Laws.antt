-- Laws of crushing along a vector without quads.
use Rattle.std.specs.Prelude.{◌≡◌, ◌↔◌, ℕ, ◌<◌, true, List, length, Result, Ok, slice_index}
use Rattle.cone_definitions.specs.Rows.{Row as EquationRow}
use Rattle.table_definitions.specs.Table.{Row, IsTable}
use Rattle.surface_definitions.specs.Coordinates.{quad_column}
use Rattle.surface_definitions.specs.declared.Coords.TheVariants.{Standard}
use Rattle.surface_definitions.specs.Characteristic.{is_linking}
use Rattle.surface_definitions.specs.Crushing.{IsCrushed}
use Rattle.surface_vector_definitions.specs.Answers.{IsFit, IsCrushedAlong}
use Rattle.surface_vector_definitions.specs.declared.Refusal.{Refusal}

-- the vector has no quad in n tetrahedra
abbrev pub HasNoQuads : ℕ → List ℕ → Type 0
HasNoQuads n xs = (t k : ℕ) → t < n → k < 3 → slice_index xs (quad_column Standard t k) ≡ 0

-- a table is crushed to itself exactly along such a vector
abbrev pub CrushedToItself : Type 0
CrushedToItself = (rows : List Row) (xs : List ℕ) → IsTable rows → IsCrushed rows xs rows ↔ HasNoQuads (length rows) xs

-- and along such a vector to nothing else
abbrev pub NothingElseIsCrushed : Type 0
NothingElseIsCrushed = (rows new : List Row) (xs : List ℕ) → IsTable rows → HasNoQuads (length rows) xs → IsCrushed rows xs new → new ≡ rows

-- a vertex linking vector is such a one
abbrev pub LinkingCrushesNothing : Type 0
LinkingCrushesNothing = (rows new : List Row) (xs : List ℕ) → IsTable rows → is_linking Standard xs ≡ true → IsCrushed rows xs new ↔ (new ≡ rows)

-- Theorem: the one answer for such an admissible solution is the table itself
abbrev pub FitAreCrushedToItself : Type 0
FitAreCrushedToItself =
    (rows : List Row) (equations : List EquationRow) (xs : List ℕ) (reported : Result (List Row) Refusal) → IsTable rows → HasNoQuads (length rows) xs → IsFit Standard rows equations xs
    → IsCrushedAlong rows equations xs reported ↔ (reported ≡ Ok rows)
