-- What `decompose` and `addup` answer: vectors as sums of vertex surfaces, and whether terms add up.
use Rattle.std.specs.Prelude.{◌≡◌, ◌↔◌, ◌⊎◌, ◌≤◌, ℕ, List, length}
use Rattle.std.specs.List.{All, AllZip}
use Rattle.text_definitions.specs.Written.{limit}
use Rattle.cone_definitions.specs.Rows.{Row as EquationRow}
use Rattle.cone_definitions.specs.Surfaces.{IsSurfaceList}
use Rattle.cone_definitions.specs.declared.Order.TheVariants.{Given}
use Rattle.table_definitions.specs.Table.{Row}
use Rattle.surface_definitions.specs.Coordinates.{columns, clash_list}
use Rattle.surface_definitions.specs.declared.Coords.{Coords}
use Rattle.surface_definitions.specs.declared.VectorFault.{VectorFault}
use Rattle.surface_definitions.specs.QuadEquations.{AreEquations}
use Rattle.surface_definitions.specs.TableSurfaces.{table_enumeration}
use Rattle.surface_vector_definitions.specs.Answers.{IsFit}
use Rattle.sum_definitions.specs.Adding.{AddsUp}
use Rattle.sum_definitions.specs.declared.LargeTurn.{LargeTurn}
use Rattle.sum_laws.specs.Laws.{IsSumOfRays}
use Rattle.text_document_definitions.specs.Documents.{vectors_document}
use Rattle.text_document_definitions.specs.Blocks.{Block, blocks_document}
use Rattle.command_definitions.specs.declared.Request.TheVariants.{Decompose, Addup}
use Rattle.outcome_definitions.specs.declared.SumRefusal.TheVariants.{Unfit, LargeTimes}
use Rattle.outcome_definitions.specs.declared.Status.TheVariants.{Done}
use Rattle.outcome_definitions.specs.Outcomes.{Outcome}
use Rattle.outcome_definitions.specs.Canonical.{done}
use Rattle.outcome_definitions.specs.Enumerations.{IsLargeAnswered}
use Rattle.outcome_definitions.specs.Sums.{IsFirstRefused, sum_refusal_outcome, IsVerdict, IsSummed, AreFit, accepted_outcome, sums_text}
use Rattle.surface_equation_laws.specs.BoundedTables.{most_tetrahedra}
use Rattle.outcome_answer_laws.specs.Requests.{Means}

-- the vector, times its factor, is the sum of the terms: listed surfaces, ascending, each taken at least once
pub record IsSumOfSurfaces (surfaces : List (List ℕ)) (most : ℕ) (x : List ℕ) (block : Block) : Type 0 where
  pub vector : block.vector ≡ x
  pub sum : IsSumOfRays surfaces most x block.times block.terms

-- the answer has each vector as such a sum
pub record AreSumsOfSurfaces (surfaces : List (List ℕ)) (most : ℕ) (rows : List Row) (vectors : List (List ℕ)) (o : Outcome) : Type 0 where
  pub blocks : List Block
  pub sums : AllZip (IsSumOfSurfaces surfaces most) vectors blocks
  pub outcome : o ≡ done (sums_text rows blocks)

-- the answer names the first vector whose sum exceeds the limit, with the step and the column
pub record IsFirstLargeAnswered (surfaces : List (List ℕ)) (most : ℕ) (vectors : List (List ℕ)) (o : Outcome) : Type 0 where
  pub vector : ℕ
  pub large : LargeTurn
  pub first : IsFirstRefused (IsSummed most surfaces) vectors vector large
  pub outcome : o ≡ sum_refusal_outcome vector (LargeTimes large.turn large.column)

-- the sums are those of the vertex surfaces of the table
pub record AreSumsOfVertexSurfaces (coords : Coords) (most : ℕ) (rows : List Row) (equations : List EquationRow) (vectors : List (List ℕ)) (o : Outcome) : Type 0 where
  pub surfaces : List (List ℕ)
  pub are_all : IsSurfaceList (columns coords (length rows)) equations (clash_list coords (length rows)) surfaces
  pub reported : AreSumsOfSurfaces surfaces most rows vectors o ⊎ IsFirstLargeAnswered surfaces most vectors o

-- the answer names the first vector that is no admissible solution within the limit, and why
pub record IsFirstUnfitAnswered (coords : Coords) (rows : List Row) (equations : List EquationRow) (vectors : List (List ℕ)) (o : Outcome) : Type 0 where
  pub vector : ℕ
  pub fault : VectorFault
  pub first : IsFirstRefused (IsVerdict coords rows equations) vectors vector fault
  pub outcome : o ≡ sum_refusal_outcome vector (Unfit fault)

-- all vectors are admissible solutions of which no part of an equation exceeds the limit, and the answer is their sums,
-- or the first number that exceeds the limit; or the answer names the first vector that is not such
abbrev pub AreDecomposed : Coords → ℕ → List Row → List EquationRow → List (List ℕ) → Outcome → Type 0
AreDecomposed coords most rows equations vectors o =
    (All (IsFit coords rows equations) vectors × (AreSumsOfVertexSurfaces coords most rows equations vectors o ⊎ IsLargeAnswered (table_enumeration coords Given most rows equations) o))
    ⊎ IsFirstUnfitAnswered coords rows equations vectors o

-- under the equations of the table; within the greatest number of tetrahedra of the coordinates no number of the
-- enumeration exceeds a limit that is at least the default
pub record IsDecomposition (coords : Coords) (most : ℕ) (d : List Row × List (List ℕ)) (o : Outcome) : Type 0 where
  pub equations : List EquationRow
  pub of_table : AreEquations coords d.0 equations
  pub decomposed : AreDecomposed coords most d.0 equations d.1 o
  pub never_exceeded : length d.0 ≤ most_tetrahedra coords → limit ≤ most → ¬ IsLargeAnswered (table_enumeration coords Given most d.0 equations) o

-- the vector and the terms are admissible solutions within the limit, and the vector, times its factor, is the sum of
-- the terms
pub record IsTrueSum (coords : Coords) (rows : List Row) (equations : List EquationRow) (block : Block) : Type 0 where
  pub fit : AreFit coords rows equations block
  pub adds_up : AddsUp limit block.vector block.times block.terms

-- sums are accepted if and only if they are all true
pub record IsAddition (coords : Coords) (d : List Row × List Block) (o : Outcome) : Type 0 where
  pub equations : List EquationRow
  pub of_table : AreEquations coords d.0 equations
  pub accepted : (o ≡ accepted_outcome) ↔ All (IsTrueSum coords d.0 equations) d.1
  pub is_done : (o.status ≡ Done) ↔ All (IsTrueSum coords d.0 equations) d.1

abbrev pub VectorsAreDecomposed : Type 0
VectorsAreDecomposed = (coords : Coords) (most : ℕ) → Means (Decompose coords most) vectors_document (IsDecomposition coords most)

abbrev pub TrueSumsAreAccepted : Type 0
TrueSumsAreAccepted = (coords : Coords) → Means (Addup coords) blocks_document (IsAddition coords)
