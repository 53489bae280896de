-- The answers of `make`, if three tetrahedra for each move are within the limit of tetrahedra, and of `bulk`.
use Rattle.std.specs.Prelude.{◌≡◌, ◌≤◌, ℕ, List, length}
use Rattle.text_definitions.specs.Written.{limit}
use Rattle.cone_definitions.specs.Rows.{Row as EquationRow}
use Rattle.cone_definitions.specs.declared.Order.TheVariants.{Given}
use Rattle.table_definitions.specs.Table.{Row}
use Rattle.surface_definitions.specs.declared.Coords.TheVariants.{Standard}
use Rattle.surface_definitions.specs.QuadEquations.{AreEquations}
use Rattle.surface_definitions.specs.TableSurfaces.{table_enumeration}
use Rattle.move_definitions.specs.Moves.{Move}
use Rattle.move_definitions.specs.Certificates.{IsCertificate}
use Rattle.command_definitions.specs.declared.Request.TheVariants.{Make, Bulk}
use Rattle.outcome_definitions.specs.Outcomes.{Outcome}
use Rattle.outcome_definitions.specs.Enumerations.{IsLargeAnswered}
use Rattle.outcome_definitions.specs.Makings.{make_outcome, AreSummedUp}
use Rattle.outcome_answer_laws.specs.Requests.{IsOutcomeTo}

-- a table and a certificate with exactly this number of moves
pub record IsTableWithMoves (moves : ℕ) (o : Outcome) : Type 0 where
  pub table : List Row
  pub certificate : List Move
  pub certified : IsCertificate table certificate
  pub count : length certificate ≡ moves
  pub outcome : o ≡ make_outcome table certificate

abbrev pub AllMovesAreMade : Type 0
AllMovesAreMade = (words : List (List ℕ)) (bytes : List ℕ) (o : Outcome) (seed moves : ℕ) → IsOutcomeTo (Make seed moves) words bytes o → moves ≤ 333 → IsTableWithMoves moves o

-- the summary of the vertex surfaces, in standard coordinates, of a table that exactly this number of moves certify; no
-- number of their enumeration exceeds the limit
pub record IsSummaryWithMoves (seed moves : ℕ) (o : Outcome) : Type 0 where
  pub table : List Row
  pub certificate : List Move
  pub certified : IsCertificate table certificate
  pub count : length certificate ≡ moves
  pub equations : List EquationRow
  pub of_table : AreEquations Standard table equations
  pub summed_up : AreSummedUp (record { seed = seed; moves = moves; tetrahedra = length table })
      (table_enumeration Standard Given limit table equations) o
  pub never_exceeded : ¬ IsLargeAnswered (table_enumeration Standard Given limit table equations) o

abbrev pub AllMovesAreSummedUp : Type 0
AllMovesAreSummedUp =
    (words : List (List ℕ)) (bytes : List ℕ) (o : Outcome) (seed moves : ℕ) → IsOutcomeTo (Bulk seed moves) words bytes o
    → IsSummaryWithMoves seed moves o
