-- The answers of `make` and `bulk`, which read nothing: a table that is made with its certificate, and numbers of its
-- surfaces.
use Rattle.std.specs.Prelude.{◌≡◌, ◌⊎◌, ℕ, ◌≤◌, List, ◌++◌, length, codes, count_by}
use Rattle.cone_definitions.specs.Rows.{Row as EquationRow}
use Rattle.cone_definitions.specs.Listings.{Enumeration, IsListed}
use Rattle.cone_definitions.specs.declared.Order.TheVariants.{Given}
use Rattle.text_definitions.specs.Written.{limit}
use Rattle.table_definitions.specs.Table.{Row}
use Rattle.surface_definitions.specs.declared.Coords.TheVariants.{Standard}
use Rattle.surface_definitions.specs.Characteristic.{is_linking}
use Rattle.surface_definitions.specs.QuadEquations.{AreEquations}
use Rattle.surface_definitions.specs.TableSurfaces.{table_enumeration}
use Rattle.move_definitions.specs.Moves.{Move}
use Rattle.move_definitions.specs.Certificates.{IsCertificate}
use Rattle.certificate_definitions.specs.Makings.{IsMade}
use Rattle.outcome_definitions.specs.declared.Status.TheVariants.{Done}
use Rattle.outcome_definitions.specs.Lines.{number_line}
use Rattle.outcome_definitions.specs.Outcomes.{Outcome}
use Rattle.outcome_definitions.specs.Enumerations.{AreUpTo, IsLargeAnswered}
use Rattle.outcome_definitions.specs.Certificates.{table_then_moves}

-- the table, followed by the moves of its certificate
abbrev pub make_outcome : List Row → List Move → Outcome
make_outcome table certificate = record { status = Done; text = table_then_moves table certificate }

-- the answer of `make` to a seed and a number of moves
pub record IsMakeAnswer (seed moves : ℕ) (o : Outcome) : Type 0 where
  pub table : List Row
  pub certificate : List Move
  pub made : IsMade seed moves table certificate
  pub outcome : o ≡ make_outcome table certificate

-- the greatest entry of the vectors, 0 if there are none
pub record IsGreatestEntry (list : List (List ℕ)) (greatest : ℕ) : Type 0 where
  pub up_to : AreUpTo greatest list
  pub least : (most : ℕ) → AreUpTo most list → greatest ≤ most

-- the numbers of a table that was made: its seed, the moves of its certificate, and its tetrahedra
pub record Numbers : Type 0 where
  pub seed : ℕ
  pub moves : ℕ
  pub tetrahedra : ℕ

-- the numbers, how many surfaces there are, their greatest entry, and how many of them have no quads
unfoldable pub summary_text : Numbers → List (List ℕ) → ℕ → List ℕ
summary_text n list greatest =
    number_line (codes "seed ") n.seed ++ number_line (codes "moves ") n.moves ++ number_line (codes "tetrahedra ") n.tetrahedra
    ++ number_line (codes "certificate accepted ") n.moves ++ number_line (codes "surfaces ") (length list)
    ++ number_line (codes "largest ") greatest ++ number_line (codes "linking ") (count_by (is_linking Standard) list)

abbrev pub summary_outcome : Numbers → List (List ℕ) → ℕ → Outcome
summary_outcome n list greatest = record { status = Done; text = summary_text n list greatest }

-- the surfaces are listed, and summed up
pub record AreSummedUp (n : Numbers) (e : Enumeration) (o : Outcome) : Type 0 where
  pub taken : List ℕ
  pub list : List (List ℕ)
  pub listed : IsListed e taken list
  pub greatest : ℕ
  pub is_greatest : IsGreatestEntry list greatest
  pub outcome : o ≡ summary_outcome n list greatest

-- the answer about the vertex surfaces of a table in standard coordinates, unless a number exceeds the limit
pub record IsSummary (n : Numbers) (table : List Row) (o : Outcome) : Type 0 where
  pub equations : List EquationRow
  pub of_table : AreEquations Standard table equations
  pub reported : AreSummedUp n (table_enumeration Standard Given limit table equations) o ⊎ IsLargeAnswered (table_enumeration Standard Given limit table equations) o

-- the answer of `bulk` to a seed and a number of moves: a table is made, its certificate is one, and its surfaces are
-- summed up
pub record IsBulkAnswer (seed moves : ℕ) (o : Outcome) : Type 0 where
  pub table : List Row
  pub certificate : List Move
  pub made : IsMade seed moves table certificate
  pub accepted : IsCertificate table certificate
  pub summary : IsSummary (record { seed = seed; moves = length certificate; tetrahedra = length table }) table o
