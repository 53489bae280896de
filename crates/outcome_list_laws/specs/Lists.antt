-- What `surfaces` lists in its coordinates, and what `lift` answers of the quad list, agree (Burton).
use Rattle.std.specs.Prelude.{◌≡◌, ℕ, List, ◌++◌, length, map, filter, Ok}
use Rattle.std.specs.List.{All, Contains}
use Rattle.cone_definitions.specs.Rows.{Row as EquationRow}
use Rattle.cone_definitions.specs.declared.Order.{Order}
use Rattle.table_definitions.specs.Table.{Row}
use Rattle.table_definitions.specs.TableText.{table_text}
use Rattle.surface_definitions.specs.declared.Coords.{Coords}
use Rattle.surface_definitions.specs.declared.Coords.TheVariants.{Standard, Quad, Octagon}
use Rattle.surface_definitions.specs.QuadEquations.{AreEquations}
use Rattle.text_document_definitions.specs.Documents.{table_document}
use Rattle.command_definitions.specs.declared.Request.TheVariants.{Surfaces, Lift, Verify}
use Rattle.outcome_definitions.specs.declared.Status.TheVariants.{Done}
use Rattle.outcome_definitions.specs.Outcomes.{Outcome}
use Rattle.outcome_definitions.specs.Answers.{verify_outcome}
use Rattle.surface_agreement_laws.specs.VertexSurfaces.{in_octagons, has_no_octagon}
use Rattle.outcome_answer_laws.specs.Requests.{IsOutcomeTo}
use Rattle.outcome_written_laws.specs.Surfaces.{IsSolutionUnlessLarge}
use Rattle.outcome_list_laws.specs.Runs.{IsListInput, IsListText, AreListed, ListRun, LiftRun, IsLiftRun}

-- each vector of the first text is in the second
pub record AreAmong (rows : List Row) (text other : List ℕ) : Type 0 where
  pub vectors : List (List ℕ)
  pub read : IsListText rows text vectors
  pub list : List (List ℕ)
  pub list_read : IsListText rows other list
  pub among : All (Contains list) vectors

-- the lifts that `lift` prints for the quad list, if it is done, are in the standard list
abbrev pub LiftedListsAreListed : Type 0
LiftedListsAreListed =
    (words lifting asked : List (List ℕ)) (bytes more : List ℕ) (quads lifts standard : Outcome) (order other : Order) (most greatest : ℕ) (rows : List Row)
    → IsOutcomeTo (Surfaces Quad order most) words bytes quads → table_document bytes ≡ Ok rows → quads.status ≡ Done
    → IsOutcomeTo Lift lifting (table_text rows ++ quads.text) lifts → lifts.status ≡ Done
    → IsOutcomeTo (Surfaces Standard other greatest) asked more standard → table_document more ≡ Ok rows → standard.status ≡ Done → AreAmong rows lifts.text standard.text

-- Theorem: each lift that `lift` prints, for an input that is read as the table and vectors that `surfaces` listed in
-- quad coordinates, is in the standard list.
abbrev pub LiftedInputsAreListed : Type 0
LiftedInputsAreListed =
    (rows : List Row) (quads standard : List (List ℕ)) (r : LiftRun) → AreListed Quad rows quads → AreListed Standard rows standard → IsLiftRun rows r
    → All (Contains quads) r.run.vectors → All (Contains standard) r.lifts

-- the answer has a verdict on each vector, in their order: it is a solution, or the first equation is named of which a
-- part exceeds the limit
pub record AreVerifiedVectors (coords : Coords) (rows : List Row) (vectors : List (List ℕ)) (o : Outcome) : Type 0 where
  pub equations : List EquationRow
  pub of_table : AreEquations coords rows equations
  pub verdicts : All (IsSolutionUnlessLarge coords rows equations) vectors
  pub outcome : o ≡ verify_outcome coords rows equations vectors

-- Theorem: the answer of `verify` to an input that is read as the table and vectors that `surfaces` listed has such a
-- verdict on each of them.
abbrev pub ListedInputsAreVerified : Type 0
ListedInputsAreVerified =
    (coords : Coords) (rows : List Row) (list : List (List ℕ)) (run : ListRun) → AreListed coords rows list → IsListInput rows run.input run.vectors
    → IsOutcomeTo (Verify coords) run.words run.input run.outcome → All (Contains list) run.vectors → AreVerifiedVectors coords rows run.vectors run.outcome

-- Theorem: the answer of `verify` in standard coordinates to an input that is read as the table and vectors that `lift`
-- printed for it has such a verdict on each of them.
abbrev pub LiftedInputsAreVerified : Type 0
LiftedInputsAreVerified =
    (rows : List Row) (r : LiftRun) (run : ListRun) → IsLiftRun rows r → IsListInput rows run.input run.vectors
    → IsOutcomeTo (Verify Standard) run.words run.input run.outcome → All (Contains r.lifts) run.vectors → AreVerifiedVectors Standard rows run.vectors run.outcome

-- the vectors of the one text, in octagon coordinates, are those of the other without octagons, in the same order
pub record ArePartWithoutOctagons (rows : List Row) (text other : List ℕ) : Type 0 where
  pub standard : List (List ℕ)
  pub read : IsListText rows text standard
  pub octagon : List (List ℕ)
  pub octagon_read : IsListText rows other octagon
  pub part : map (in_octagons (length rows)) standard ≡ filter has_no_octagon octagon

-- so are the standard list and the octagon list
abbrev pub OctagonListsHaveStandard : Type 0
OctagonListsHaveStandard =
    (words asked : List (List ℕ)) (bytes more : List ℕ) (standard octagon : Outcome) (order other : Order) (most greatest : ℕ) (rows : List Row)
    → IsOutcomeTo (Surfaces Standard order most) words bytes standard → table_document bytes ≡ Ok rows → standard.status ≡ Done
    → IsOutcomeTo (Surfaces Octagon other greatest) asked more octagon → table_document more ≡ Ok rows → octagon.status ≡ Done
    → ArePartWithoutOctagons rows standard.text octagon.text
