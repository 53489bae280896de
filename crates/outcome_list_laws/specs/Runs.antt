-- Runs on lists: what `surfaces` printed, and runs of other commands on inputs that are read as a table and vectors.
use Rattle.std.specs.Prelude.{◌≡◌, ℕ, List, [], ◌∷◌, ◌++◌, Ok}
use Rattle.std.specs.List.{All, Contains, flat_map}
use Rattle.cone_definitions.specs.declared.Order.{Order}
use Rattle.table_definitions.specs.Table.{Row}
use Rattle.table_definitions.specs.TableText.{table_text}
use Rattle.cone_text_definitions.specs.VectorText.{list_text}
use Rattle.surface_definitions.specs.declared.Coords.{Coords}
use Rattle.text_document_definitions.specs.Documents.{table_document, vectors_document}
use Rattle.command_definitions.specs.declared.Request.{Request}
use Rattle.command_definitions.specs.declared.Request.TheVariants.{Surfaces, Lift}
use Rattle.outcome_definitions.specs.declared.Status.TheVariants.{Done}
use Rattle.outcome_definitions.specs.Outcomes.{Outcome}
use Rattle.outcome_answer_laws.specs.Requests.{IsOutcomeTo}

-- the input is read as the table and this list: the table may be a gluing table or a signature, with any comments and
-- spacing
abbrev pub IsListInput : List Row → List ℕ → List (List ℕ) → Type 0
IsListInput rows input list = vectors_document input ≡ Ok (rows, list)

-- the text after that of the table is read as the table and this list
abbrev pub IsListText : List Row → List ℕ → List (List ℕ) → Type 0
IsListText rows text list = IsListInput rows (table_text rows ++ text) list

-- a run of `surfaces`, on an input that is read as the table, is done and prints this list
pub record AreListed (coords : Coords) (rows : List Row) (list : List (List ℕ)) : Type 0 where
  pub words : List (List ℕ)
  pub input : List ℕ
  pub order : Order
  pub most : ℕ
  pub outcome : Outcome
  pub asked : IsOutcomeTo (Surfaces coords order most) words input outcome
  pub read : table_document input ≡ Ok rows
  pub done : outcome.status ≡ Done
  pub printed : IsListText rows outcome.text list

-- a run of a command: its words, its input, the vectors that are read from it, and the outcome
pub record ListRun : Type 0 where
  pub words : List (List ℕ)
  pub input : List ℕ
  pub vectors : List (List ℕ)
  pub outcome : Outcome

-- the input is read as the table and the vectors, it is within the input limit, and the command is done
pub record IsDoneRun (request : Request) (rows : List Row) (run : ListRun) : Type 0 where
  pub read : IsListInput rows run.input run.vectors
  pub asked : IsOutcomeTo request run.words run.input run.outcome
  pub done : run.outcome.status ≡ Done

-- the vectors of all runs, one run after the other
abbrev pub vectors_of : List ListRun → List (List ℕ)
vectors_of runs = flat_map (λ (run : ListRun). run.vectors) runs

-- each vector of the one list is in the other, and each of the other in the one, in any order and any number of times
abbrev pub HaveSameVectors : List (List ℕ) → List (List ℕ) → Type 0
HaveSameVectors list other = All (Contains other) list × All (Contains list) other

-- the input is a file, whose last byte is a line feed, with a line `vec` for each of the vectors joined to its end; it
-- is within the input limit, and the command is done
pub record IsFileRun (request : Request) (front : List ℕ) (run : ListRun) : Type 0 where
  pub input : run.input ≡ front ++ 10 ∷ list_text run.vectors
  pub asked : IsOutcomeTo request run.words run.input run.outcome
  pub done : run.outcome.status ≡ Done

-- Theorem: the input of each run on a file that is read as a table, with lines of vectors of a list that was printed
-- for this table, is read as the table and these vectors.
abbrev pub FileRunsAreRead : Type 0
FileRunsAreRead =
    (request : Request) (front text : List ℕ) (rows : List Row) (list : List (List ℕ)) (runs : List ListRun) → table_document (front ++ 10 ∷ []) ≡ Ok rows → IsListText rows text list
    → All (IsFileRun request front) runs → All (Contains list) (vectors_of runs) → All (IsDoneRun request rows) runs

-- a run of `lift`, and the vectors that its text is read as after the table
pub record LiftRun : Type 0 where
  pub run : ListRun
  pub lifts : List (List ℕ)

-- the run is done, and these are the lifts that it prints
pub record IsLiftRun (rows : List Row) (r : LiftRun) : Type 0 where
  pub done : IsDoneRun Lift rows r.run
  pub printed : IsListText rows r.run.outcome.text r.lifts

-- the vectors of all runs of `lift`, one run after the other
abbrev pub lifted_of : List LiftRun → List (List ℕ)
lifted_of runs = flat_map (λ (r : LiftRun). r.run.vectors) runs

-- the lifts of all runs, one run after the other
abbrev pub lifts_of : List LiftRun → List (List ℕ)
lifts_of runs = flat_map (λ (r : LiftRun). r.lifts) runs
