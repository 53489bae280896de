-- What a run with status Done has printed, command by command.
use Rattle.std.specs.Prelude.{◌≡◌, ◌⊎◌, ◌≤◌, ℕ, List, [], map, length, Option, Result, Ok, IfSome, codes}
use Rattle.text_io.specs.Causes.{Grows}
use Rattle.signature_definitions.specs.declared.InputFault.{InputFault}
use Rattle.table_definitions.specs.Table.{Row}
use Rattle.cone_definitions.specs.Rows.{Row as EquationRow}
use Rattle.cone_definitions.specs.Surfaces.{IsSurfaceList}
use Rattle.cone_definitions.specs.Listings.{Enumeration, ExceedsLimit}
use Rattle.cone_definitions.specs.declared.Order.{Order}
use Rattle.cone_definitions.specs.Elimination.{Named as LargeKind}
use Rattle.cone_text_definitions.specs.ConeText.{Cone as ConeText, system_of}
use Rattle.surface_definitions.specs.Coordinates.{columns, clash_list}
use Rattle.surface_definitions.specs.declared.Coords.{Coords}
use Rattle.surface_definitions.specs.QuadEquations.{AreEquations}
use Rattle.surface_vector_definitions.specs.Answers.{verdict_in}
use Rattle.text_document_definitions.specs.Documents.{worded, table_document, vectors_document, cone_document, verdicts_text}
use Rattle.surface_definitions.specs.TableSurfaces.{table_enumeration}
use Rattle.outcome_definitions.specs.declared.Status.{Status}
use Rattle.outcome_definitions.specs.declared.Status.TheVariants.{Done, Large, ReadFault, WriteFault, NoMemory}
use Rattle.outcome_definitions.specs.Outcomes.{Outcome}
use Rattle.outcome_definitions.specs.Enumerations.{listing, large_outcome, ray_enumeration}
use Rattle.outcome_definitions.specs.Answers.{most_bytes}

-- The input is a table, and exactly the primitive vectors on extreme rays of the solution cone of its equations that
-- satisfy the quadrilateral condition were printed, each once, in lexicographic order.
pub record PrintsSurfaces (coords : Coords) (bytes : List ℕ) (before now : Option (List ℕ)) : Type 0 where
  pub rows : List Row
  pub spelled : table_document bytes ≡ Ok rows
  pub equations : List EquationRow
  pub of_table : AreEquations coords rows equations
  pub list : List (List ℕ)
  pub surfaces : IsSurfaceList (columns coords (length rows)) equations (clash_list coords (length rows)) list
  pub printed : Grows before now (listing (codes "surfaces") list)

-- The input is a cone, and exactly its primitive extreme rays were printed, each once, in lexicographic order.
pub record PrintsRays (bytes : List ℕ) (before now : Option (List ℕ)) : Type 0 where
  pub cone : ConeText
  pub spelled : worded (cone_document bytes) ≡ Ok cone
  pub list : List (List ℕ)
  pub rays : IsSurfaceList (system_of cone).columns (system_of cone).rows [] list
  pub printed : Grows before now (listing (codes "rays") list)

-- The input is a table and vectors, and the verdict on each vector under the table's equations was printed.
pub record PrintsVerdicts (coords : Coords) (bytes : List ℕ) (before now : Option (List ℕ)) : Type 0 where
  pub rows : List Row
  pub vectors : List (List ℕ)
  pub spelled : vectors_document bytes ≡ Ok (rows, vectors)
  pub equations : List EquationRow
  pub of_table : AreEquations coords rows equations
  pub printed : Grows before now (verdicts_text (map (verdict_in coords rows equations) vectors))

-- The vertex surfaces of a table were printed: exactly the primitive vectors on extreme rays of the solution cone of
-- its equations that satisfy the quadrilateral condition, each once, in lexicographic order.
pub record ListsSurfaces (coords : Coords) (rows : List Row) (status : Status) (before now : Option (List ℕ)) : Type 0 where
  pub done : status ≡ Done
  pub equations : List EquationRow
  pub of_table : AreEquations coords rows equations
  pub list : List (List ℕ)
  pub surfaces : IsSurfaceList (columns coords (length rows)) equations (clash_list coords (length rows)) list
  pub printed : Grows before now (listing (codes "surfaces") list)

-- the first step of an enumeration at which a number exceeds the limit was named, with the ray or the pair of rays
pub record NamesLarge (e : Enumeration) (status : Status) (before now : Option (List ℕ)) : Type 0 where
  pub large : status ≡ Large
  pub taken : List ℕ
  pub kind : LargeKind
  pub exceeded : ExceedsLimit e taken kind
  pub named : Grows before now (large_outcome taken kind).text

-- the source failed, the sink failed, or memory ran out; each has a clause of its own
abbrev pub IsCutShort : Status → Type 0
IsCutShort status = (status ≡ ReadFault) ⊎ (status ≡ WriteFault) ⊎ (status ≡ NoMemory)

-- the answer of `surfaces` for a table, or a number that exceeds the limit is named, or the run was cut short
abbrev pub AnswersSurfaces : Coords → Order → ℕ → List Row → Status → Option (List ℕ) → Option (List ℕ) → Type 0
AnswersSurfaces coords order most rows status before now = ListsSurfaces coords rows status before now
    ⊎ ((equations : List EquationRow) × AreEquations coords rows equations × NamesLarge (table_enumeration coords order most rows equations) status before now)
    ⊎ IsCutShort status

-- the primitive extreme rays of a cone were printed, each once, in lexicographic order
pub record ListsRays (cone : ConeText) (status : Status) (before now : Option (List ℕ)) : Type 0 where
  pub done : status ≡ Done
  pub list : List (List ℕ)
  pub rays : IsSurfaceList (system_of cone).columns (system_of cone).rows [] list
  pub printed : Grows before now (listing (codes "rays") list)

-- the answer of `rays` for a cone, or a number that exceeds the limit is named, or the run was cut short
abbrev pub AnswersRays : Order → ℕ → ConeText → Status → Option (List ℕ) → Option (List ℕ) → Type 0
AnswersRays order most cone status before now =
    ListsRays cone status before now ⊎ NamesLarge (ray_enumeration order most cone) status before now ⊎ IsCutShort status

-- an outcome of this kind was written, or the run was cut short
abbrev pub Writes : (Outcome → Type 0) → Status → Option (List ℕ) → Option (List ℕ) → Type 0
Writes IsMeant status before now = ((o : Outcome) × IsMeant o × (status ≡ o.status) × Grows before now o.text) ⊎ IsCutShort status

-- if the source's bytes are visible and are a document of this kind, an outcome with the property was written, or the
-- run was cut short
abbrev pub WritesOf : {A : Type 0} → (List ℕ → Result A InputFault) → (A → Outcome → Type 0) → Option (List ℕ) → Status → Option (List ℕ) → Option (List ℕ) → Type 0
WritesOf {A} document IsMeant left status before now =
    IfSome left (λ bytes. (d : A) → length bytes ≤ most_bytes → document bytes ≡ Ok d → Writes (IsMeant d) status before now)
