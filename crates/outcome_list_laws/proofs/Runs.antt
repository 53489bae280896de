-- What `surfaces` listed are the vertex surfaces, and what a run of `describe` prints of its vectors.
use Rattle.std.proofs.Common.{◌≡◌, ℕ, List, [], ◌∷◌, map, None, Result, Ok, Err, inl, inr, All, Contains, sym, refl, ap, ap₂, ◌∙◌, subst}
use Rattle.std.specs.List.{AllZip, flat_map, slice_index_or}
use Rattle.std.proofs.lemmas.List.Elements.{All-head, All-tail, All-contains, Contains-get_or}
use Rattle.cone_definitions.specs.Rows.{Row as EquationRow}
use Rattle.table_definitions.specs.Table.{Row}
use Rattle.table_definitions.proofs.Listed.{among_contains, contains_among, Among-flat_map}
use Rattle.skeleton_definitions.specs.Skeleton.{Skeleton, IsSkeleton, IsFirstInvalid}
use Rattle.skeleton_definitions.proofs.OneSkeleton.{one_skeleton}
use Rattle.skeleton_laws.proofs.Skeletons.{some_skeleton}
use Rattle.surface_definitions.specs.declared.Coords.{Coords}
use Rattle.surface_definitions.specs.Equations.{matching_rows}
use Rattle.surface_vector_definitions.specs.Answers.{Description, IsDescription, AreAnswered}
use Rattle.surface_vector_definitions.specs.declared.Refusal.{Refusal}
use Rattle.text_document_definitions.specs.Documents.{vectors_document}
use Rattle.command_definitions.specs.declared.Request.TheVariants.{Describe}
use Rattle.outcome_definitions.specs.declared.Status.TheVariants.{Done, Refused}
use Rattle.outcome_definitions.specs.Outcomes.{Outcome}
use Rattle.outcome_definitions.specs.Vectors.{describe_outcome, AreDescribed, IsDescribeAnswer}
use Rattle.surface_laws.specs.MatchingLaws.{HasTriangles}
use Rattle.surface_agreement_laws.specs.VertexSurfaces.{IsSurfaceListOf}
use Rattle.outcome_laws.proofs.Certified.{table_alone}
use Rattle.outcome_answer_laws.proofs.Asked.{answer_to, answer_to_value}
use Rattle.outcome_written_laws.specs.Surfaces.{AreVertexSurfaces, IsReadAsSurfaces}
use Rattle.outcome_written_laws.proofs.Surfaces.{surfaces_are_read_lem}
use Rattle.outcome_written_laws.proofs.Lifts.{never_done}
use Rattle.outcome_written_laws.proofs.Joined.{joined_parts_are_read_lem}
use Rattle.outcome_list_laws.specs.Runs.{AreListed, ListRun, IsDoneRun, IsFileRun, FileRunsAreRead, vectors_of}
use Rattle.outcome_list_laws.specs.Parts.{ArePrinted}
use Rattle.outcome_list_laws.proofs.ReadLists.{by_matching, list_of}
use Rattle.outcome_list_laws.proofs.Zipped.{zip_append, zip_map}

-- the vectors that were read, or `vectors` if there is an error
abbrev pub read_or : {E : Type 0} → List (List ℕ) → Result (List Row × List (List ℕ)) E → List (List ℕ)
read_or vectors (Ok document) = document.1
read_or vectors (Err e) = vectors

module _ (coords : Coords) (rows : List Row) (list : List (List ℕ)) (l : AreListed coords rows list) where
  -- the list is that of all vertex surfaces, by some equations of the table
  pub listed_by : (equations : List EquationRow) × AreVertexSurfaces coords rows equations list
  listed_by =
      let read : IsReadAsSurfaces coords rows l.outcome.text = surfaces_are_read_lem l.words l.input l.outcome coords l.order l.most rows l.asked l.read l.done in
      (read.equations, subst (AreVertexSurfaces coords rows read.equations) (ap (read_or read.list) (sym read.read ∙ l.printed)) read.all)

  pub listed_skeleton : (s : Skeleton) × (s.rows ≡ rows) × IsSkeleton s
  listed_skeleton = some_skeleton rows (table_alone l.input rows l.read)

  pub listed_of : (s : Skeleton) → s.rows ≡ rows → HasTriangles coords → IsSurfaceListOf s coords list
  listed_of s of_rows triangles = list_of s coords rows of_rows listed_by.0 list listed_by.1.surfaces triangles listed_by.1.of_table

pub refused_not_done : (o : Outcome) (text : List ℕ) → o ≡ record { status = Refused; text = text } → o.status ≡ Done → ⊥
refused_not_done o text e done = let same : Refused ≡ Done = sym (ap (λ (q : Outcome). q.status) e) ∙ done in cc

abbrev pub joined : List (List Description) → List Description
joined parts = flat_map (λ (part : List Description). part) parts

abbrev pub outcomes_of : List ListRun → List Outcome
outcomes_of runs = map (λ (run : ListRun). run.outcome) runs

module _ (s : Skeleton) (coords : Coords) where
  -- the description of a vector, by the matching equations
  abbrev pub IsResult : List ℕ → Description → Type 0
  IsResult v d = IsDescription s coords (matching_rows coords s.rows) v (Ok d)

  abbrev pub texts_of : List (List Description) → List Outcome
  texts_of parts = map (λ (part : List Description). describe_outcome s coords (Ok part)) parts

  pub vectors_are : (list : List (List ℕ)) (reported : List Description) → AllZip IsResult list reported → map (λ (d : Description). d.vector) reported ≡ list
  vectors_are list reported zipped = zip_map IsResult (λ (d : Description). d.vector) (λ v d t. t.1) list reported zipped

  -- what one run prints
  record Part (vectors : List (List ℕ)) (o : Outcome) : Type 0 where
    reported : List Description
    zipped : AllZip IsResult vectors reported
    outcome : o ≡ describe_outcome s coords (Ok reported)

  part_by : (vectors : List (List ℕ)) (o : Outcome) → o.status ≡ Done → (reported : Result (List Description) (ℕ × Refusal)) → AreAnswered (IsDescription s coords (matching_rows coords s.rows)) vectors reported
      → o ≡ describe_outcome s coords reported → Part vectors o
  part_by vectors o done (Err refusal) t e = absurd (never_done refusal.1 (sym (ap (λ (q : Outcome). q.status) e) ∙ done))
  part_by vectors o done (Ok reported) t e = record { reported = reported; zipped = t; outcome = e }

  module _ (k : IsSkeleton s) (triangles : HasTriangles coords) (rows : List Row) (of_rows : s.rows ≡ rows) where
    part_of : (vectors : List (List ℕ)) (o : Outcome) → o.status ≡ Done → AreDescribed s coords vectors o → Part vectors o
    part_of vectors o done d = part_by vectors o done d.reported
        (subst (λ (es : List EquationRow). AreAnswered (IsDescription s coords es) vectors d.reported) (by_matching coords s.rows d.equations triangles d.of_table) d.described) d.outcome

    -- a run that is done describes its vectors, and no edge is invalid
    pub answered : (run : ListRun) → IsDoneRun (Describe coords) rows run → IsFirstInvalid s None × AreDescribed s coords run.vectors run.outcome
    answered run is =
        let answer : IsDescribeAnswer coords (rows, run.vectors) run.outcome =
        answer_to_value (vectors_document run.input) (rows, run.vectors) (IsDescribeAnswer coords) run.outcome is.read (answer_to (Describe coords) run.words run.input run.outcome is.asked) in
        elim answer.reported [
          | inl invalid ↦ absurd (refused_not_done run.outcome _ invalid.2 is.done)
          | inr reported ↦ subst (λ (t : Skeleton). IsFirstInvalid t None × AreDescribed t coords run.vectors run.outcome) (one_skeleton answer.skeleton s (answer.of_rows ∙ sym of_rows) answer.is_skeleton k) reported
        ]

    part_run : (run : ListRun) → IsDoneRun (Describe coords) rows run → Part run.vectors run.outcome
    part_run run is = part_of run.vectors run.outcome is.done (answered run is).1

    -- what all runs print
    pub record Parts (runs : List ListRun) : Type 0 where
      pub parts : List (List Description)
      pub zipped : AllZip IsResult (vectors_of runs) (joined parts)
      pub outcomes : outcomes_of runs ≡ texts_of parts

    pub parts_of : (runs : List ListRun) → All (IsDoneRun (Describe coords) rows) runs → Parts runs
    parts_of [] h = record { parts = []; zipped = tt; outcomes = refl }
    parts_of (run ∷ runs) h =
        let first = part_run run (All-head (IsDoneRun (Describe coords) rows) run runs h) in
        let rest = parts_of runs (All-tail (IsDoneRun (Describe coords) rows) run runs h) in
        record {
          parts = first.reported ∷ rest.parts;
          zipped = zip_append IsResult run.vectors (vectors_of runs) first.reported (joined rest.parts) first.zipped rest.zipped;
          outcomes = ap₂ ◌∷◌ first.outcome rest.outcomes;
        }

    pub are_printed : (runs : List ListRun) (all : Parts runs) → ArePrinted s coords runs (joined all.parts)
    are_printed runs all = record { parts = all.parts; outcomes = all.outcomes; joined = refl; vectors = vectors_are (vectors_of runs) (joined all.parts) all.zipped }

-- a file with the lines of listed vectors is read as the table and these
pub file_runs_lem : FileRunsAreRead
file_runs_lem request front text rows list runs file printed are among i d l =
    let run : ListRun = slice_index_or runs i d in
    let is : IsFileRun request front run = are i d l in
    let part : All (Contains list) run.vectors = λ j e m. (let x : List ℕ = slice_index_or run.vectors j e in
    All-contains (Contains list) (vectors_of runs) x among
    (contains_among x (vectors_of runs) (Among-flat_map (λ (r : ListRun). r.vectors) run x runs (among_contains run runs (Contains-get_or runs i d l)) (among_contains x run.vectors (Contains-get_or run.vectors j e m))))) in
    record {
      read = ap (λ (bytes : List ℕ). vectors_document bytes) is.input ∙ joined_parts_are_read_lem front text rows list run.vectors file printed part;
      asked = is.asked;
      done = is.done;
    }
