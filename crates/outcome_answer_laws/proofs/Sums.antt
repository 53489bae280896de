-- The printed sums are sums of vertex surfaces, and sums are accepted if and only if they are true.
use Rattle.std.proofs.Common.{◌≡◌, ◌↔◌, ◌≤◌, ℕ, List, [], ◌∷◌, length, map, None, Result, Ok, Err, inl, inr, refl, sym, ◌∙◌, arith}
use Rattle.std.specs.List.{All, AllZip, AllByRecursion, slice_index_or}
use Rattle.std.proofs.lemmas.List.Elements.{All-from_recursion, recursion_from_All}
use Rattle.text_definitions.specs.Written.{limit}
use Rattle.cone_definitions.specs.Rows.{Row as EquationRow}
use Rattle.cone_definitions.specs.Surfaces.{IsSurfaceList}
use Rattle.cone_definitions.specs.declared.Order.TheVariants.{Given}
use Rattle.cone_text_definitions.specs.VectorText.{vector_at}
use Rattle.table_definitions.specs.Table.{Row}
use Rattle.surface_definitions.specs.Coordinates.{columns, clash_list}
use Rattle.surface_definitions.specs.declared.Coords.{Coords}
use Rattle.surface_definitions.specs.declared.VectorFault.{VectorFault}
use Rattle.surface_definitions.specs.declared.VectorFault.TheVariants as faults
use Rattle.surface_definitions.specs.TableSurfaces.{table_enumeration}
use Rattle.surface_definitions.proofs.VerdictLaws.{accepted_by}
use Rattle.surface_vector_definitions.specs.Answers.{IsFit}
use Rattle.sum_definitions.specs.Sums.{Term}
use Rattle.sum_definitions.specs.Adding.{AddsUp, add_fault}
use Rattle.sum_definitions.specs.declared.LargeTurn.{LargeTurn}
use Rattle.sum_definitions.specs.declared.AddFault.TheVariants.{ZeroTimes, Large, NotEqual}
use Rattle.sum_laws.proofs.Added.{no_fault_adds_up}
use Rattle.sum_laws.proofs.Runs.{sum_is_right}
use Rattle.sum_laws.proofs.Surfaces.{surfaces_are_rays_lem}
use Rattle.text_document_definitions.specs.Documents.{vectors_document}
use Rattle.text_document_definitions.specs.Blocks.{Block, blocks_document}
use Rattle.command_definitions.specs.declared.Request.TheVariants.{Decompose, Addup}
use Rattle.outcome_definitions.specs.declared.SumRefusal.{SumRefusal}
use Rattle.outcome_definitions.specs.declared.SumRefusal.TheVariants.{Unfit, UnfitTerm, LargeTimes, NoSum}
use Rattle.outcome_definitions.specs.declared.Status.TheVariants as statuses
use Rattle.outcome_definitions.specs.Outcomes.{Outcome}
use Rattle.outcome_definitions.specs.Sums.{AreAnswered, unfit_status, sum_refusal_status, IsVerdict, IsSummed, IsDecomposed, IsDecomposeAnswer, AreFit, IsAddedUp, accepted_outcome, addup_outcome, sums_outcome, IsAddupAnswer}
use Rattle.outcome_laws.proofs.Summed.{verdicts_fit, one_addup}
use Rattle.outcome_laws.proofs.Certified.{table_with_lines}
use Rattle.surface_equation_laws.specs.Bounds.{number_bound}
use Rattle.surface_equation_laws.proofs.Bounds.{not_past}
use Rattle.surface_equation_laws.proofs.BoundedTables.{own}
use Rattle.surface_equation_laws.proofs.Powers.{most as few_within}
use Rattle.outcome_answer_laws.specs.Sums.{IsSumOfSurfaces, AreSumsOfVertexSurfaces, AreDecomposed, IsDecomposition, IsTrueSum, IsAddition, VectorsAreDecomposed, TrueSumsAreAccepted}
use Rattle.outcome_answer_laws.proofs.Asked.{means_by, status_of}

module _ (coords : Coords) (rows : List Row) (equations : List EquationRow) where
  abbrev width : ℕ
  width = columns coords (length rows)

  -- ---- sums of vertex surfaces

  module _ (most : ℕ) (surfaces : List (List ℕ)) (are_all : IsSurfaceList width equations (clash_list coords (length rows)) surfaces) where
    sum_of : (x : List ℕ) (block : Block) → IsFit coords rows equations x → IsSummed most surfaces x (Ok block) → IsSumOfSurfaces surfaces most x block
    sum_of x block fit s =
        let a = accepted_by limit width equations (clash_list coords (length rows)) x fit in
        let rays = surfaces_are_rays_lem width equations (clash_list coords (length rows)) surfaces x are_all a.solves a.admissible in
        record { vector = s.0; sum = sum_is_right width equations surfaces x rays most block.times block.terms s.1 }

    sums_of : (vectors : List (List ℕ)) (blocks : List Block) → AllByRecursion (IsFit coords rows equations) vectors
        → AllZip (λ x block. IsSummed most surfaces x (Ok block)) vectors blocks → AllZip (IsSumOfSurfaces surfaces most) vectors blocks
    sums_of [] [] fit s = tt
    sums_of [] (b ∷ blocks) fit s = s
    sums_of (x ∷ vectors) [] fit s = s
    sums_of (x ∷ vectors) (b ∷ blocks) fit s = (sum_of x b fit.0 s.0, sums_of vectors blocks fit.1 s.1)

    told_sums : (vectors : List (List ℕ)) (o : Outcome) (reported : Result (List Block) (ℕ × LargeTurn)) → AllByRecursion (IsFit coords rows equations) vectors
        → AreAnswered (IsSummed most surfaces) vectors reported → o ≡ sums_outcome rows reported → AreSumsOfVertexSurfaces coords most rows equations vectors o
    told_sums vectors o (Ok blocks) fit s e =
        record { surfaces = surfaces; are_all = are_all; reported = inl (record { blocks = blocks; sums = sums_of vectors blocks fit s; outcome = e }) }
    told_sums vectors o (Err large) fit s e =
        record { surfaces = surfaces; are_all = are_all; reported = inr (record { vector = large.0; large = large.1; first = s; outcome = e }) }

  decomposed : (most : ℕ) (vectors : List (List ℕ)) (o : Outcome) (checked : Result (List (Unit {0})) (ℕ × VectorFault)) → AreAnswered (IsVerdict coords rows equations) vectors checked
      → IsDecomposed most (table_enumeration coords Given most rows equations) rows vectors checked o → AreDecomposed coords most rows equations vectors o
  decomposed most vectors o (Ok passed) v (inl h) =
      let fit = verdicts_fit coords rows equations vectors passed v in
      inl (All-from_recursion (IsFit coords rows equations) vectors fit, inl (told_sums most h.list h.listed.surfaces vectors o h.reported fit h.sums h.outcome))
  decomposed most vectors o (Ok passed) v (inr h) = inl (All-from_recursion (IsFit coords rows equations) vectors (verdicts_fit coords rows equations vectors passed v), inr h)
  decomposed most vectors o (Err unfit) v h = inr (record { vector = unfit.0; fault = unfit.1; first = v; outcome = h })

  -- ---- true sums

  widths : (block : Block) → AreFit coords rows equations block → All (λ (term : Term). length term.vector ≡ length block.vector) block.terms
  widths block f = λ k d l.
      let own = accepted_by limit width equations (clash_list coords (length rows)) block.vector f.vector in
      let term = accepted_by limit width equations (clash_list coords (length rows)) (slice_index_or block.terms k d).vector (f.terms k d l) in
      term.solves.width ∙ sym own.solves.width

  faultless : (block : Block) → AreFit coords rows equations block → (add_fault limit block.vector block.times block.terms ≡ None) ↔ AddsUp limit block.vector block.times block.terms
  faultless block f = no_fault_adds_up limit block.vector block.times block.terms (widths block f)

  sums_true : (blocks : List Block) (accepted : List (Unit {0})) → AllZip (λ block answer. IsAddedUp coords rows equations block (Ok answer)) blocks accepted
      → AllByRecursion (IsTrueSum coords rows equations) blocks
  sums_true [] accepted h = tt
  sums_true (b ∷ blocks) [] h = absurd h
  sums_true (b ∷ blocks) (u ∷ accepted) h = (record { fit = (h.0).0; adds_up = (faultless b (h.0).0).0 (h.0).1 }, sums_true blocks accepted h.1)

  all_accepted : (blocks : List Block) → AllByRecursion (IsTrueSum coords rows equations) blocks
      → AllZip (λ block answer. IsAddedUp coords rows equations block (Ok answer)) blocks (map (λ (b : Block). tt) blocks)
  all_accepted [] h = tt
  all_accepted (b ∷ blocks) h = ((h.0.fit, (faultless b h.0.fit).1 h.0.adds_up), all_accepted blocks h.1)

decomposition : (coords : Coords) (most : ℕ) (bytes : List ℕ) (d : List Row × List (List ℕ)) (o : Outcome) → vectors_document bytes ≡ Ok d → IsDecomposeAnswer coords most d o → IsDecomposition coords most d o
decomposition coords most bytes d o read a = record {
  equations = a.equations;
  of_table = a.of_table;
  decomposed = decomposed coords d.0 a.equations most d.1 o a.checked a.verdicts a.reported;
  never_exceeded = λ limited default exceeded.
      let bound : number_bound coords (length d.0) ≤ limit = (few_within coords (length d.0)).1 limited in
      let room : number_bound coords (length d.0) ≤ most = omega arith in
      let own_order = own coords Given most d.0 a.equations (table_with_lines vector_at bytes d read) a.of_table in
      not_past coords d.0 (table_enumeration coords Given most d.0 a.equations) own_order room exceeded.0 exceeded.1 exceeded.2;
}

pub vectors_decomposed : VectorsAreDecomposed
vectors_decomposed coords most = means_by (Decompose coords most) vectors_document (IsDecomposeAnswer coords most) (IsDecomposition coords most) (λ bytes o a. a) (decomposition coords most)

-- the status of an unfit vector is not that of success
unfit_apart : {P : Type 0} (fault : VectorFault) → unfit_status fault ≡ statuses.Done → P
unfit_apart (faults.Length n) e = absurd cc
unfit_apart (faults.Large i) e = absurd cc
unfit_apart (faults.NotSolution i) e = absurd cc
unfit_apart (faults.Clash a b) e = absurd cc

refusal_apart : {P : Type 0} (refusal : SumRefusal) → sum_refusal_status refusal ≡ statuses.Done → P
refusal_apart (Unfit fault) e = unfit_apart fault e
refusal_apart (UnfitTerm i fault) e = unfit_apart fault e
refusal_apart (LargeTimes turn column) e = absurd cc
refusal_apart (NoSum ZeroTimes) e = absurd cc
refusal_apart (NoSum (Large column)) e = absurd cc
refusal_apart (NoSum (NotEqual column)) e = absurd cc

module _ (coords : Coords) (d : List Row × List Block) (o : Outcome) (a : IsAddupAnswer coords d o) where
  true_where_done : (reported : Result (List (Unit {0})) (ℕ × SumRefusal)) → AreAnswered (IsAddedUp coords d.0 a.equations) d.1 reported → (addup_outcome reported).status ≡ statuses.Done
      → All (IsTrueSum coords d.0 a.equations) d.1
  true_where_done (Ok accepted) h e = All-from_recursion (IsTrueSum coords d.0 a.equations) d.1 (sums_true coords d.0 a.equations d.1 accepted h)
  true_where_done (Err refusal) h e = refusal_apart refusal.1 e

  accepted_where_true : All (IsTrueSum coords d.0 a.equations) d.1 → o ≡ accepted_outcome
  accepted_where_true all = one_addup coords d o accepted_outcome a (record {
    equations = a.equations;
    of_table = a.of_table;
    reported = Ok (map (λ (b : Block). tt) d.1);
    added = all_accepted coords d.0 a.equations d.1 (recursion_from_All (IsTrueSum coords d.0 a.equations) d.1 all);
    outcome = refl;
  })

  true_by : o.status ≡ statuses.Done → All (IsTrueSum coords d.0 a.equations) d.1
  true_by e = true_where_done a.reported a.added (sym (status_of o (addup_outcome a.reported) a.outcome) ∙ e)

  addition : IsAddition coords d o
  addition = record {
    equations = a.equations;
    of_table = a.of_table;
    accepted = ((λ e. true_by (status_of o accepted_outcome e)), accepted_where_true);
    is_done = (true_by, (λ all. status_of o accepted_outcome (accepted_where_true all)));
  }

pub true_sums_accepted : TrueSumsAreAccepted
true_sums_accepted coords = means_by (Addup coords) blocks_document (IsAddupAnswer coords) (IsAddition coords) (λ bytes o a. a) (λ bytes d o read a. addition coords d o a)
