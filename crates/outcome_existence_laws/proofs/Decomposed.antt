-- Each table with vectors has an answer to `decompose`.
use Rattle.std.proofs.Common.{ℕ, List, length, inl, inr, Result, Ok, Err, refl}
use Rattle.cone_definitions.specs.Rows.{Row as EquationRow}
use Rattle.cone_definitions.specs.Surfaces.{IsSurfaceList}
use Rattle.cone_definitions.specs.Listings.{Enumeration}
use Rattle.cone_definitions.specs.declared.Order.TheVariants.{Given}
use Rattle.table_definitions.specs.Table.{Row, IsTable}
use Rattle.surface_definitions.specs.Coordinates.{columns, clash_list}
use Rattle.surface_definitions.specs.declared.Coords.{Coords}
use Rattle.surface_definitions.specs.declared.VectorFault.{VectorFault}
use Rattle.surface_definitions.specs.TableSurfaces.{table_enumeration}
use Rattle.surface_vector_definitions.specs.Answers.{IsFit}
use Rattle.sum_definitions.specs.declared.LargeTurn.{LargeTurn}
use Rattle.surface_laws.proofs.FitSurfaces.{fit_accepted}
use Rattle.sum_laws.specs.Laws.{Answer, sum, large, IsAnswer}
use Rattle.sum_laws.proofs.Runs.{some_answer}
use Rattle.sum_laws.proofs.Surfaces.{surfaces_are_rays_lem}
use Rattle.text_document_definitions.specs.Blocks.{Block}
use Rattle.cone_laws.proofs.Ended.{enumeration_ends}
use Rattle.skeleton_laws.proofs.Equated.{some_equations}
use Rattle.outcome_definitions.specs.declared.SumRefusal.TheVariants.{Unfit}
use Rattle.outcome_definitions.specs.Outcomes.{Outcome}
use Rattle.outcome_definitions.specs.Enumerations.{large_outcome}
use Rattle.outcome_definitions.specs.Sums.{AreAnswered, IsVerdict, IsSummed, sums_outcome, sum_refusal_outcome, IsDecomposed, IsDecomposeAnswer}
use Rattle.outcome_existence_laws.proofs.AnsweredLists.{told_of}
use Rattle.surface_definitions.proofs.ClashPairs.{clashes_apart}
use Rattle.outcome_laws.proofs.Summed.{verdicts_fit}
use Rattle.outcome_existence_laws.proofs.AddedUp.{verdicts_told}

module _ (coords : Coords) (most : ℕ) (rows : List Row) (equations : List EquationRow) where
  abbrev enumeration : Enumeration
  enumeration = table_enumeration coords Given most rows equations

  by_answer : (list : List (List ℕ)) (x : List ℕ) (a : Answer) → IsAnswer most list x a → (r : Result Block LargeTurn) × IsSummed most list x r
  by_answer list x (sum times terms) h = (Ok (record { vector = x; times = times; terms = terms }), (refl, h))
  by_answer list x (large turn column) h = (Err (record { turn = turn; column = column }), h)

  -- an admissible solution within the limit is a sum of the listed surfaces, or the sum exceeds the limit
  summed : (list : List (List ℕ)) → IsSurfaceList (columns coords (length rows)) equations (clash_list coords (length rows)) list → (x : List ℕ) → IsFit coords rows equations x
      → (r : Result Block LargeTurn) × IsSummed most list x r
  summed list h x fit =
      let a = fit_accepted coords rows equations x fit in
      let rays = surfaces_are_rays_lem (columns coords (length rows)) equations (clash_list coords (length rows)) list x h a.solves a.admissible in
      let s = some_answer (columns coords (length rows)) equations list x rays most in
      by_answer list x s.0 s.1

  decomposed : (vectors : List (List ℕ)) (checked : Result (List (Unit {0})) (ℕ × VectorFault)) → AreAnswered (IsVerdict coords rows equations) vectors checked
      → (o : Outcome) × IsDecomposed most enumeration rows vectors checked o
  decomposed vectors (Err unfit) h = (sum_refusal_outcome unfit.0 (Unfit unfit.1), refl)
  decomposed vectors (Ok passed) h = elim (enumeration_ends enumeration (clashes_apart coords (length rows))) [
    | inr exceeded ↦ (large_outcome exceeded.0 exceeded.1, inr (exceeded.0, exceeded.1, exceeded.2, refl))
    | inl l ↦
        let t = told_of (IsSummed most l.1) (IsFit coords rows equations) vectors (summed l.1 l.2.surfaces) (verdicts_fit coords rows equations vectors passed h) in
        (sums_outcome rows t.0, inl (record { taken = l.0; list = l.1; listed = l.2; reported = t.0; sums = t.1; outcome = refl }))
  ]

pub some_decompose : (coords : Coords) (most : ℕ) (d : List Row × List (List ℕ)) → IsTable d.0 → (o : Outcome) × IsDecomposeAnswer coords most d o
some_decompose coords most d table =
    let q = some_equations coords d.0 table in
    let c = verdicts_told coords d.0 q.0 d.1 in
    let t = decomposed coords most d.0 q.0 d.1 c.0 c.1 in
    (t.0, record { equations = q.0; of_table = q.1; checked = c.0; verdicts = c.1; reported = t.1 })
