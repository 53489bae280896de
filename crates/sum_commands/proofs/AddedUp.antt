-- From the checks of blocks to the answer of `addup`.
use Rattle.std.proofs.Common.{◌≡◌, ℕ, List, [], ◌∷◌, length, Ok, Err, suc, sym, ◌∙◌, arith}
use Rattle.std.specs.List.{All}
use Rattle.std.proofs.lemmas.List.Elements.{All-cons}
use Rattle.text_definitions.specs.Written.{limit}
use Rattle.cone_definitions.specs.Rows.{Row as EquationRow}
use Rattle.table_definitions.specs.Table.{Row}
use Rattle.surface_definitions.specs.declared.Coords.{Coords}
use Rattle.surface_definitions.specs.Coordinates.{columns, clash_list}
use Rattle.surface_definitions.specs.QuadEquations.{AreEquations}
use Rattle.surface_definitions.proofs.VerdictLaws.{accepted_by}
use Rattle.ray_decompose.specs.declared.adding.Given.{Given}
use Rattle.ray_decompose.specs.Sums.{term_of, terms_of, HasWidth}
use Rattle.text_document_definitions.specs.Blocks.{Block}
use Rattle.outcome_definitions.specs.declared.SumRefusal.{SumRefusal}
use Rattle.outcome_definitions.specs.Outcomes.{Outcome}
use Rattle.outcome_definitions.specs.Sums.{IsFirstRefused, IsTermVerdict, IsAddedUp, IsAddupAnswer, accepted_outcome, sum_refusal_outcome}
use Rattle.sum_commands.proofs.Walks.{all_told}

module _ (coords : Coords) (rows : List Row) (equations : List EquationRow) where
  -- terms that pass the check have the width of the table
  pub term_widths : (givens : List Given) (width : ℕ) → width ≡ columns coords (length rows) → All (λ term. IsTermVerdict coords rows equations term (Ok tt)) (terms_of givens) → All (HasWidth width) givens
  term_widths [] width e h = λ k d l. absurd (omega arith)
  term_widths (g ∷ givens) width e h =
      let a = accepted_by limit (columns coords (length rows)) equations (clash_list coords (length rows)) g.entries.items (h 0 (term_of g) (omega arith)) in
      All-cons (HasWidth width) g givens (a.solves.width ∙ sym e) (term_widths givens width e (λ k d l. h (suc k) d (omega arith)))

  module _ (of_table : AreEquations coords rows equations) (blocks : List Block) (o : Outcome) where
    pub all_accepted : All (λ block. IsAddedUp coords rows equations block (Ok tt)) blocks → o ≡ accepted_outcome → IsAddupAnswer coords (rows, blocks) o
    all_accepted h e =
        let reported = all_told (IsAddedUp coords rows equations) blocks h in
        record { equations = equations; of_table = of_table; reported = Ok reported.0; added = reported.1; outcome = e }

    pub one_refused : (v : ℕ) (refusal : SumRefusal) → IsFirstRefused (IsAddedUp coords rows equations) blocks v refusal → o ≡ sum_refusal_outcome v refusal → IsAddupAnswer coords (rows, blocks) o
    one_refused v refusal first e = record { equations = equations; of_table = of_table; reported = Err (v, refusal); added = first; outcome = e }
