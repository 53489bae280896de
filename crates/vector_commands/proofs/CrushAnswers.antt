-- From the check of a vector and the crushed table to the answer.
use Rattle.std.proofs.Common.{◌≡◌, ℕ, List, Ok, Err}
use Rattle.cone_definitions.specs.Rows.{Row as EquationRow}
use Rattle.table_definitions.specs.Table.{Row}
use Rattle.surface_definitions.specs.declared.Coords.TheVariants.{Standard}
use Rattle.surface_definitions.specs.declared.VectorFault.{VectorFault}
use Rattle.surface_definitions.specs.Verdict.{solution}
use Rattle.surface_definitions.specs.QuadEquations.{AreEquations}
use Rattle.surface_vector_definitions.specs.Answers.{verdict_in}
use Rattle.surface_vector_definitions.specs.declared.Refusal.TheVariants.{Unfit}
use Rattle.outcome_definitions.specs.Outcomes.{Outcome}
use Rattle.outcome_definitions.specs.Vectors.{IsCrushAnswer, refusal_outcome}
use Rattle.vector_commands.specs.Crushed.{IsCrushOutcome}

module _ (rows : List Row) (equations : List EquationRow) (xs : List ℕ) (o : Outcome) (of_table : AreEquations Standard rows equations) where
  pub crushed_told : verdict_in Standard rows equations xs ≡ solution → IsCrushOutcome rows xs o → IsCrushAnswer (rows, xs) o
  crushed_told fit reported = record {
    equations = equations;
    of_table = of_table;
    reported = Ok reported.0;
    crushed = (fit, reported.1);
    outcome = reported.2;
  }

  pub unfit_told : (fault : VectorFault) → verdict_in Standard rows equations xs ≡ Err fault → o ≡ refusal_outcome 0 (Unfit fault) → IsCrushAnswer (rows, xs) o
  unfit_told fault unfit reported = record {
    equations = equations;
    of_table = of_table;
    reported = Err (Unfit fault);
    crushed = unfit;
    outcome = reported;
  }
