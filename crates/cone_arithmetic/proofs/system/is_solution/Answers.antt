use Rattle.std.proofs.Common.{ℕ, List, [], get_or, refl, subst, ⊎_elim, arith}
use Rattle.std.proofs.lemmas.Bool.{false≢true}
use Rattle.std.proofs.lemmas.List.{get_or_default}
use Rattle.cone_definitions.specs.Rows.{Row}
use Rattle.cone_definitions.specs.Elimination.{HasLargePart}
use Rattle.cone_definitions.specs.HoldingRows.{HoldsWithin}
use Rattle.cone_arithmetic.specs.declared.numbers.TheConstants.{MAX_ENTRY}
use Rattle.cone_arithmetic.proofs.system.is_solution.Goals as goal

not_met : (limit : ℕ) (x : List ℕ) (row : Row) → HoldsWithin limit x row → ¬ HasLargePart limit row x
not_met limit x row met large = ⊎_elim (λ h. omega (arith, met.within.0)) (λ h. omega (arith, met.within.1)) large

pub returns-in-Err-clause-ok : goal.returns-in-Err-clause-ok
returns-in-Err-clause-ok c = (
  λ h. absurd (false≢true h),
  λ met. absurd (not_met MAX_ENTRY c.args.x.now (get_or c.args.system.now.rows c.loop-row.row []) (met c.loop-row.row [] (omega arith))
      (subst (λ row. HasLargePart MAX_ENTRY row c.args.x.now) c.row.ensures.row (c.in-Err.ensures.passed.0 refl))),
)

pub returns-clause-ok : goal.returns-clause-ok
returns-clause-ok c =
    (λ _ k d h. subst (HoldsWithin MAX_ENTRY c.args.x.now) (get_or_default c.args.system.now.rows k [] d h) (c.loop-row.invariant k (omega arith)), λ _. refl)
