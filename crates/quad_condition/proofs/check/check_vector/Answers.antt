use Rattle.std.proofs.Common.{Some, None, Err, refl, sym, ap, ◌∙◌}
use Rattle.cone_arithmetic.specs.declared.numbers.TheConstants.{MAX_ENTRY}
use Rattle.quad_condition.proofs.Verdicts.{length_answer, row_answer, clash_answer}
use Rattle.surface_definitions.proofs.FirstFaults.{accepts_by}
use Rattle.quad_condition.proofs.check.check_vector.Goals as goal

pub returns-then-x-columns-clause-verdict : goal.returns-then-x-columns-clause-verdict
returns-then-x-columns-clause-verdict c = length_answer MAX_ENTRY _ _ _ c.args.x.now (λ same. c.if-x-columns.true (same ∙ sym c.columns.ensures))

pub returns-in-Err-clause-verdict : goal.returns-in-Err-clause-verdict
returns-in-Err-clause-verdict c =
    ap Err c.fault_of.ensures ∙ row_answer MAX_ENTRY _ _ _ c.args.x.now c.in-Err.fault (c.if-x-columns.false ∙ c.columns.ensures) c.in-Err.ensures.err

pub returns-in-Err-clause-accepts : goal.returns-in-Err-clause-accepts
returns-in-Err-clause-accepts c = accepts_by MAX_ENTRY _ _ _ c.args.x.now _ (returns-in-Err-clause-verdict c)

pub returns-in-Some-clause-verdict : goal.returns-in-Some-clause-verdict
returns-in-Some-clause-verdict c =
    clash_answer MAX_ENTRY _ _ _ c.args.x.now (Some (c.in-Some.first, c.in-Some.second)) (c.if-x-columns.false ∙ c.columns.ensures) (c.in-Ok.ensures.ok.0 refl) c.in-Some.ensures

pub returns-in-Some-clause-accepts : goal.returns-in-Some-clause-accepts
returns-in-Some-clause-accepts c = accepts_by MAX_ENTRY _ _ _ c.args.x.now _ (returns-in-Some-clause-verdict c)

pub returns-in-None-clause-verdict : goal.returns-in-None-clause-verdict
returns-in-None-clause-verdict c =
    clash_answer MAX_ENTRY _ _ _ c.args.x.now None (c.if-x-columns.false ∙ c.columns.ensures) (c.in-Ok.ensures.ok.0 refl) c.in-None.ensures

pub returns-in-None-clause-accepts : goal.returns-in-None-clause-accepts
returns-in-None-clause-accepts c = accepts_by MAX_ENTRY _ _ _ c.args.x.now _ (returns-in-None-clause-verdict c)
