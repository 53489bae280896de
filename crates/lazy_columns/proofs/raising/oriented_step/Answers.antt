use Rattle.std.proofs.Common.{subst, sym}
use Rattle.cone_arithmetic.specs.declared.numbers.TheConstants.{MAX_ENTRY}
use Rattle.ray_steps.specs.Rays.{rays_of}
use Rattle.ray_steps.specs.Steps.{IsStepOf}
use Rattle.lazy_columns.specs.Fresh.{oriented}
use Rattle.lazy_columns.proofs.Oriented.{turned_step_of}
use Rattle.lazy_columns.proofs.raising.oriented_step.Goals as goal

pub returns-then-not-is_negated-clause-ok : goal.returns-then-not-is_negated-clause-ok
returns-then-not-is_negated-clause-ok g c =
    subst (λ turn. IsStepOf MAX_ENTRY c.args.input.clashes.now (oriented turn c.args.input.row.now) (rays_of c.args.input.ray_list.items) c.in_ok-step.step) (sym c.if-not-is_negated.true) c.in_ok-step.ensures.ok

pub returns-clause-ok : goal.returns-clause-ok
returns-clause-ok g c =
    subst (λ turn. IsStepOf MAX_ENTRY c.args.input.clashes.now (oriented turn c.args.input.row.now) (rays_of c.args.input.ray_list.items) c.in_ok-negated.negated) (sym c.if-not-is_negated.false)
    (turned_step_of MAX_ENTRY c.args.input.clashes.now c.args.input.row.now (rays_of c.args.input.ray_list.items) c.in_ok-step.step c.in_ok-negated.negated c.in_ok-step.ensures.ok c.in_ok-negated.ensures.step)
