-- Each term up to the first that is refused passes.
use Rattle.std.proofs.Common.{Ok, Err, sym, subst}
use Rattle.outcome_definitions.specs.Sums.{IsVerdict, IsTermVerdict}
use Rattle.ray_decompose.specs.Sums.{term_of}
use Rattle.sum_commands.proofs.Walks.{first_stopped, one_more, all_seen}
use Rattle.sum_commands.proofs.checks.check_terms.Goals as goal

pub returns-in-Err : goal.returns-in-Err
returns-in-Err c =
    first_stopped term_of (IsTermVerdict c.args.equations.coords c.args.equations.table.now c.args.equations.system.now.rows) c.args.terms.now c.loop-number.number c.index-terms-number.result c.in-Err.fault
    c.loop-number-test.true c.index-terms-number.is c.loop-number.invariant
    (subst (λ ys. IsVerdict c.args.equations.coords c.args.equations.table.now c.args.equations.system.now.rows ys (Err c.in-Err.fault)) c.deref.ensures.value (sym c.in-Err.ensures.verdict))

pub loop-number-preserved : goal.loop-number-preserved
loop-number-preserved c =
    one_more term_of (λ term. IsTermVerdict c.args.equations.coords c.args.equations.table.now c.args.equations.system.now.rows term (Ok tt)) c.args.terms.now c.loop-number.number c.index-terms-number.result
    c.loop-number-test.true c.index-terms-number.is c.loop-number.invariant
    (subst (λ ys. IsVerdict c.args.equations.coords c.args.equations.table.now c.args.equations.system.now.rows ys (Ok tt)) c.deref.ensures.value (sym c.in-Ok.ensures.verdict))

pub returns : goal.returns
returns c =
    all_seen term_of (λ term. IsTermVerdict c.args.equations.coords c.args.equations.table.now c.args.equations.system.now.rows term (Ok tt)) c.args.terms.now c.loop-number.number c.loop-number-test.false c.loop-number.invariant
