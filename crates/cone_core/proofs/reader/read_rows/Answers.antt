-- One line more is one row more; the first fault is that of the lines.
use Rattle.std.proofs.Common.{sym, ◌∙◌, subst, length-append, arith}
use Rattle.std.proofs.lemmas.Result.{err_from_is_err_and}
use Rattle.cone_core.specs.ConeReads.{FailsHere}
use Rattle.cone_core.proofs.ConeLemmas.{with_rows-end, with_rows-fails, with_rows-more}
use Rattle.cone_core.proofs.reader.read_rows.Goals as goal

pub returns-in_err-row-clause-gives : goal.returns-in_err-row-clause-gives
returns-in_err-row-clause-gives c =
    let p = err_from_is_err_and c.from_residual.result c.from_residual.ensures.1 in
    rw (p.1, p.2) (subst (FailsHere c.in_err-row.field-0.0) c.loop-number.invariant.reads
    (with_rows-fails c.loop-number.system.rows c.loop-number._number c.args.count c.args.columns c.loop-number.lexer c.in_err-row.field-0.0 c.loop-number-test.true c.in_err-row.ensures.gives))

pub loop-number-preserved : goal.loop-number-preserved
loop-number-preserved c =
    let pushed = c.in_ok-push_row.ensures.ok in
    rw pushed (record {
      reads = with_rows-more c.loop-number.system.rows c.loop-number._number c.args.count c.args.columns c.loop-number.lexer _ c.loop-number-test.true c.in_ok-row.ensures.gives ∙ c.loop-number.invariant.reads;
      columns_are = c.loop-number.invariant.columns_are;
      count_is = simp length-append (omega (arith, c.loop-number.invariant.count_is));
    })

pub returns-clause-gives : goal.returns-clause-gives
returns-clause-gives c = sym c.loop-number.invariant.reads ∙ with_rows-end c.loop-number.system.rows c.loop-number._number c.args.count c.args.columns c.loop-number.lexer c.loop-number-test.false
