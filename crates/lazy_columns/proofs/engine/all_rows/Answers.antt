use Rattle.std.proofs.Common.{take, take_all, subst, sym, ◌∙◌, arith, []}
use Rattle.std.proofs.lemmas.List.{length-take-le}
use Rattle.std.proofs.lemmas.Result.{err_from_is_err_and}
use Rattle.lazy_columns.specs.Late.{AreLate, HaveEntered}
use Rattle.lazy_columns.proofs.LateSteps.{pairs_apart, late_taken, all_seen}
use Rattle.lazy_columns.specs.Passing.{PassesNext, HasPassedStep}
use Rattle.lazy_columns.proofs.Passed.{fault_weaker, passed_next}
use Rattle.lazy_columns.proofs.engine.all_rows.Goals as goal

pub loop-number-init : goal.loop-number-init
loop-number-init g c = subst (λ n. AreLate n [] c.args.clashes.now.pairs c.in_ok-late.late) c.columns.ensures (c.in_ok-late.ensures c.args.clashes.now.pairs)

pub loop-number-preserved : goal.loop-number-preserved
loop-number-preserved g c =
    let rows = c.args.system.now.rows in
    let number = c.loop-number.number in
    late_taken c.args.clashes.now.columns rows c.args.clashes.now.pairs number c.row.result.now c.in_ok-late-2.late (omega (arith, c.len-number-end.ensures, c.loop-number-test.true)) c.row.ensures.row
    (c.in_ok-late-2.ensures.ok (take number rows) c.loop-number.invariant)

pub returns-clause-ok : goal.returns-clause-ok
returns-clause-ok g c =
    let rows = c.args.system.now.rows in
    let pairs = c.args.clashes.now.pairs in
    let columns = c.args.clashes.now.columns in
    let entered = subst (λ n. HaveEntered n c.loop-number.late c.enter_all.new.late) (sym c.loop-number.late.width ∙ c.loop-number.invariant.count) c.in_ok-enter_all.ensures.entered in
    all_seen columns rows pairs c.enter_all.new.late c.in_ok-enter_all.ensures.seen
    (entered.late rows pairs (pairs_apart columns pairs c.pairs-pairs.ensures.different)
    (subst (λ taken. AreLate columns taken pairs c.loop-number.late) (take_all c.loop-number.number rows (omega (arith, c.len-number-end.ensures, c.loop-number-test.false))) c.loop-number.invariant))

pub next_late-requires : goal.next_late-requires
next_late-requires g c = record {
  late = record {
    separate = pairs_apart c.args.clashes.now.columns c.args.clashes.now.pairs c.pairs-pairs.ensures.different;
    rows = take c.loop-number.number c.args.system.now.rows;
    limited = (let rows = c.args.system.now.rows in let n = length-take-le c.loop-number.number rows (omega (arith, c.len-number-end.ensures, c.loop-number-test.true)) in omega (arith, n, c.from-most.ensures));
    so_far = c.loop-number.invariant;
  };
}

pub returns-in_err-late-2-clause-err : goal.returns-in_err-late-2-clause-err
returns-in_err-late-2-clause-err g c =
    let clashes = c.args.clashes.now in
    let rows = c.args.system.now.rows in
    let number = c.loop-number.number in
    let row = c.row.result.now in
    let p = err_from_is_err_and c.from_residual-in_err-late-2.result c.from_residual-in_err-late-2.ensures.1 in
    rw (p.1, p.2) (fault_weaker (PassesNext clashes row c.loop-number.late) (λ _. HasPassedStep clashes rows)
    (λ named h. passed_next clashes rows number row (omega (arith, c.len-number-end.ensures, c.loop-number-test.true)) c.row.ensures.row named (h (take number rows) c.loop-number.invariant)) _
    c.in_err-late-2.ensures.err)
