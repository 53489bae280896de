-- Each step extends the making, and the making ends.
use Rattle.std.proofs.Common.{◌<◌, ◌≤◌, length, arith}
use Rattle.tri_build.proofs.SoFar.{step_made, none_left, all_made}
use Rattle.tri_build.proofs.making.play.Goals as goal

pub loop-alloc-preserved : goal.loop-alloc-preserved
loop-alloc-preserved c =
    let drawn = rw c.in-Some.is at c.in_ok-step.ensures.drawn in
    let is = rw c.in-Some.is at c.in_ok-step.ensures.is_step in
    let less : length c.loop-alloc.steps.items < c.args.most = (let ok = c.loop-alloc.steps.ok in let reported = c.len.ensures in let test = c.loop-alloc-test.true in omega arith) in
    step_made c.args.seed c.args.table.now c.args.most c.loop-alloc.steps.items c.push.new.self.items c.loop-alloc.state c.next_state-state.result c.loop-alloc.table c.draw_step.new.table c.in-Some.step c.loop-alloc.invariant c.next_state-state.ensures drawn is
    c.in_ok-push-in-Some.ensures.items less

pub returns-in-None-clause-making : goal.returns-in-None-clause-making
returns-in-None-clause-making c =
    let none = rw c.in-None.is at c.in_ok-step.ensures.none in
    let left = rw c.in-None.is at c.in_ok-step.ensures.left in
    none_left c.args.seed c.args.table.now c.args.most c.loop-alloc.steps.items c.loop-alloc.state c.loop-alloc.table c.draw_step.new.table c.loop-alloc.invariant none left

pub returns-clause-making : goal.returns-clause-making
returns-clause-making c =
    let enough : c.args.most ≤ length c.loop-alloc.steps.items = (let ok = c.loop-alloc.steps.ok in let reported = c.len.ensures in let test = c.loop-alloc-test.false in omega arith) in
    all_made c.args.seed c.args.table.now c.args.most c.loop-alloc.steps.items c.loop-alloc.state c.loop-alloc.table c.loop-alloc.invariant enough
