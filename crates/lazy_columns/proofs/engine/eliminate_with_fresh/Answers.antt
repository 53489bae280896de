use Rattle.std.proofs.Common.{◌++◌, refl, subst}
use Rattle.cone_arithmetic.specs.declared.numbers.TheConstants.{MAX_ENTRY}
use Rattle.std.proofs.lemmas.Result.{err_from_is_err_and}
use Rattle.ray_steps.specs.Rays.{rays_of}
use Rattle.ray_steps.proofs.SingleLemmas.{single_pairs}
use Rattle.lazy_columns.specs.Late.{held_rows, HaveEntered}
use Rattle.lazy_columns.proofs.LateSteps.{few_unions, late_widths, have_room, late_extended}
use Rattle.lazy_columns.specs.Passing.{PassesAt, PassesNext}
use Rattle.lazy_columns.proofs.Passed.{fault_weaker}
use Rattle.lazy_columns.proofs.engine.eliminate_with_fresh.Goals as goal

pub raised_rays-requires-clause-rays : goal.raised_rays-requires-clause-rays
raised_rays-requires-clause-rays g c =
    let columns = c.args.step.clashes.now.columns in
    let pairs = c.args.step.clashes.now.pairs in
    let h = c.requires.late in
    let late = c.enter_others.new.late in
    let all = subst (λ n. HaveEntered n c.args.step.late late) c.args.step.width c.in_ok-enter_others.ensures.entered in
    let entered = all.late h.rows pairs h.separate h.so_far in
    record {
      widths = late_widths columns h.rows pairs late entered;
      small = few_unions columns c.args.step.most h.rows pairs late h.limited entered;
      singles = single_pairs columns (h.rows ++ held_rows 0 late.seen.items) pairs (rays_of late.ray_list.items) entered.surfaces;
    }

pub raised_rays-requires-clause-room : goal.raised_rays-requires-clause-room
raised_rays-requires-clause-room g c =
    let pairs = c.args.step.clashes.now.pairs in
    let h = c.requires.late in
    let all = subst (λ n. HaveEntered n c.args.step.late c.enter_others.new.late) c.args.step.width c.in_ok-enter_others.ensures.entered in
    have_room c.args.step.clashes.now.columns h.rows pairs c.enter_others.new.late c.args.fresh.column (all.late h.rows pairs h.separate h.so_far)
    c.in_ok-enter_others.ensures.unseen

pub returns-clause-ok : goal.returns-clause-ok
returns-clause-ok g c rows late =
    let pairs = c.args.step.clashes.now.pairs in
    let entered = c.in_ok-enter_others.ensures in
    let all = subst (λ n. HaveEntered n c.args.step.late c.enter_others.new.late) c.args.step.width entered.entered in
    late_extended MAX_ENTRY c.args.step.clashes.now.columns rows pairs c.args.step.row.now c.args.fresh c.enter_others.new.late _
    (record { in_range = c.requires.fresh.in_range; unseen = entered.unseen; lone = entered.lone; one = c.requires.fresh.one; free = c.requires.fresh.free })
    refl c.in_ok-next.ensures.ok (all.late rows pairs c.requires.late.separate late)

pub returns-in_err-next-clause-err : goal.returns-in_err-next-clause-err
returns-in_err-next-clause-err g c =
    let clashes = c.args.step.clashes.now in
    let row = c.args.step.row.now in
    let late = c.enter_others.new.late in
    let all = subst (λ n. HaveEntered n c.args.step.late late) c.args.step.width c.in_ok-enter_others.ensures.entered in
    let p = err_from_is_err_and c.from_residual-in_err-next.result c.from_residual-in_err-next.ensures.1 in
    rw (p.1, p.2) (fault_weaker (PassesAt clashes row (rays_of late.ray_list.items))
    (PassesNext clashes row c.args.step.late)
    (λ named h before are. record { late = late; are_late = all.late before clashes.pairs c.requires.late.separate are; passes = h }) _ c.in_err-next.ensures.err)
