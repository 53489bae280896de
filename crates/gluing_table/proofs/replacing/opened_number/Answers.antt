use Rattle.std.proofs.Common.{◌≤◌, ◌<◌, ◌+◌, length, get_or, refl, arith, subst, sym}
use Rattle.std.proofs.lemmas.List.Kept.{AllPairs-from_increasing}
use Rattle.gluing_table.proofs.Opened.{IsOpened, opened_none, opened_fits, opened_more, opened_same, opened_all}
use Rattle.gluing_table.proofs.replacing.opened_number.Goals as goal
use Rattle.gluing_table.proofs.replacing.opened_number.Goals.{then-taken-number, else-taken-number}

pub overflow_add-number : goal.overflow_add-number
overflow_add-number c =
    let within : c.loop-taken.taken-index ≤ length c.args.gone.now = omega arith in
    omega (arith, opened_fits c.args.gone.now c.loop-taken.taken-index c.args.place c.loop-taken.number within c.loop-taken.invariant)

pub loop-taken-init : goal.loop-taken-init
loop-taken-init c = opened_none c.args.gone.now c.args.place

pub loop-taken-preserved : goal.loop-taken-preserved
loop-taken-preserved c =
    let within : c.loop-taken.taken-index < length c.args.gone.now = omega arith in
    elim c.if-taken-number.branch [
      | then-taken-number w ↦ subst (λ n. IsOpened c.args.gone.now (c.loop-taken.taken-index + 1) c.args.place n) (sym w.number-is)
          (opened_more c.args.gone.now c.loop-taken.taken-index c.args.place c.loop-taken.number (get_or c.args.gone.now c.loop-taken.taken-index 0) (AllPairs-from_increasing c.args.gone.now c.requires.ascend) within refl c.loop-taken.invariant w.if-taken-number.true)
      | else-taken-number w ↦ subst (λ n. IsOpened c.args.gone.now (c.loop-taken.taken-index + 1) c.args.place n) (sym w.number-is)
          (opened_same c.args.gone.now c.loop-taken.taken-index c.args.place c.loop-taken.number (get_or c.args.gone.now c.loop-taken.taken-index 0) within refl c.loop-taken.invariant w.if-taken-number.false)
    ]

pub returns-clause-free : goal.returns-clause-free
returns-clause-free c = (opened_all c.args.gone.now c.loop-taken.taken-index c.args.place c.loop-taken.number (omega arith) c.loop-taken.invariant).0

pub returns-clause-value : goal.returns-clause-value
returns-clause-value c = (opened_all c.args.gone.now c.loop-taken.taken-index c.args.place c.loop-taken.number (omega arith) c.loop-taken.invariant).1
