use Rattle.std.proofs.Common.{◌≤◌, ◌<◌, ◌+◌, length, arith, subst, sym}
use Rattle.std.proofs.lemmas.List.Kept.{AllPairs-from_increasing}
use Rattle.table_definitions.specs.Replaceable.{numbers_of}
use Rattle.gluing_table.proofs.Opened.{IsOpened, opened_none, opened_fits, opened_more, opened_same, opened_all, number_at, length-numbers_of}
use Rattle.gluing_table.proofs.replacing.opened_row.Goals as goal
use Rattle.gluing_table.proofs.replacing.opened_row.Goals.{then-taken-number, else-taken-number}

pub overflow_add-number : goal.overflow_add-number
overflow_add-number c =
    let within : c.loop-taken.taken-index ≤ length (numbers_of c.args.gone.now) = omega (arith, length-numbers_of c.args.gone.now) in
    omega (arith, opened_fits (numbers_of c.args.gone.now) c.loop-taken.taken-index c.args.place c.loop-taken.number within c.loop-taken.invariant)

pub loop-taken-init : goal.loop-taken-init
loop-taken-init c = opened_none (numbers_of c.args.gone.now) c.args.place

pub loop-taken-preserved : goal.loop-taken-preserved
loop-taken-preserved c =
    let within : c.loop-taken.taken-index < length (numbers_of c.args.gone.now) = omega (arith, length-numbers_of c.args.gone.now) in
    elim c.if-taken-number.branch [
      | then-taken-number w ↦ subst (λ n. IsOpened (numbers_of c.args.gone.now) (c.loop-taken.taken-index + 1) c.args.place n) (sym w.number-is)
          (opened_more (numbers_of c.args.gone.now) c.loop-taken.taken-index c.args.place c.loop-taken.number c.taken-item.result.0 (AllPairs-from_increasing (numbers_of c.args.gone.now) c.requires.ascend) within (number_at c.args.gone.now c.loop-taken.taken-index c.taken-item.result (omega arith) c.taken-item.is) c.loop-taken.invariant w.if-taken-number.true)
      | else-taken-number w ↦ subst (λ n. IsOpened (numbers_of c.args.gone.now) (c.loop-taken.taken-index + 1) c.args.place n) (sym w.number-is)
          (opened_same (numbers_of c.args.gone.now) c.loop-taken.taken-index c.args.place c.loop-taken.number c.taken-item.result.0 within (number_at c.args.gone.now c.loop-taken.taken-index c.taken-item.result (omega arith) c.taken-item.is) c.loop-taken.invariant w.if-taken-number.false)
    ]

pub returns-clause-free : goal.returns-clause-free
returns-clause-free c = (opened_all (numbers_of c.args.gone.now) c.loop-taken.taken-index c.args.place c.loop-taken.number (omega (arith, length-numbers_of c.args.gone.now)) c.loop-taken.invariant).0

pub returns-clause-value : goal.returns-clause-value
returns-clause-value c = (opened_all (numbers_of c.args.gone.now) c.loop-taken.taken-index c.args.place c.loop-taken.number (omega (arith, length-numbers_of c.args.gone.now)) c.loop-taken.invariant).1
