use Rattle.std.proofs.Common.{arith}
use Rattle.pachner_moves.proofs.CodeLaws.{one_number, few_numbers}
use Rattle.pachner_moves.proofs.moving.put_numbers.Goals as goal

pub overflow_add-first : goal.overflow_add-first
overflow_add-first c = omega (arith, c.retained_by_move-first.ensures.limited)

pub push-requires : goal.push-requires
push-requires c = omega (arith, few_numbers c.loop-label.numbers.items c.retained_by_move-first.result c.loop-label.label c.loop-label.invariant)

pub loop-label-preserved : goal.loop-label-preserved
loop-label-preserved c = one_number c.loop-label.numbers.items c.push.new.self.items c.retained_by_move-first.result c.loop-label.label c.loop-label.invariant c.push.ensures.items
