-- Each vector up to the first whose sum exceeds the limit has its block in the text.
use Rattle.std.proofs.Common.{ℕ, ◌≤◌, List, Err, sym, subst}
use Rattle.std.specs.Prelude.{slice_index}
use Rattle.out_of_memory.specs.declared.Failure.{Failure}
use Rattle.text_definitions.specs.Written.{limit}
use Rattle.sum_definitions.specs.declared.LargeTurn.{LargeTurn}
use Rattle.sum_definitions.specs.Sums.{HasRays}
use Rattle.sum_commands.specs.Telling.{AppendsBlock}
use Rattle.sum_commands.proofs.Walks.{seen_at}
use Rattle.sum_commands.proofs.SumAnswers.{entries, next_summed, large_told}
use Rattle.sum_commands.proofs.decompose_command.sums.Goals as goal

pub append_sum-requires-clause-rays : goal.append_sum-requires-clause-rays
append_sum-requires-clause-rays c =
    subst (λ (xs : List ℕ). HasRays c.args.system.now.columns c.args.system.now.rows c.args.list.now xs) (sym c.deref.ensures.value)
    (seen_at entries (HasRays c.args.system.now.columns c.args.system.now.rows c.args.list.now) c.args.vectors.now c.loop-vector.vector c.index-vectors-vector.result c.loop-vector-test.true c.index-vectors-vector.is c.requires.rays)

pub append_sum-requires-clause-entries : goal.append_sum-requires-clause-entries
append_sum-requires-clause-entries c =
    subst (λ (xs : List ℕ). (column : ℕ) → slice_index xs column ≤ limit) (sym c.deref.ensures.value)
    (seen_at entries (λ (xs : List ℕ). (column : ℕ) → slice_index xs column ≤ limit) c.args.vectors.now c.loop-vector.vector c.index-vectors-vector.result c.loop-vector-test.true c.index-vectors-vector.is c.requires.entries)

pub returns-in-Err-Fault : goal.returns-in-Err-Fault
returns-in-Err-Fault c =
    rw c.in-Err-Fault.field-0-is (large_told c.args.limit.number c.args.list.now c.args.table.now c.args.vectors.now c.loop-vector.vector c.index-vectors-vector.result c.deref.result.now c.loop-vector.text.items c.append_sum.new.out.items
    c.loop-vector-test.true c.index-vectors-vector.is c.deref.ensures.value c.loop-vector.invariant c.in-Err-Fault.fault
    (subst (λ (f : Failure LargeTurn). AppendsBlock c.args.limit.number c.args.list.now c.deref.result.now c.loop-vector.text.items c.append_sum.new.out.items (Err f)) c.in-Err-Fault.field-0-is c.in-Err-Fault.ensures))

pub loop-vector-preserved : goal.loop-vector-preserved
loop-vector-preserved c =
    next_summed c.args.limit.number c.args.list.now c.args.table.now c.args.vectors.now c.loop-vector.vector c.index-vectors-vector.result c.deref.result.now c.loop-vector.text.items c.append_sum.new.out.items
    c.loop-vector-test.true c.index-vectors-vector.is c.deref.ensures.value c.loop-vector.invariant c.in-Ok.field-0 c.in-Ok.ensures
