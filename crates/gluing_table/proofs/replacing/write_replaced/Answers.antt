use Rattle.std.proofs.Common.{arith, sym, subst, List}
use Rattle.table_definitions.specs.Table.{Row, IsTable}
use Rattle.table_definitions.specs.Replacing.{replaced_row}
use Rattle.gluing_table.proofs.RetainedCode.{written_more, length-written, written_all}
use Rattle.gluing_table.proofs.replacing.write_replaced.Goals as goal

pub push_reserved-requires : goal.push_reserved-requires
push_reserved-requires c =
    let limited = c.new_length-number-end.ensures.limited in
    let size = length-written (replaced_row c.args.swap.now.rows c.args.swap.now.by) c.loop-number.number c.loop-number.new.items c.loop-number.invariant.so_far in
    let room = c.loop-number.invariant.room in
    omega arith

pub loop-number-preserved : goal.loop-number-preserved
loop-number-preserved c = record {
  so_far = written_more (replaced_row c.args.swap.now.rows c.args.swap.now.by) c.loop-number.number c.loop-number.new.items _ c.new_row.result
      c.loop-number.invariant.so_far c.new_row.ensures c.push_reserved.ensures.items;
  room = let room = c.loop-number.invariant.room in omega arith;
}

pub returns-clause-rows : goal.returns-clause-rows
returns-clause-rows c =
    written_all c.args.swap.now.rows c.args.swap.now.by c.loop-number.number c.loop-number.new.items (omega (arith, c.new_length-number-end.ensures.value)) c.loop-number.invariant.so_far

pub returns-clause-is_table : goal.returns-clause-is_table
returns-clause-is_table c = subst (λ (rows : List Row). IsTable rows) (sym (returns-clause-rows c)) c.new_length-number-end.ensures.is_table
