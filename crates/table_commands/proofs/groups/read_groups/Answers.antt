-- Each pass of the loop reads one table.
use Rattle.std.proofs.Common.{◌++◌, [], ◌∷◌, length-append, sym, ◌∙◌, arith}
use Rattle.std.proofs.lemmas.Result.{err_from_is_err_and}
use Rattle.table_commands.proofs.EachTable.{table_taken, tables_fewer, table_fails, tables_ended}
use Rattle.table_commands.proofs.groups.read_groups.Goals as goal

pub loop-alloc-smaller : goal.loop-alloc-smaller
loop-alloc-smaller c =
    let more = c.in_ok-group_table.ensures in
    let fewer = tables_fewer c.loop-alloc.lexer c.next_line.new.self (more.rows, c.group_table.new.lexer) c.loop-alloc-test.ensures.found more.read_so in
    omega (arith, fewer)

pub loop-alloc-preserved : goal.loop-alloc-preserved
loop-alloc-preserved c =
    let more = c.in_ok-group_table.ensures in
    let so_far = c.loop-alloc.invariant in
    let fewer = tables_fewer c.loop-alloc.lexer c.next_line.new.self (more.rows, c.group_table.new.lexer) c.loop-alloc-test.ensures.found more.read_so in (
      so_far.0 ++ more.rows ∷ [],
      more.grows so_far.0 so_far.1,
      (let limited = so_far.2 in omega (arith, fewer, length-append so_far.0 (more.rows ∷ []))),
      table_taken so_far.0 c.loop-alloc.lexer c.next_line.new.self (more.rows, c.group_table.new.lexer) c.loop-alloc-test.ensures.found more.read_so ∙ so_far.3,
    )

pub returns : goal.returns
returns c =
    let so_far = c.loop-alloc.invariant in (
      so_far.0,
      sym so_far.3 ∙ rw c.loop-alloc-test.ensures.none.1 (tables_ended so_far.0 c.loop-alloc.lexer c.loop-alloc-test.ensures.none.0),
      so_far.1,
    )

pub returns-in_err-group_table : goal.returns-in_err-group_table
returns-in_err-group_table c =
    let so_far = c.loop-alloc.invariant in
    let p = err_from_is_err_and c.from_residual.result c.from_residual.ensures.1 in
    rw (p.1, p.2) (table_fails so_far.0 c.loop-alloc.lexer c.next_line.new.self _ _ c.loop-alloc-test.ensures.found c.in_err-group_table.ensures so_far.3)
