use Rattle.std.proofs.Common.{subst}
use Rattle.table_definitions.specs.Table.{IsTable}
use Rattle.table_definitions.specs.Replacing.{Replacement, replaced}
use Rattle.table_definitions.proofs.Replaced.{replaced_is_table}
use Rattle.gluing_table.specs.Exchanges.{Exchange}
use Rattle.gluing_table.proofs.RetainedCode.{fewer_than_rows}
use Rattle.gluing_table.proofs.replacing.new_length.Goals as goal

pub overflow_sub-result : goal.overflow_sub-result
overflow_sub-result c = fewer_than_rows c.swap.inside.rows.now (record { removed = c.swap.inside.removed.now; fresh = c.swap.inside.fresh.now }) c.swap.invariant.can

pub returns-clause-is_table : goal.returns-clause-is_table
returns-clause-is_table c =
    let r : Replacement = record { removed = c.swap.inside.removed.now; fresh = c.swap.inside.fresh.now } in
    subst (λ (e : Exchange). IsTable (replaced e.rows e.by)) c.swap.view_is (replaced_is_table c.swap.inside.rows.now r c.swap.invariant.table c.swap.invariant.can)
