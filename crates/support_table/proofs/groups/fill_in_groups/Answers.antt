use Rattle.std.proofs.Common.{length}
use Rattle.support_table.proofs.GroupLemmas.{grouped_moved}
use Rattle.support_table.proofs.groups.fill_in_groups.Goals as goal

pub returns : goal.returns
returns c = grouped_moved c.args.found.table.now.supports c.args.found.outer.now c.args.found.list.now (length c.args.found.list.now) c.fill_with_groups.new.grouped.items c.sort_by_group.new.list.items c.sort_by_group.ensures c.in_ok-fill_with_groups.ensures
