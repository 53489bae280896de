-- The table has a class, or is the first that is not connected.
use Rattle.table_commands.proofs.Grouping.{class_added, found_first}
use Rattle.table_commands.proofs.groups.classify.Goals as goal

pub returns-in_ok-push-in-Ok : goal.returns-in_ok-push-in-Ok
returns-in_ok-push-in-Ok c = λ table tables g.
    class_added tables c.args.table.now c.args.groups.now c.in-Ok.class c.add.new.self c.push.new.self c.requires.none_found c.in_ok-push-in-Ok.ensures.items
    c.in-Ok.ensures.class c.in-Ok.ensures.connected table g

pub returns-in-Err-Fault : goal.returns-in-Err-Fault
returns-in-Err-Fault c = λ table tables g.
    let least = rw c.in-Err-Fault.field-0-is at c.in-Err-Fault.ensures.fault in
    found_first tables c.args.table.now c.args.groups.now c.add.new.self c.len-table.result c.in-Err-Fault.fault.tet c.requires.none_found c.in-Err-Fault.ensures.kept
    c.len-table.ensures least table g
