use Rattle.vertex_enumeration.proofs.Listings.{are_listed, are_refused}
use Rattle.vertex_enumeration.proofs.list.list_by_elimination.Goals as goal

pub returns-clause-ok : goal.returns-clause-ok
returns-clause-ok g c =
    are_listed c.args.limit.number c.args.system.now c.args.clashes.now.pairs c.new-picker.result.order c.args.order.rule _ c.new-picker.ensures.order c.eliminate.result c.eliminate.ensures.ok

pub returns-clause-err : goal.returns-clause-err
returns-clause-err g c =
    are_refused c.args.limit.number c.args.system.now c.args.clashes.now.pairs c.new-picker.result.order c.args.order.rule _ c.new-picker.ensures.order c.eliminate.result c.eliminate.ensures.err
