-- The rows of the list are those of the system.
use Rattle.std.proofs.Common.{◌∙◌, subst₂, sym}
use Rattle.std.proofs.lemmas.Iterator.Adapters.{YieldsList-from_vec}
use Rattle.std.proofs.lemmas.Iterator.Consumers.{YieldsList-end, YieldsList-turn}
use Rattle.std.proofs.lemmas.List.{map-id}
use Rattle.cone_arithmetic.specs.Sparse.{IsInRange}
use Rattle.row_reduction.proofs.blocks.system_of.Goals as goal

pub push_row-requires-clause-in_range : goal.push_row-requires-clause-in_range
push_row-requires-clause-in_range c =
    let rows = c.args.list.rows in
    let given = c.into_iter-row-iterator.ensures.into_iter_gives in
    let turn = YieldsList-turn (YieldsList-from_vec rows.items given.0 (given.1 ∙ rows.ok.0)) c.loop-row.yielded _ c.loop-row.yielded_by _ c.next.new.self c.in-Some.row c.in-Some.is c.next.ensures.steps in
    subst₂ IsInRange (sym c.loop-row.invariant.columns) (sym turn.1) (c.args.list.in_range _ _ turn.0)

pub returns-clause-rows : goal.returns-clause-rows
returns-clause-rows c =
    let rows = c.args.list.rows in
    let given = c.into_iter-row-iterator.ensures.into_iter_gives in
    let all = YieldsList-end (YieldsList-from_vec rows.items given.0 (given.1 ∙ rows.ok.0)) c.loop-row.yielded _ c.loop-row.yielded_by _ c.next.new.self c.in-None.is c.next.ensures.steps in
    c.loop-row.invariant.rows ∙ sym (map-id c.loop-row.yielded) ∙ all.0
