-- One more slot is read.
use Rattle.std.proofs.Common.{◌++◌, List, Option, sym, ap, ◌∙◌}
use Rattle.std.proofs.lemmas.Iterator.Adapters.{YieldsList-from_vec}
use Rattle.std.proofs.lemmas.Iterator.Consumers.{YieldsList-end}
use Rattle.std.proofs.lemmas.List.{map-id}
use Rattle.cone_definitions.specs.Rows.{Row}
use Rattle.row_reduction.specs.RowsLeft.{rows_left}
use Rattle.row_reduction.proofs.RowsLeftLemmas.{appended_row, appended_none, no_row}
use Rattle.row_reduction.proofs.order.append_left.Goals as goal

pub loop-slot-preserved-in-Continue-1 : goal.loop-slot-preserved-in-Continue-1
loop-slot-preserved-in-Continue-1 c =
    appended_row c.args.ordered.now.items c.loop-slot.yielded c.loop-slot.ordered.items c.push.new.self.items c.in-Some.slot c.in-Some-slot.row
    c.loop-slot.invariant c.in-Some-slot.is c.in_ok-push.ensures.items

pub loop-slot-preserved : goal.loop-slot-preserved
loop-slot-preserved c =
    appended_none c.args.ordered.now.items c.loop-slot.yielded c.loop-slot.ordered.items c.in-Some.slot c.loop-slot.invariant (no_row c.in-Some.slot c.in_default.not-Some)

pub returns : goal.returns
returns c =
    let given = c.into_iter-slot-iterator.ensures.into_iter_gives in
    let slots = YieldsList-from_vec c.args.left.items given.0 (given.1 ∙ c.args.left.ok.0) in
    let all = sym (map-id c.loop-slot.yielded) ∙ (YieldsList-end slots c.loop-slot.yielded _ c.loop-slot.yielded_by _ c.next.new.self c.in-None.is c.next.ensures.steps).0 in
    c.loop-slot.invariant ∙ ap (λ (slots : List (Option Row)). c.args.ordered.now.items ++ rows_left slots) all
