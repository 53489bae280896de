use Rattle.std.proofs.Common.{◌+◌, ◌<◌, length, subst, sym, ◌∙◌}
use Rattle.std.specs.Prelude.{IfOk}
use Rattle.std.specs.List.{All}
use Rattle.std.proofs.lemmas.Result.{IfOk-weaker}
use Rattle.support_table.specs.declared.groups.Grouped.{Grouped}
use Rattle.support_table.specs.Groups.{AreSelectedAlone, AreAloneAmong}
use Rattle.support_table.proofs.GroupLemmas.{groups_below}
use Rattle.support_table.proofs.minimal.alone_among.Goals as goal

pub invariant_of-fill_ranges : goal.invariant_of-fill_ranges
invariant_of-fill_ranges c =
    let found = c.args.kept in
    record {
      below = subst (All (λ (it : Grouped). it.group < c.columns.result + 1)) (sym c.deref.ensures.value)
          (groups_below found.table.now.supports found.outer.now c.columns.result c.fill_in_groups.new.list.items (found.columns ∙ sym c.columns.ensures) c.in_ok-fill_in_groups.ensures.each);
    }

pub returns : goal.returns
returns c =
    let found = c.args.kept in
    let supports = found.table.now.supports in
    let outer = found.outer.now in
    let selected = c.args.selected.now in
    let tested = c.args.tested.now in
    let by_group = c.fill_in_groups.new.list.items in
    let answer = c.selected_alone.result in
    IfOk-weaker answer (λ places. AreSelectedAlone supports outer by_group selected tested (length tested) places.items)
    (λ places. AreAloneAmong supports outer found.list.now selected tested places.items)
    (λ places h. record { list = by_group; grouped = c.in_ok-fill_in_groups.ensures; alone = h })
    (subst (λ gs. IfOk answer (λ places. AreSelectedAlone supports outer gs selected tested (length tested) places.items)) c.deref-2.ensures.value c.selected_alone.ensures)
