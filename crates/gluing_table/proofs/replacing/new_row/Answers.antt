use Rattle.std.proofs.Common.{◌≡◌, ◌<◌, sym, subst, length}
use Rattle.table_definitions.specs.Replacing.{Replacement, replaced_length, replaced_row, kept_row}
use Rattle.gluing_table.specs.Exchanges.{Exchange}
use Rattle.gluing_table.proofs.RetainedCode.{place_opened, place_fits, new_fresh, new_kept, none_fresh}
use Rattle.gluing_table.proofs.replacing.new_row.Goals as goal

pub returns-in-Some : goal.returns-in-Some
returns-in-Some c =
    subst (λ (e : Exchange). c.in-Some.row ≡ replaced_row e.rows e.by c.args.number) c.swap.view_is
    (new_fresh c.swap.inside.rows.now (record { removed = c.swap.inside.removed.now; fresh = c.swap.inside.fresh.now }) c.args.number c.in-Some.row c.in-Some.ensures)

pub opened_number-tet-requires-clause-ascend : goal.opened_number-tet-requires-clause-ascend
opened_number-tet-requires-clause-ascend c = c.swap.invariant.can.removed_ascend

pub opened_number-tet-requires-clause-fits : goal.opened_number-tet-requires-clause-fits
opened_number-tet-requires-clause-fits c =
    let r : Replacement = record { removed = c.swap.inside.removed.now; fresh = c.swap.inside.fresh.now } in
    place_fits c.swap.inside.rows.now r c.swap.invariant.table c.swap.invariant.can c.args.number c.closed_row.result
    (subst (λ (e : Exchange). c.args.number < replaced_length e.rows e.by) (sym c.swap.view_is) c.requires) c.closed_row.ensures

pub retained_row-requires : goal.retained_row-requires
retained_row-requires c =
    let r : Replacement = record { removed = c.swap.inside.removed.now; fresh = c.swap.inside.fresh.now } in
    subst (λ (e : Exchange). c.opened_number-tet.result < length e.rows) c.swap.view_is
    (place_opened c.swap.inside.rows.now r c.swap.invariant.can c.args.number c.closed_row.result c.opened_number-tet.result
    (subst (λ (e : Exchange). c.args.number < replaced_length e.rows e.by) (sym c.swap.view_is) c.requires) (none_fresh r c.args.number _ c.in_default.ensures)
    c.closed_row.ensures c.opened_number-tet.ensures.free c.opened_number-tet.ensures.value).old_in_range

pub returns : goal.returns
returns c =
    let r : Replacement = record { removed = c.swap.inside.removed.now; fresh = c.swap.inside.fresh.now } in
    subst (λ (e : Exchange). c.retained_row.result ≡ replaced_row e.rows e.by c.args.number) c.swap.view_is
    (new_kept c.swap.inside.rows.now r c.opened_number-tet.result c.args.number c.retained_row.result
    (place_opened c.swap.inside.rows.now r c.swap.invariant.can c.args.number c.closed_row.result c.opened_number-tet.result
    (subst (λ (e : Exchange). c.args.number < replaced_length e.rows e.by) (sym c.swap.view_is) c.requires) (none_fresh r c.args.number _ c.in_default.ensures)
    c.closed_row.ensures c.opened_number-tet.ensures.free c.opened_number-tet.ensures.value)
    (subst (λ (e : Exchange). c.retained_row.result ≡ kept_row e.rows e.by c.opened_number-tet.result c.args.number) (sym c.swap.view_is) c.retained_row.ensures))
