use Rattle.std.proofs.Common.{◌≡◌, ℕ, Option, Some, ap, subst}
use Rattle.table_definitions.specs.Table.{Gluing, Face, glue}
use Rattle.table_definitions.specs.Replacing.{Replacement, kept_gluing}
use Rattle.gluing_table.specs.Exchanges.{Exchange}
use Rattle.gluing_table.proofs.RetainedCode.{closed_fits, glued_back_by, glued_on_by}
use Rattle.gluing_table.proofs.replacing.retained_glue.Goals as goal

-- the gluing that is returned for a face of a retained row
abbrev Keeps : Exchange → Option Gluing → Face → ℕ → Type 0
Keeps e r y t = r ≡ kept_gluing e.rows e.by y (glue e.rows (record { tet = t; face = y.face }))

pub returns-then-is_among : goal.returns-then-is_among
returns-then-is_among c =
    let r : Replacement = record { removed = c.swap.inside.removed.now; fresh = c.swap.inside.fresh.now } in
    subst (λ (e : Exchange). Keeps e c.back_to_fresh.result c.args.face c.args.tet) c.swap.view_is
    (glued_back_by c.swap.inside.rows.now r c.swap.invariant.can c.args.face c.args.tet c.face.inside.face c.glue.inside.tet c.in-Some.glue c.back_to_fresh.result
    c.in-Some.ensures.value (ap (λ (g : Gluing). g.tet) c.glue.view_is) (ap (λ (x : Face). x.face) c.face.view_is) c.if-is_among.ensures c.back_to_fresh.ensures)

pub opened_row-tet-requires-clause-fits : goal.opened_row-tet-requires-clause-fits
opened_row-tet-requires-clause-fits c =
    closed_fits c.swap.inside.rows.now (record { removed = c.swap.inside.removed.now; fresh = c.swap.inside.fresh.now }) c.swap.invariant.table c.swap.invariant.can _ c.in-Some.glue c.glue.inside.tet c.closed_number.result
    c.in-Some.ensures.value (ap (λ (g : Gluing). g.tet) c.glue.view_is) c.closed_number.ensures

pub returns : goal.returns
returns c =
    let r : Replacement = record { removed = c.swap.inside.removed.now; fresh = c.swap.inside.fresh.now } in
    subst (λ (e : Exchange). Keeps e (Some (record { tet = c.opened_row-tet.result; perm = c.glue.inside.perm })) c.args.face c.args.tet) c.swap.view_is
    (glued_on_by c.swap.inside.rows.now r c.swap.invariant.table c.swap.invariant.can c.args.face c.args.tet c.face.inside.face c.glue.inside.tet
    c.closed_number.result c.opened_row-tet.result _ c.in-Some.glue
    c.in-Some.ensures.value (ap (λ (g : Gluing). g.tet) c.glue.view_is) (ap (λ (g : Gluing). g.perm) c.glue.view_is) (ap (λ (x : Face). x.face) c.face.view_is)
    c.if-is_among.ensures c.closed_number.ensures c.opened_row-tet.ensures.free c.opened_row-tet.ensures.value)
