use Rattle.std.proofs.Common.{ap, ◌∙◌}
use Rattle.surface_definitions.specs.Coordinates.{clash_list}
use Rattle.surface_list.proofs.Enumerations.{surfaces_listed, table_refused, bounded_within}
use Rattle.surface_list.proofs.listed.packed_surfaces_by.Goals as goal

pub vertex_list-requires-clause-bounded : goal.vertex_list-requires-clause-bounded
vertex_list-requires-clause-bounded c fit =
    bounded_within c.args.limit.number c.args.coords c.args.table.now c.args.system.now c.in_ok-test.test.pairs.items c.args.order.rule c.requires.columns
    (c.in_ok-test.ensures.pairs ∙ ap (clash_list c.args.coords) c.len-tets.ensures.value) c.requires.equations c.len-tets.result c.len-tets.ensures.value c.len-tets.ensures.is_table (c.in_ok-are_numbers_bounded.ensures.bounded fit)

pub returns-clause-ok : goal.returns-clause-ok
returns-clause-ok c =
    surfaces_listed c.args.limit.number c.args.coords c.args.table.now c.args.system.now c.in_ok-test.test.pairs.items c.args.order.rule c.requires.columns
    (c.in_ok-test.ensures.pairs ∙ ap (clash_list c.args.coords) c.len-tets.ensures.value) c.requires.equations _ (λ v. v.items) c.vertex_list.result c.vertex_list.ensures.ok

pub returns-clause-err : goal.returns-clause-err
returns-clause-err c =
    table_refused c.args.limit.number c.args.coords c.args.table.now c.args.system.now c.in_ok-test.test.pairs.items c.args.order.rule c.requires.columns
    (c.in_ok-test.ensures.pairs ∙ ap (clash_list c.args.coords) c.len-tets.ensures.value) c.requires.equations _ c.vertex_list.result c.vertex_list.ensures.err
