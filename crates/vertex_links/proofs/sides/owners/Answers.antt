use Rattle.std.proofs.Common.{◌*◌, ◌<◌, length, List, subst, ap, ◌∙◌}
use Rattle.table_definitions.specs.Table.{Row}
use Rattle.skeleton_class_laws.proofs.TallyLemmas.{owner_inside}
use Rattle.vertex_links.proofs.sides.owners.Goals as goal

pub vertex_class-requires-clause-in_range : goal.vertex_class-requires-clause-in_range
vertex_class-requires-clause-in_range c = owner_inside c.args.each c.loop-thing.thing (length c.args.skeleton.now.rows) c.requires.some c.requires.limited
    (subst (λ n. c.loop-thing.thing < 4 * c.args.each * n) (c.len.ensures.value ∙ ap (λ (t : List Row). length t) c.table.ensures.rows) c.loop-thing-test.true)
