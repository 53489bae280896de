use Rattle.std.proofs.Common.{◌∙◌}
use Rattle.pachner_moves.proofs.CodeLaws.{fresh_is}
use Rattle.pachner_moves.proofs.FreshLaws.{old_at}
use Rattle.pachner_moves.proofs.moving.fresh_glue.Goals as goal

pub outer_glue-requires : goal.outer_glue-requires
outer_glue-requires c =
    (old_at c.args.taken.table.now c.args.taken.m.now c.args.taken.facets.now c.args.label.number c.core_size-size.result c.index-taken-label.result c.args.taken.old c.core_size-size.ensures.value c.if-label-size.false c.args.label.one_of_five).labelled

pub returns : goal.returns
returns c =
    c.outer_glue.ensures
    ∙ fresh_is c.args.taken.table.now c.args.taken.m.now c.args.own.number c.args.label.number _
    (old_at c.args.taken.table.now c.args.taken.m.now c.args.taken.facets.now c.args.label.number c.core_size-size.result c.index-taken-label.result c.args.taken.old c.core_size-size.ensures.value c.if-label-size.false c.args.label.one_of_five)
