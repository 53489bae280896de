use Rattle.move_laws.proofs.FacetLaws.{new_is_facet}
use Rattle.pachner_moves.proofs.moving.inner_glue.Goals as goal

pub glue_to_new-requires : goal.glue_to_new-requires
glue_to_new-requires c = rw c.new_facet.ensures (new_is_facet c.args.table.now c.args.m.now c.args.own.number c.args.own.one_of_five)
