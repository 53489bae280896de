use Rattle.pachner_moves.proofs.FreshLaws.{puts_permute}
use Rattle.pachner_moves.proofs.facets.glue_to_new.Goals as goal

pub label_by_label-requires : goal.label_by_label-requires
label_by_label-requires c = rw c.new_facet-new.ensures (puts_permute c.args.table.now c.args.m.now c.args.f c.args.label.number c.requires c.args.label.one_of_five)
