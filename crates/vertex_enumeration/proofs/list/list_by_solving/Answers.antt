use Rattle.row_reduction.proofs.ListLemmas.{list_of_solved}
use Rattle.vertex_enumeration.proofs.list.list_by_solving.Goals as goal

pub returns-in-Ok : goal.returns-in-Ok
returns-in-Ok g c =
    list_of_solved c.args.system.now c.in-Ok.solved c.args.clashes.now.pairs c.in-Ok.ensures.columns c.in-Ok.ensures.same _ _ (λ v. v.items) c.vertex_surfaces.result c.vertex_surfaces.ensures.some
