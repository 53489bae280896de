-- The lemmas are the laws.
use Rattle.surface_efficiency_laws.proofs.QuadEfficiency.{positive_lift, quad_list_decides}
use Rattle.surface_efficiency_laws.proofs.quad_list_decides_efficiency.Goals as goal

pub returns : goal.returns
returns c = record {
  surfaces = λ s links quad_rows surfaces x k spheres equations list w canonical positive. positive_lift s k links spheres quad_rows equations surfaces list x w canonical positive;
  all = λ s links quad_rows surfaces k spheres equations list. quad_list_decides s k links spheres quad_rows equations surfaces list;
}
