-- The lemmas are the laws.
use Rattle.surface_efficiency_laws.proofs.Octagons.{twice_inside, octagon_sphere_is_listed, octagon_inside}
use Rattle.surface_efficiency_laws.proofs.octagon_spheres_are_listed.Goals as goal
use Rattle.surface_efficiency_laws.proofs.StandardEfficiency.{none_where_efficient}

pub returns : goal.returns
returns c = record {
  efficient = λ s surfaces k list. none_where_efficient s k surfaces list;
  twice = λ s surfaces x list none surface canonical h. twice_inside s surfaces list none x surface canonical h;
  sphere = λ s surfaces k list none. octagon_sphere_is_listed s surfaces list none k;
  positive = λ s surfaces x list none surface canonical h. octagon_inside s surfaces list none x surface canonical h;
}
