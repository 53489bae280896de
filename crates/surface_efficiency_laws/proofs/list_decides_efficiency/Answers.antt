-- The lemmas are the laws.
use Rattle.surface_efficiency_laws.proofs.Efficiency.{list_decides, other_is_listed, efficiency_decided}
use Rattle.surface_efficiency_laws.proofs.list_decides_efficiency.Goals as goal

pub returns : goal.returns
returns c = record {
  all = λ s coords surfaces k triangles list. list_decides s k coords triangles surfaces list;
  some = λ s coords surfaces k triangles list. other_is_listed s k coords triangles surfaces list;
  decided = λ s coords k triangles. efficiency_decided s k coords triangles;
}
