-- Each sum is over columns, and the columns of the components add up.
use Rattle.surface_laws.proofs.ComponentSums.{component_sums}
use Rattle.surface_laws.proofs.component_sums_add_up.Goals as goal

pub returns : goal.returns
returns c = λ s coords xs components count h. component_sums s coords xs components count h
