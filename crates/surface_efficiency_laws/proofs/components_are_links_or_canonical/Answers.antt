-- The lemma is the law.
use Rattle.surface_efficiency_laws.proofs.Canonical.{link_or_canonical}
use Rattle.surface_efficiency_laws.proofs.components_are_links_or_canonical.Goals as goal

pub returns : goal.returns
returns c = λ s coords xs components count i k w numbered. link_or_canonical s k coords xs w components count i numbered
