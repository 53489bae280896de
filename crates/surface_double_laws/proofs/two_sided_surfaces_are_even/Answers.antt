-- The lemmas are the laws.
use Rattle.surface_double_laws.proofs.TwoSided.{two_sided_even, two_sided_components, two_sided_whole}
use Rattle.surface_double_laws.proofs.two_sided_surfaces_are_even.Goals as goal

pub returns : goal.returns
returns c = record { even = two_sided_even; components = two_sided_components; whole = two_sided_whole }
