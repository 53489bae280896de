-- The lemmas are the laws.
use Rattle.surface_double_laws.proofs.EvenComponents.{components_even, whole_even}
use Rattle.surface_double_laws.proofs.Spheres.{orientable_even, one_is_one_sided}
use Rattle.surface_double_laws.proofs.orientable_surfaces_are_even.Goals as goal

pub returns : goal.returns
returns c = record { even = orientable_even; components = components_even; whole = whole_even; one = one_is_one_sided }
