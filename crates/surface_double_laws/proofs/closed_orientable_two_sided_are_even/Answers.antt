-- The lemmas are the laws.
use Rattle.surface_double_laws.proofs.Orientable.{closed_even, closed_components, closed_whole, closed_one}
use Rattle.surface_double_laws.proofs.closed_orientable_two_sided_are_even.Goals as goal

pub returns : goal.returns
returns c = record { even = closed_even; components = closed_components; whole = closed_whole; one = closed_one }
