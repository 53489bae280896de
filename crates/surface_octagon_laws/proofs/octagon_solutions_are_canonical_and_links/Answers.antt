-- The canonical part is over the lift of the quads.
use Rattle.surface_octagon_laws.proofs.CanonicalParts.{one_canonical_part}
use Rattle.surface_octagon_laws.proofs.octagon_solutions_are_canonical_and_links.Goals as goal

pub returns : goal.returns
returns c = λ s ys k solution. one_canonical_part s k ys solution
