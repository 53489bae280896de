-- In each face the octagons and the quads that replace them have equally many arcs.
use Rattle.surface_octagon_laws.proofs.AsQuads.{match_as_quads}
use Rattle.surface_octagon_laws.proofs.octagons_match_as_quads.Goals as goal

pub returns : goal.returns
returns c = λ s ys zs k w h. match_as_quads s k ys zs w h
