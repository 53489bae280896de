-- The lemmas are the laws.
use Rattle.surface_relabelling_laws.proofs.AllCoordinates.{vertices_relabelled, lists_relabelled}
use Rattle.surface_relabelling_laws.proofs.lists_are_relabelled.Goals as goal

pub returns : goal.returns
returns c = record {
  vertex = λ coords rows new by equations others xs are. vertices_relabelled coords rows new by equations others are xs;
  lists = λ coords rows new by equations others list listed are one other. lists_relabelled coords rows new by equations others are list listed one other;
}
