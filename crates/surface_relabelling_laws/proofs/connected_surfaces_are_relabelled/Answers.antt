-- The lemmas are the laws.
use Rattle.surface_relabelling_laws.proofs.ConnectedSurfaces.{two_sided_same, orientable_same, connected_same}
use Rattle.surface_relabelling_laws.proofs.connected_surfaces_are_relabelled.Goals as goal

pub returns : goal.returns
returns c = record {
  connected = λ s other coords by xs relabels surface. connected_same s other coords by xs relabels surface;
  sides = λ coords rows new by xs components others h. two_sided_same rows new by h.relabels coords xs h.surface components others h.one h.other;
  orientation = λ coords rows new by xs components others h. orientable_same rows new by h.relabels coords xs h.surface components others h.one h.other;
}
