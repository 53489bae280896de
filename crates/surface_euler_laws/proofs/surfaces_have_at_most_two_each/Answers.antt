-- The lemmas are the laws.
use Rattle.surface_euler_laws.proofs.AtMostTwo.{at_most_two_each, connected_at_most_two, component_at_most_two, vertex_at_most_two}
use Rattle.surface_euler_laws.proofs.Links.{link_at_most_two}
use Rattle.surface_euler_laws.proofs.surfaces_have_at_most_two_each.Goals as goal

pub returns : goal.returns
returns c = record { each = at_most_two_each; connected = connected_at_most_two; component = component_at_most_two; vertex = vertex_at_most_two; links = link_at_most_two }
