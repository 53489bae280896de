-- The lemmas are the laws.
use Rattle.surface_crushing_laws.proofs.Linking.{nothing_else_is_crushed, linking_crushes_nothing, fit_are_crushed_to_itself}
use Rattle.surface_crushing_laws.proofs.nothing_is_crushed.Goals as goal

pub returns : goal.returns
returns c = record { without_quads = nothing_else_is_crushed; linking = linking_crushes_nothing; answer = fit_are_crushed_to_itself }
