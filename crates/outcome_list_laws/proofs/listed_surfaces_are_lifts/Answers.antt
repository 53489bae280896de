-- The lemmas are the laws.
use Rattle.outcome_list_laws.proofs.SurfaceKinds.{listed_inputs_lem, lifted_kinds_lem}
use Rattle.outcome_list_laws.proofs.listed_surfaces_are_lifts.Goals as goal

pub returns : goal.returns
returns c = record { inputs = listed_inputs_lem; printed = lifted_kinds_lem }
