-- The lemmas are the laws.
use Rattle.outcome_list_laws.proofs.Lists.{inputs_verified_lem, lifts_verified_lem}
use Rattle.outcome_list_laws.proofs.listed_inputs_are_verified.Goals as goal

pub returns : goal.returns
returns c = record { listed = inputs_verified_lem; lifts = lifts_verified_lem }
