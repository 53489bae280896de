-- The lemmas are the laws.
use Rattle.cone_laws.proofs.Pairs.{large_no_pair}
use Rattle.cone_laws.proofs.Places.{large_third_place, places_bound}
use Rattle.cone_laws.proofs.large_unions_are_no_pairs.Goals as goal

pub returns : goal.returns
returns c = record { none = large_no_pair; third = large_third_place; small = places_bound }
