-- The lemmas are the laws.
use Rattle.cone_bound_laws.proofs.Entries.{entries}
use Rattle.cone_bound_laws.proofs.Numbers.{are_within}
use Rattle.cone_bound_laws.proofs.numbers_are_bounded.Goals as goal

pub returns : goal.returns
returns c = record { entries = entries; numbers = are_within }
