-- The lemmas are the laws.
use Rattle.cone_square_laws.proofs.Entries.{entries_squared}
use Rattle.cone_square_laws.proofs.Numbers.{are_within}
use Rattle.cone_square_laws.proofs.squares_bound_numbers.Goals as goal

pub returns : goal.returns
returns c = record { entries = entries_squared; numbers = are_within }
