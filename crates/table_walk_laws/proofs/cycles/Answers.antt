-- The lemmas are the laws.
use Rattle.table_walk_laws.proofs.ChainLemmas.{comes_back, going_on_has_cycle, first_return, reaches_back}
use Rattle.table_walk_laws.proofs.cycles.Goals as goal

pub returns : goal.returns
returns c = record { comes_back = comes_back; cycle = going_on_has_cycle; first_return = first_return; reaches_back = reaches_back }
