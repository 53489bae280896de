-- The lemmas are the laws.
use Rattle.table_walk_laws.proofs.Steps.{walk_back_lem, undone_is_injective}
use Rattle.table_walk_laws.proofs.undone_steps.Goals as goal

pub returns : goal.returns
returns c = record { injective = undone_is_injective; back = walk_back_lem }
