-- The lemmas are the laws.
use Rattle.surface_relabelling_laws.proofs.SmallTables.{one_size, both_listed, stay_within, print_as_many}
use Rattle.surface_relabelling_laws.proofs.small_isomorphic_tables_are_listed.Goals as goal

pub returns : goal.returns
returns c = record { size = one_size; listed = both_listed; within = stay_within; printed = print_as_many }
