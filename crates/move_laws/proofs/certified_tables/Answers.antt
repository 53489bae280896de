-- The lemmas are the laws.
use Rattle.move_laws.proofs.Certified.{standard_is, relabelled_from_closed, certified_are_closed, certified_are_orientable}
use Rattle.move_laws.proofs.certified_tables.Goals as goal

pub returns : goal.returns
returns c = record { sphere = standard_is; relabelled = relabelled_from_closed; closed = certified_are_closed; orientable = certified_are_orientable }
