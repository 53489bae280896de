-- The lemma is the law.
use Rattle.surface_relabelling_laws.proofs.CrushedTables.{crushed_are_isomorphic_lem}
use Rattle.surface_relabelling_laws.proofs.crushed_tables_are_isomorphic.Goals as goal

pub returns : goal.returns
returns c = crushed_are_isomorphic_lem
