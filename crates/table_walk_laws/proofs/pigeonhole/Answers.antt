-- The lemma is the law.
use Rattle.table_walk_laws.proofs.Repeats.{pigeonhole_lem}
use Rattle.table_walk_laws.proofs.pigeonhole.Goals as goal

pub returns : goal.returns
returns c = pigeonhole_lem
