-- The lemmas are the law.
use Rattle.skeleton_laws.proofs.Linked.{some_links}
use Rattle.skeleton_laws.proofs.Unique.{one_list}
use Rattle.skeleton_laws.proofs.links_exist.Goals as goal

pub returns : goal.returns
returns c = record { some = some_links; one = one_list }
