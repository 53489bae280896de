-- The lemmas are the laws.
use Rattle.presentation_laws.proofs.TreeLaws.{path_of, one_path}
use Rattle.presentation_laws.proofs.Counted.{tree_faces_counted}
use Rattle.presentation_laws.proofs.tree_faces_lead.Goals as goal

pub returns : goal.returns
returns c = record { lead = λ rows t table connected l. path_of rows table connected t l; one = one_path; counted = tree_faces_counted }
