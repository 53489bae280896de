-- The lists, by hand, and the relabelled vectors, by computation.
use Rattle.surface_relabelling_laws.proofs.FoldedLists.{folded_list_is, refolded_list_is}
use Rattle.surface_relabelling_laws.proofs.FoldedTables.{folded_table, renamed_is, renamed_carries, vectors_renamed}
use Rattle.surface_relabelling_laws.proofs.folded_tetrahedron_is_relabelled.Goals as goal

pub returns : goal.returns
returns c = record {
  table = (folded_table, (renamed_is, renamed_carries));
  lists = (folded_list_is, refolded_list_is);
  vectors = vectors_renamed;
}
