-- The sheets of the cover are its signs.
use Rattle.std.specs.Prelude.{length}
use Rattle.cover_definitions.specs.Cover.{cover, sheet_signs}
use Rattle.cover_laws.proofs.Covered.{cover_is_table, cover_signs}
use Rattle.skeleton_orientation_laws.proofs.Valid.{edges_valid}
use Rattle.skeleton_orientation_laws.proofs.cover_edges_are_valid.Goals as goal

pub returns : goal.returns
returns c = λ rows table small. edges_valid (cover rows) (cover_is_table rows table small) (sheet_signs (length rows), cover_signs rows table)
