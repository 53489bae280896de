-- The list of pieces is built column by column, and its pieces are different.
use Rattle.surface_laws.proofs.Offsets.{piece_numbers}
use Rattle.surface_laws.proofs.pieces_are_numbered.Goals as goal

pub returns : goal.returns
returns c = λ xs. piece_numbers xs
