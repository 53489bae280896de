-- The first nonzero column is among those that are left.
use Rattle.std.proofs.Common.{◌≡◌, drop}
use Rattle.surface_pieces.proofs.columns.first_nonzero_of.Given as goal
use Rattle.surface_laws.specs.PieceLaws.{first_nonzero}

abbrev pub invariant-loop-column : goal.invariant-loop-column
invariant-loop-column l = first_nonzero l.x l.columns l.other ≡ first_nonzero l.x (drop l.column-index l.columns) l.other
