-- The rows so far.
use Rattle.std.proofs.Common.{◌≡◌, map}
use Rattle.table_definitions.specs.Lists.{below}
use Rattle.cover_definitions.specs.Cover.{cover_row}
use Rattle.double_cover.proofs.rows.cover_rows.Given as goal

abbrev pub invariant-loop-tet : goal.invariant-loop-tet
invariant-loop-tet l = l.rows.items ≡ map (cover_row l.table) (below l.tet)
