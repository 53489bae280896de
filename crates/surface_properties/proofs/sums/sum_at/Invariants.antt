-- The sum so far.
use Rattle.std.proofs.Common.{◌≡◌, take}
use Rattle.std.specs.Prelude.{sum_by, slice_index}
use Rattle.surface_properties.specs.Capped.{capped}
use Rattle.surface_properties.proofs.sums.sum_at.Given as goal

abbrev pub invariant-loop-column : goal.invariant-loop-column
invariant-loop-column l = l.total ≡ capped (sum_by (slice_index l.x) (take l.column-index l.columns))
