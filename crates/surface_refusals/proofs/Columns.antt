-- A table has fewer than 2^32 columns.
use Rattle.std.proofs.Common.{ℕ, ◌*◌, ◌<◌, ◌≤◌, arith}
use Rattle.std.proofs.Math.Nat.{mul-le-mul}
use Rattle.surface_definitions.specs.declared.Coords.{Coords}
use Rattle.surface_definitions.specs.Coordinates.{columns}
use Rattle.surface_definitions.proofs.ColumnCounts as counts

pub few_columns : (coords : Coords) (n : ℕ) → n ≤ 1000 → columns coords n < 4294967296
few_columns coords n h = let most : columns coords n ≤ 10 * 1000 = mul-le-mul (counts.few_columns coords) h in omega (arith, most)
