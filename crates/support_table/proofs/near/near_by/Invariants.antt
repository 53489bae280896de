-- the entries of the rays so far
use Rattle.std.proofs.Common.{ℕ, List, ◌+◌, ◌*◌, ◌/◌}
use Rattle.support_table.specs.Masks.{AreByteMasks}
use Rattle.support_table.specs.Outside.{AreByteOutsides}
use Rattle.support_table.specs.Near.{AreFullColumns, AreNearBy}
use Rattle.support_table.proofs.near.near_by.Given as goal

abbrev pub invariant-loop-place : goal.invariant-loop-place
invariant-loop-place l = (clashing lacking : List ℕ) → AreByteMasks clashing (8 * ((l.tables.table.now.columns + 63) / 64)) l.tables.clashing.now → AreByteOutsides lacking (8 * ((l.tables.table.now.columns + 63) / 64)) l.tables.lacking.now →
    AreFullColumns clashing l.tables.count l.tables.common.now →
    AreNearBy clashing lacking l.tables.table.now.supports l.tables.count l.place l.near.items
