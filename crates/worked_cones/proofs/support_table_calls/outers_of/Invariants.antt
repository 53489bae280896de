use Rattle.std.proofs.Common.{◌≡◌, length}
use Rattle.support_table.specs.Parts.{AreOuters}
use Rattle.worked_cones.proofs.support_table_calls.outers_of.Given as goal

abbrev pub invariant-loop-place : goal.invariant-loop-place
invariant-loop-place l = record {
  count : length l.outers.items ≡ l.place;
  outers : AreOuters l.given.columns (length l.given.rows.now) l.outers.items;
}
