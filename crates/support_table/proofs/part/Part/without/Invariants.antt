-- those of the rays so far that have none of the columns, with their supports
use Rattle.std.proofs.Common.{◌≡◌, ◌≤◌, length}
use Rattle.support_table.specs.Tables.{Table}
use Rattle.support_table.specs.Parts.{AreCopied, IsWithout}
use Rattle.support_table.proofs.part.Part.without.Given as goal

abbrev pub invariant-loop-k : goal.invariant-loop-k
invariant-loop-k l = record {
  columns : l.left.table.columns ≡ l.self.table.columns;
  limited : length l.left.table.supports ≤ l.k;
  all : (rays : Table) → AreCopied rays l.self.places.items l.self.table → IsWithout rays l.words l.self.places.items l.k l.left;
}
