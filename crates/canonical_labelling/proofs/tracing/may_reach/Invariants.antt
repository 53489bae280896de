use Rattle.std.proofs.Common.{◌≡◌, length}
use Rattle.table_definitions.specs.Relabelling.{Relabelling}
use Rattle.signature_definitions.specs.Labellings.{IsWalked}
use Rattle.signature_laws.specs.Orders.{Numbers}
use Rattle.canonical_labelling.proofs.tracing.may_reach.Given as goal

abbrev pub invariant-loop-place : goal.invariant-loop-place
invariant-loop-place l = record {
  size : length l.trace.numbers.items ≡ length l.traversal.table.now;
  numbers : (by : Relabelling) → IsWalked l.traversal.table.now l.fn.traversal.start by l.target → Numbers l.trace.order.items by;
}
