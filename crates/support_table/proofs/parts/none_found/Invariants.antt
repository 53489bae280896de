use Rattle.std.proofs.Common.{◌≡◌, ◌≤◌, ◌-◌, length}
use Rattle.std.specs.Prelude.{None}
use Rattle.std.specs.List.{All}
use Rattle.support_table.specs.declared.parts.Found.{Found}
use Rattle.support_table.proofs.parts.none_found.Given as goal

abbrev pub invariant-loop-found : goal.invariant-loop-found
invariant-loop-found l = record {
  most : length l.found.items ≤ l.count;
  none : All (λ (it : Found). it.places ≡ None) l.found.items;
}

abbrev pub decreases-loop-found : goal.decreases-loop-found
decreases-loop-found l = l.count - length l.found.items
