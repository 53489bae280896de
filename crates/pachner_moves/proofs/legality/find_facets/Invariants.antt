-- The facets so far, none of which has an error.
use Rattle.std.proofs.Common.{◌≡◌, ◌<◌, ◌≤◌, ℕ, None, length}
use Rattle.move_definitions.specs.Moves as moves
use Rattle.move_laws.specs.Faults.{facets_below}
use Rattle.pachner_moves.proofs.legality.find_facets.Given as goal

abbrev pub invariant-loop-label : goal.invariant-loop-label
invariant-loop-label l = record {
  facets : l.facets.items ≡ facets_below l.table l.m l.label;
  none : (k : ℕ) → length l.m.core ≤ k → k < l.label → moves.facet_fault l.table l.m k (moves.facet l.table l.m k) ≡ None;
}
