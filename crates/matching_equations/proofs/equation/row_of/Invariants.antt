use Rattle.std.proofs.Common.{◌≡◌, ◌-◌, ◌≤◌}
use Rattle.std.specs.List.{filter_map}
use Rattle.table_definitions.specs.Lists.{below}
use Rattle.surface_definitions.specs.Equations.{term_of}
use Rattle.matching_equations.proofs.Terms.{equation_of}
use Rattle.matching_equations.proofs.equation.row_of.Given as goal

abbrev pub invariant-loop-column : goal.invariant-loop-column
invariant-loop-column l = record {
  within : l.column ≤ l.columns;
  terms : l.terms.items ≡ filter_map (term_of (equation_of l.sides.left.now l.sides.right.now)) (below l.column);
}

abbrev pub decreases-loop-column : goal.decreases-loop-column
decreases-loop-column l = l.columns - l.column
