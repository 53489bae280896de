-- The lines so far.
use Rattle.std.proofs.Common.{◌≡◌, ◌++◌}
use Rattle.outcome_definitions.specs.Information.{classes_text, edge_text}
use Rattle.table_commands.proofs.information.Information.append_edges.Given as goal

abbrev pub invariant-loop-class : goal.invariant-loop-class
invariant-loop-class l = l.text.items ≡ l.fn.text.items ++ classes_text (edge_text l.self.skeleton.now l.self.valid.now) l.class
