-- The lines so far.
use Rattle.std.proofs.Common.{◌≡◌, ◌++◌}
use Rattle.outcome_definitions.specs.Information.{classes_text, vertex_text}
use Rattle.table_commands.proofs.information.Information.append_vertices.Given as goal

abbrev pub invariant-loop-class : goal.invariant-loop-class
invariant-loop-class l = l.text.items ≡ l.fn.text.items ++ classes_text (vertex_text l.self.skeleton.now l.self.links.now) l.class
