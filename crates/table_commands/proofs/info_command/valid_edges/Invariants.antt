-- The classes so far.
use Rattle.std.proofs.Common.{◌≡◌, length}
use Rattle.outcome_definitions.specs.Information.{AreValid}
use Rattle.table_commands.proofs.info_command.valid_edges.Given as goal

abbrev pub invariant-loop-class : goal.invariant-loop-class
invariant-loop-class l = (length l.valid.items ≡ l.class) × AreValid l.skeleton l.class l.valid.items
