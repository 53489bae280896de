-- The lines so far.
use Rattle.std.proofs.Common.{◌≡◌, ◌++◌, length}
use Rattle.outcome_definitions.specs.Information.{classes_text}
use Rattle.outcome_definitions.specs.Covers.{sheet_line}
use Rattle.topology_commands.proofs.sheets.append_sheets.Given as goal

abbrev pub invariant-loop-tet : goal.invariant-loop-tet
invariant-loop-tet l = l.text.items ≡ l.fn.text.items ++ classes_text (sheet_line (length l.cover)) l.tet
