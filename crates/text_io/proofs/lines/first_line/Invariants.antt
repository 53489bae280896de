-- The lines that were skipped are blank or comments.
use Rattle.std.proofs.Common.{◌≡◌, ◌+◌, ◌≤◌, length}
use Rattle.text_definitions.specs.Text.{lines_from, pieces}
use Rattle.text_io.proofs.lines.first_line.Given as goal

abbrev pub invariant-loop-later : goal.invariant-loop-later
invariant-loop-later l = record {
  same : lines_from (l.number + 1) (pieces l.later) ≡ lines_from (l.fn.number + 1) (pieces l.bytes);
  numbers : l.number + length l.later ≤ l.fn.number + length l.bytes;
  shorter : length l.later ≤ length l.bytes;
}

abbrev pub decreases-loop-later : goal.decreases-loop-later
decreases-loop-later l = length l.later
