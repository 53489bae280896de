-- No row that was read is glued to the target.
use Rattle.std.proofs.Common.{◌≡◌, ℕ, ◌<◌, None, get_or}
use Rattle.table_definitions.specs.Replaceable.{row_back}
use Rattle.gluing_table.proofs.FirstBack.{Numbered}
use Rattle.gluing_table.proofs.replacing.back_to_fresh.Given as goal

abbrev pub invariant-loop-row : goal.invariant-loop-row
invariant-loop-row l = (k : ℕ) (d : Numbered) → k < l.row-index → row_back l.target (get_or l.fresh k d) ≡ None
