-- No row so far has the number.
use Rattle.std.proofs.Common.{◌≡◌, ℕ, ◌<◌, get_or}
use Rattle.table_definitions.specs.Replaceable.{numbers_of}
use Rattle.gluing_table.proofs.replacing.fresh_row.Given as goal

abbrev pub invariant-loop-row : goal.invariant-loop-row
invariant-loop-row l = (k : ℕ) → k < l.row-index → get_or (numbers_of l.fresh) k 0 ≡ l.number → ⊥
