-- The rows so far.
use Rattle.std.proofs.Common.{◌≡◌, ◌-◌}
use Rattle.std.specs.List.{range_with_len}
use Rattle.move_definitions.specs.Moves.{kept}
use Rattle.move_laws.specs.Facets.{numbered, put_row}
use Rattle.pachner_moves.proofs.moving.fresh_rows.Given as goal

abbrev pub invariant-loop-label : goal.invariant-loop-label
invariant-loop-label l = l.rows.items ≡ numbered (λ u. put_row l.taken.table.now l.taken.m.now (u - kept l.taken.table.now l.taken.m.now)) (range_with_len (kept l.taken.table.now l.taken.m.now) l.label)
