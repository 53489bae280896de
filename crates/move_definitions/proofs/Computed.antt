-- The definitions that the examples compute: a proof that unfolds `computed` unfolds them all, and those of the crates
-- below.
use Rattle.std.proofs.Common.{ℕ}
use Rattle.table_definitions.proofs.Computed.{computed as table_computed}
use Rattle.move_definitions.specs.Certificates.{descent_move, candidates}
use Rattle.move_definitions.specs.MoveText.{vertices_at, core_at, kind_at, move_at, named_step_at, step_at, move_text}
use Rattle.move_definitions.specs.Moves.{move_fault}

unfoldable pub computed : ℕ
unfolding table_computed descent_move candidates vertices_at core_at kind_at move_at named_step_at step_at move_text move_fault
computed = 0
