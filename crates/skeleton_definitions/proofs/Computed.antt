-- The definitions that the examples compute: a proof that unfolds `computed` unfolds them all, and those of the crates
-- below.
use Rattle.std.proofs.Common.{ℕ}
use Rattle.table_definitions.proofs.Computed.{computed as table_computed}

unfoldable pub computed : ℕ
unfolding table_computed
computed = 0
