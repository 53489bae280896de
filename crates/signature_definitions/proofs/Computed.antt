-- The definitions that the examples compute: a proof that unfolds `computed` unfolds them all, and those of the crates
-- below.
use Rattle.std.proofs.Common.{ℕ}
use Rattle.table_definitions.proofs.Computed.{computed as table_computed}
use Rattle.signature_definitions.specs.SignatureText.{head_of, types_from, numbers_in, join_faces, signature_table, signature_at, any_table_at}
use Rattle.signature_definitions.specs.Spelling.{spelling_values}
use Rattle.signature_definitions.specs.WalkOrder.{first_unordered}

unfoldable pub computed : ℕ
unfolding table_computed head_of types_from numbers_in join_faces signature_table signature_at any_table_at spelling_values first_unordered
computed = 0
