-- The definitions that the examples compute: a proof that unfolds `computed` unfolds them all, and those of the crates
-- below.
use Rattle.std.proofs.Common.{ℕ}
use Rattle.cone_text_definitions.proofs.Computed.{computed as cone_text_computed}
use Rattle.skeleton_definitions.proofs.Computed.{computed as skeleton_computed}
use Rattle.surface_definitions.specs.Coordinates.{clash_list}
use Rattle.surface_definitions.specs.Equations.{glued_pairs, matching_equations}
use Rattle.surface_definitions.specs.Verdict.{verdict, verdict_text}

unfoldable pub computed : ℕ
unfolding cone_text_computed skeleton_computed clash_list glued_pairs matching_equations verdict verdict_text
computed = 0
