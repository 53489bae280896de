-- The bytes that were skipped are blanks, and at most as many are left as before.
use Rattle.std.proofs.Common.{◌≡◌, ◌≤◌, length}
use Rattle.text_io.specs.Front.{drop_blanks}
use Rattle.text_io.proofs.front.without_blanks.Given as goal

abbrev pub invariant-loop-rest : goal.invariant-loop-rest
invariant-loop-rest l = (drop_blanks l.rest ≡ drop_blanks l.bytes) × (length l.rest ≤ length l.bytes)

abbrev pub decreases-loop-rest : goal.decreases-loop-rest
decreases-loop-rest l = length l.rest
