-- The tetrahedra so far are written.
use Rattle.component_signature.proofs.Writing.{IsWritten}
use Rattle.component_signature.proofs.drafts.write_part.Given as goal

abbrev pub invariant-loop-place : goal.invariant-loop-place
invariant-loop-place l = IsWritten l.fn.draft l.draft l.part l.other l.by l.place
