-- The marks that are still set.
use Rattle.std.proofs.Common.{◌≡◌, length}
use Rattle.canonical_labelling.proofs.Cleaning.{AreBetween}
use Rattle.canonical_labelling.proofs.comparing.unmark_first.Given as goal

abbrev pub invariant-loop-place : goal.invariant-loop-place
invariant-loop-place l = record {
  size : length l.marks ≡ length l.fn.marks;
  left : AreBetween l.place l.count l.marks;
}
