use Rattle.std.proofs.Common.{length, ◌-◌, ◌≡◌, ◌≤◌, None, take}
use Rattle.canonical_labelling.specs.Comparisons as comparisons
use Rattle.canonical_labelling.proofs.comparing.compare_head.Given as goal

-- the characters before the index agree
abbrev pub invariant-loop-i : goal.invariant-loop-i
invariant-loop-i l = (l.i ≤ length l.text) × (comparisons.reported (take l.i l.text) l.bound ≡ None)

abbrev pub decreases-loop-i : goal.decreases-loop-i
decreases-loop-i l = length l.text - l.i
