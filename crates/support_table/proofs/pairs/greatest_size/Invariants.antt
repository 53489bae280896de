-- the greatest size so far
use Rattle.std.proofs.Common.{◌<◌, ◌≤◌, ℕ, length, get_or}
use Rattle.support_table.specs.declared.candidates.Candidate.{Candidate}
use Rattle.support_table.proofs.pairs.greatest_size.Given as goal

abbrev pub invariant-loop-candidate : goal.invariant-loop-candidate
invariant-loop-candidate l = (k : ℕ) (d : Candidate) → k < l.candidate-index → k < length l.list → (get_or l.list k d).size ≤ l.most
