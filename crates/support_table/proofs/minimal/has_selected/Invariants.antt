use Rattle.std.proofs.Common.{◌≡◌, ℕ, ◌<◌, false, get_or, length}
use Rattle.support_table.specs.declared.candidates.Candidate.{Candidate}
use Rattle.support_table.proofs.minimal.has_selected.Given as goal

abbrev pub invariant-loop-candidate : goal.invariant-loop-candidate
invariant-loop-candidate l = (k : ℕ) (d : Candidate) → k < l.candidate-index → k < length l.list → get_or l.selected (get_or l.list k d).place false ≡ false
