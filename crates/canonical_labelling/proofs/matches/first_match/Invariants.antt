use Rattle.std.proofs.Common.{◌≡◌, ℕ, ◌<◌, length}
use Rattle.signature_laws.specs.Starts.{IsNoMatch}
use Rattle.canonical_labelling.proofs.matches.first_match.Given as goal

abbrev pub invariant-loop-number : goal.invariant-loop-number
invariant-loop-number l = record {
  size : length l.trace.numbers.items ≡ length l.connected.table.now;
  before : (i : ℕ) → i < l.number → IsNoMatch l.connected.table.now l.target i;
}
