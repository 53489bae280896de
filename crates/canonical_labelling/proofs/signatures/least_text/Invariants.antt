use Rattle.std.proofs.Common.{length}
use Rattle.canonical_labelling.specs.Comparisons.{IsWorkSpace}
use Rattle.canonical_labelling.specs.Orbits.{IsSearch}
use Rattle.canonical_labelling.proofs.signatures.least_text.Given as goal

abbrev pub invariant-loop-number : goal.invariant-loop-number
invariant-loop-number l = record {
  search : IsSearch l.connected.table.now l.number l.best.by l.best.text.items l.orbits;
  space : IsWorkSpace (length l.connected.table.now) l.space;
}
