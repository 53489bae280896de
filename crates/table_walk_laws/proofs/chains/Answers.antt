-- The lemmas are the laws.
use Rattle.table_walk_laws.proofs.Steps.{one_end_lem}
use Rattle.table_walk_laws.proofs.ChainLemmas.{chain_ends, source_has_chain, never_twice, sources_apart}
use Rattle.table_walk_laws.proofs.chains.Goals as goal

pub returns : goal.returns
returns c = record {
  ends = chain_ends;
  chain = source_has_chain;
  never_twice = never_twice;
  one_end = one_end_lem;
  separate = sources_apart;
}
