-- The lemmas are the laws.
use Rattle.outcome_list_laws.proofs.LinkCount.{inputs_count_links_lem, described_links_are_counted_lem}
use Rattle.outcome_list_laws.proofs.described_links_are_counted.Goals as goal

pub returns : goal.returns
returns c = record { inputs = inputs_count_links_lem; written = described_links_are_counted_lem }
