-- The lemmas are the laws.
use Rattle.outcome_list_laws.proofs.Described.{inputs_decide_lem, files_decide_lem, described_lists_decide_lem}
use Rattle.outcome_list_laws.proofs.described_lists_decide_efficiency.Goals as goal

pub returns : goal.returns
returns c = record { inputs = inputs_decide_lem; files = files_decide_lem; written = described_lists_decide_lem }
