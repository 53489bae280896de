-- The lemmas are the laws.
use Rattle.outcome_answer_laws.proofs.Makings.{all_moves_made, all_moves_summed_up}
use Rattle.outcome_answer_laws.proofs.all_moves_are_made.Goals as goal

pub returns : goal.returns
returns c = record { make = all_moves_made; bulk = all_moves_summed_up }
