-- The lemmas are the laws.
use Rattle.certificate_laws.proofs.Makings.{one_four_accepted, candidates_there, plays_add_few, makings_end_at_limit, makings_go_on_lem, certificates_have_most, made_with_most}
use Rattle.certificate_laws.proofs.makings_have_most.Goals as goal

pub returns : goal.returns
returns c = record {
  accepted = one_four_accepted;
  there = candidates_there;
  limited = plays_add_few;
  limit = makings_end_at_limit;
  moves = makings_go_on_lem;
  certificates = certificates_have_most;
  made = made_with_most;
}
