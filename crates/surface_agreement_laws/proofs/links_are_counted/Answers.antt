-- The lemmas are the laws.
use Rattle.surface_agreement_laws.proofs.CountedLinks.{one_link, counted}
use Rattle.surface_agreement_laws.proofs.links_are_counted.Goals as goal

pub returns : goal.returns
returns c = record {
  one_each = λ s coords list class k h one lc. one_link s k coords h list one class lc;
  number = λ s coords list k h one. counted s k coords h list one;
}
