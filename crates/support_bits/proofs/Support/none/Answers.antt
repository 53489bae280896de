use Rattle.support_bits.proofs.EitherLemmas.{none_spelled}
use Rattle.support_bits.proofs.Support.none.Goals as goal

pub returns : goal.returns
returns c = none_spelled c.args.columns _ _ (c.in_ok-words.ensures.items_if_clones_equal (λ y e. e))
