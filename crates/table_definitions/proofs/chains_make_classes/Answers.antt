-- The lemmas are the parts of the law.
use Rattle.table_definitions.proofs.ChainLaws.{joined_refl, joined_trans, joined_sym, joined_place, joined_turned}
use Rattle.table_definitions.proofs.chains_make_classes.Goals as goal

pub returns : goal.returns
returns c = record {
  itself = joined_refl;
  further = joined_trans;
  back = λ rows p q t a j. (joined_place rows p q t a j, joined_sym rows p q t a j);
  backwards_too = joined_turned;
}
