use Rattle.std.proofs.Math.Facts.{Fits-lt-pow}
use Rattle.support_table.specs.Residuals.{support_at}
use Rattle.support_table.proofs.PairLemmas.{column_of_bit}
use Rattle.support_table.proofs.pairs.has_pair.Goals as goal

pub has_partner_of_word-requires-clause-columns : goal.has_partner_of_word-requires-clause-columns
has_partner_of_word-requires-clause-columns c i one =
    let found = c.args.pairs.found in
    column_of_bit found.table.now.supports found.outer.now found.list.now (support_at found.table.now.supports c.args.place) c.words_at-word-items.result.now c.loop-k.k _ i c.words_at-word-items.ensures.words
    (Fits-lt-pow (c.type_inv.word-items c.loop-k.k)) one
