use Rattle.std.proofs.Common.{◌+◌, ◌*◌, ◌/◌, length, drop, length-take, length-drop, subst, sym, ap, ◌∙◌, arith}
use Rattle.support_bits.specs.Words.{HaveCommon}
use Rattle.support_table.specs.Residuals.{support_at}
use Rattle.support_table.proofs.PairLemmas.{pair_inside, row_within}
use Rattle.support_table.proofs.pairs.has_partner.Goals as goal

pub have_common-requires : goal.have_common-requires
have_common-requires c =
    let found = c.args.pairs.found in
    let s = support_at found.table.now.supports c.args.place in
    let words = c.words_at-words in
    let within = row_within found.table.now.supports found.outer.now found.list.now c.args.pairs.partners.now words.result.now c.args.place c.args.column c.requires.partners words.ensures.words
    (words.ensures.width ∙ sym found.columns) c.requires.column in
    sym (ap length c.part.ensures ∙ omega (arith, length-take (length words.result.now) (drop (c.args.column * length words.result.now) c.args.pairs.partners.now), length-drop (c.args.column * length words.result.now) c.args.pairs.partners.now, within))

pub returns : goal.returns
returns c is =
    let found = c.args.pairs.found in
    let words = c.words_at-words in
    pair_inside found.table.now.supports found.outer.now found.list.now c.args.pairs.partners.now words.result.now c.args.place c.args.column c.requires.partners words.ensures.words
    (words.ensures.words.count ∙ ap (λ n. (n + 63) / 64) (words.ensures.width ∙ sym found.columns)) c.requires.column
    (subst (HaveCommon words.result.now) c.part.ensures (c.have_common.ensures.0 is))
