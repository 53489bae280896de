use Rattle.std.proofs.Common.{◌+◌, ◌-◌, ◌*◌, ◌/◌, ◌%◌, ◌^◌, length, bit_or, set, sym, ap, ◌∙◌, arith}
use Rattle.std.proofs.lemmas.Grind.{get_or_default_zero}
use Rattle.std.proofs.lemmas.List.Elements.{All-contains}
use Rattle.support_table.specs.Candidates.{HasUnionSize}
use Rattle.support_table.specs.Residuals.{support_at}
use Rattle.support_table.proofs.GroupLemmas.{group_from_words}
use Rattle.support_table.proofs.PairLemmas.{place_within, place_fits, words_less, pair_from, partners_set}
use Rattle.support_table.proofs.pairs.add_pair.Goals as goal

pub overflow_add-last : goal.overflow_add-last
overflow_add-last c =
    let found = c.args.found in
    let s = support_at found.table.now.supports c.args.candidate.place in
    let words = c.words_at-words in
    let outside = c.words-outside in
    let last = c.group_of-last in
    let group = group_from_words found.outer.now s words.result.now outside.result.now last.result words.ensures.words outside.ensures last.ensures in
    let fits = place_fits found.table.now.supports found.outer.now found.list.now words.result.now c.args.candidate.place last.result c.first_of-first.result (omega (arith, c.columns-columns.ensures, c.columns-columns.type_inv))
    words.ensures.words (words.ensures.width ∙ sym found.columns) group (omega (arith, c.if-first-gt0.true)) c.if-first-last.true in
    omega (arith, fits)

pub index_mut-requires : goal.index_mut-requires
index_mut-requires c =
    let found = c.args.found in
    let s = support_at found.table.now.supports c.args.candidate.place in
    let words = c.words_at-words in
    let outside = c.words-outside in
    let last = c.group_of-last in
    let group = group_from_words found.outer.now s words.result.now outside.result.now last.result words.ensures.words outside.ensures last.ensures in
    let within = place_within found.table.now.supports found.outer.now found.list.now c.args.partners.now.items words.result.now c.args.candidate.place last.result c.first_of-first.result c.requires.partners.count
    words.ensures.words (words.ensures.width ∙ sym found.columns) group (omega (arith, c.if-first-gt0.true)) c.if-first-last.true in
    omega (arith, within, c.args.partners.now.ok.0)

pub returns-then-first-last : goal.returns-then-first-last
returns-then-first-last c =
    let found = c.args.found in
    let supports = found.table.now.supports in
    let outer = found.outer.now in
    let list = found.list.now in
    let r = c.args.candidate in
    let s = support_at supports r.place in
    let words = c.words_at-words in
    let outside = c.words-outside in
    let last = c.group_of-last in
    let first = c.first_of-first in
    let partners = c.args.partners.now.items in
    let place = (last.result - 1) * length words.result.now + (first.result - 1) / 64 in
    let wide = words.ensures.width ∙ sym found.columns in
    let width = words.ensures.words.count ∙ ap (λ n. (n + 63) / 64) wide in
    let group = group_from_words outer s words.result.now outside.result.now last.result words.ensures.words outside.ensures last.ensures in
    let other = group_from_words outer s words.result.now outside.result.now first.result words.ensures.words outside.ensures first.ensures in
    let within = place_within supports outer list partners words.result.now r.place last.result first.result c.requires.partners.count words.ensures.words wide group (omega (arith, c.if-first-gt0.true)) c.if-first-last.true in
    partners_set supports outer list partners _ (last.result - 1) (first.result - 1) place c.requires.partners
    (pair_from supports outer list r (last.result - 1) (first.result - 1) c.requires.listed c.requires.size (All-contains (HasUnionSize supports outer) list r found.sized c.requires.listed) wide
    (group (last.result - 1) (omega (arith, c.if-first-last.true))) (other (first.result - 1) (omega (arith, c.if-first-gt0.true))) (omega (arith, c.if-first-gt0.true, c.if-first-last.true)))
    (words_less supports outer list words.result.now r.place last.result first.result words.ensures.words wide group (omega (arith, c.if-first-gt0.true)) c.if-first-last.true)
    (ap (λ w. (last.result - 1) * w + (first.result - 1) / 64) width)
    (ap (λ m. set partners place (bit_or m (1 * 2 ^ ((first.result - 1) % 64) % 2 ^ 64))) (c.index_mut.ensures.value ∙ get_or_default_zero partners place _ within))
