use Rattle.std.proofs.Common.{refl, subst}
use Rattle.support_table.specs.Masks.{AreByteMasks}
use Rattle.support_table.specs.Outside.{AreByteOutsides}
use Rattle.support_table.specs.Residuals.{support_at}
use Rattle.support_table.proofs.NearLemmas.{low_is_set, byte_count, near_if_all, near_if_common, near_if_some}
use Rattle.support_table.proofs.near.near_at.Goals as goal

pub returns-then-have_common : goal.returns-then-have_common
returns-then-have_common c clashing lacking _ _ full =
    let tables = c.args.tables in
    near_if_common clashing lacking tables.table.now.supports tables.count c.args.place c.words_at-words.result.now tables.common.now c.words_at-words.ensures.words full
    (c.have_common.ensures.0 c.if-have_common.true)

pub returns-then-clash-low : goal.returns-then-clash-low
returns-then-clash-low c clashing lacking masks _ _ =
    let tables = c.args.tables in
    let supports = tables.table.now.supports in
    let words = c.words_at-words in
    let bytes = byte_count (support_at supports c.args.place) words.result.now tables.table.now.columns words.ensures.words words.ensures.width in
    let mark = c.mask_of-clash.ensures clashing (support_at supports c.args.place) (subst (λ n. AreByteMasks clashing n tables.clashing.now) bytes masks) words.ensures.words in
    near_if_all clashing lacking supports tables.count c.args.place
    (λ b less fits. (mark b).0 (low_is_set c.mask_of-clash.result c.low_bits-low.result b c.if-clash-low.true ((c.low_bits-low.ensures b fits).1 less)))

pub returns : goal.returns
returns c clashing lacking masks outsides _ =
    let tables = c.args.tables in
    let supports = tables.table.now.supports in
    let words = c.words_at-words in
    let support = support_at supports c.args.place in
    let bytes = byte_count support words.result.now tables.table.now.columns words.ensures.words words.ensures.width in
    near_if_some clashing lacking supports tables.count c.args.place (record { place = c.args.place; clash = c.mask_of-clash.result; two = c.two_of.result }) refl
    (c.mask_of-clash.ensures clashing support (subst (λ n. AreByteMasks clashing n tables.clashing.now) bytes masks) words.ensures.words)
    (c.two_of.ensures lacking support (subst (λ n. AreByteOutsides lacking n tables.lacking.now) bytes outsides) words.ensures.words)
