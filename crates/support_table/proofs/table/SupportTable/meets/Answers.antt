use Rattle.std.proofs.Common.{sym, ◌∙◌}
use Rattle.support_table.proofs.TableLemmas.{common_iff, same_count}
use Rattle.support_table.proofs.table.SupportTable.meets.Goals as goal

pub have_common-requires : goal.have_common-requires
have_common-requires c = sym (same_count _ _ _ _ c.words_at.ensures.words c.words.ensures (c.requires.columns ∙ sym c.words_at.ensures.width))

pub returns : goal.returns
returns c =
    let f = common_iff _ _ _ _ c.words_at.ensures.words c.words.ensures in
    (λ h. f.0 (c.have_common.ensures.0 h), λ h. c.have_common.ensures.1 (f.1 h))
