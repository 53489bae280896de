use Rattle.std.proofs.Common.{sym, ◌∙◌}
use Rattle.support_table.proofs.TableLemmas.{covered_iff, same_count}
use Rattle.support_table.proofs.table.SupportTable.is_inside.Goals as goal

pub are_covered-requires-clause-first : goal.are_covered-requires-clause-first
are_covered-requires-clause-first c = same_count _ _ _ _ c.words_at.ensures.words c.words.ensures (c.requires.columns ∙ sym c.words_at.ensures.width)

pub are_covered-requires-clause-second : goal.are_covered-requires-clause-second
are_covered-requires-clause-second c = same_count _ _ _ _ c.words_at.ensures.words c.words_at-2.ensures.words (c.words_at-2.ensures.width ∙ sym c.words_at.ensures.width)

pub returns : goal.returns
returns c =
    let f = covered_iff _ _ _ _ _ _ c.words_at.ensures.words c.words.ensures c.words_at-2.ensures.words in
    (λ h. f.0 (c.are_covered.ensures.0 h), λ h. c.are_covered.ensures.1 (f.1 h))
