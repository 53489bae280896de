use Rattle.std.proofs.Common.{sym, ◌∙◌}
use Rattle.support_table.proofs.TableLemmas.{same_count, short_words}
use Rattle.support_table.proofs.table.SupportTable.union_count.Goals as goal

pub union_count-requires-clause-lengths : goal.union_count-requires-clause-lengths
union_count-requires-clause-lengths c = sym (same_count _ _ _ _ c.words_at.ensures.words c.words.ensures (c.requires.columns ∙ sym c.words_at.ensures.width))

pub union_count-requires-clause-short : goal.union_count-requires-clause-short
union_count-requires-clause-short c = short_words _ _ _ c.words.ensures c.columns-columns.ensures c.columns-columns.type_inv

pub returns-clause-value : goal.returns-clause-value
returns-clause-value c = c.union_count.ensures _ _ c.words.ensures c.words_at.ensures.words (c.requires.columns ∙ sym c.words_at.ensures.width)

pub returns-clause-width : goal.returns-clause-width
returns-clause-width c = c.words_at.ensures.width
