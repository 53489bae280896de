use Rattle.std.proofs.Common.{sym, ap, ◌∙◌, arith}
use Rattle.support_table.proofs.BlockLemmas.{blocks_push}
use Rattle.support_table.proofs.TableLemmas.{count_of, table_push, view_push}
use Rattle.support_table.proofs.table.SupportTable.push_from.Goals as goal

pub overflow_add-self : goal.overflow_add-self
overflow_add-self c = omega (arith, count_of _ _ _ _ _ c.self.view_is, c.requires.room)

pub invariant_of-self-2 : goal.invariant_of-self-2
invariant_of-self-2 c =
    let is = c.self.view_is in
    let wide = c.words_at.ensures.width ∙ c.requires.columns ∙ sym (ap (λ t. t.columns) is) in
    rw c.in_ok-extend_from_slice.ensures.items record {
      spelled = table_push _ _ _ _ _ _ c.self.invariant.spelled c.words_at.ensures.words wide;
      common = blocks_push _ _ _ _ _ _ c.self.invariant.common c.self.invariant.spelled.total;
      grouped = c.self.invariant.grouped;
    }

pub returns-clause-pushed : goal.returns-clause-pushed
returns-clause-pushed c =
    let is = c.self.view_is in
    let wide = c.words_at.ensures.width ∙ c.requires.columns ∙ sym (ap (λ t. t.columns) is) in
    view_push _ _ _ _ _ _ _ _ c.self.invariant.spelled c.words_at.ensures.words wide is c.in_ok-extend_from_slice.ensures.items
