use Rattle.std.proofs.Common.{◌<◌, [], inl, inr, ⊎_elim, get_or, subst, sym, ◌∙◌}
use Rattle.std.proofs.lemmas.Bool.{false≢true, ltb-true, lt-ltb}
use Rattle.support_table.proofs.TableLemmas.{common_iff, short_words}
use Rattle.ray_steps.proofs.NegativeLemmas.{same_words}
use Rattle.ray_steps.proofs.negatives.is_excluded.Goals as goal

pub have_common-requires : goal.have_common-requires
have_common-requires c =
    same_words (get_or c.args.search.table.now.supports c.args.place []) c.args.search.joined.now c.words_at-words.result.now c.words.result.now c.words_at-words.ensures.words c.words.ensures
    (c.words_at-words.ensures.width ∙ sym c.args.search.second)

pub union_count-requires-clause-lengths : goal.union_count-requires-clause-lengths
union_count-requires-clause-lengths c =
    same_words (get_or c.args.search.table.now.supports c.args.place []) c.args.search.support.now c.words_at-words.result.now c.words-else-have_common.result.now c.words_at-words.ensures.words c.words-else-have_common.ensures
    (c.words_at-words.ensures.width ∙ sym c.args.search.first)

pub union_count-requires-clause-short : goal.union_count-requires-clause-short
union_count-requires-clause-short c = short_words c.args.search.support.now c.words-else-have_common.result.now c.columns-columns.result c.words-else-have_common.ensures c.columns-columns.ensures c.columns-columns.type_inv

pub returns-then-have_common : goal.returns-then-have_common
returns-then-have_common c =
    let common = common_iff (get_or c.args.search.table.now.supports c.args.place []) c.args.search.joined.now c.words_at-words.result.now c.words.result.now c.words_at-words.ensures.words c.words.ensures in
    (λ is. inl (common.0 (c.have_common.ensures.0 is)), λ far. c.if-have_common.true)

pub returns-else-have_common : goal.returns-else-have_common
returns-else-have_common c =
    let support = get_or c.args.search.table.now.supports c.args.place [] in
    let common = common_iff support c.args.search.joined.now c.words_at-words.result.now c.words.result.now c.words_at-words.ensures.words c.words.ensures in
    let count = c.union_count.ensures c.args.search.support.now support c.words-else-have_common.ensures c.words_at-words.ensures.words (c.args.search.first ∙ sym c.words_at-words.ensures.width) in (
      λ is. inr (subst (λ n. c.args.search.most < n) count (ltb-true c.args.search.most c.union_count.result is)),
      λ far. ⊎_elim
          (λ meets. absurd (false≢true (sym c.if-have_common.false ∙ c.have_common.ensures.1 (common.1 meets))))
          (λ more. lt-ltb c.args.search.most c.union_count.result (subst (λ n. c.args.search.most < n) (sym count) more))
          far,
    )
