use Rattle.std.proofs.Common.{◌-◌, get_or, subst, sym, ◌∙◌, arith}
use Rattle.std.proofs.lemmas.List.{get_or_default}
use Rattle.support_table.specs.Residuals.{support_at}
use Rattle.support_table.specs.Singles.{AreSingles}
use Rattle.support_table.proofs.GroupLemmas.{group_from_words}
use Rattle.support_table.proofs.SingleLemmas.{singles_set, single_in_copy}
use Rattle.support_table.proofs.singles.add_single.Goals as goal

pub returns-then-group-gt0-clause-singles : goal.returns-then-group-gt0-clause-singles
returns-then-group-gt0-clause-singles c =
    let ray = c.args.ray in
    let part = c.args.part.now in
    let supports = ray.rays.now.supports in
    let outer = ray.support.now in
    let k = c.args.k in
    let place = get_or part.places.items k 0 in
    let copy = support_at part.table.supports k in
    let column = c.group_of-group.result - 1 in
    let read = c.index.ensures ∙ get_or_default part.places.items k _ 0 c.requires.k in
    let column_is = group_from_words outer copy c.words_at.result.now c.words.result.now c.group_of-group.result c.words_at.ensures.words c.words.ensures c.group_of-group.ensures column (omega (arith, c.if-group-gt0.true)) in
    subst (AreSingles supports outer ray.joined.now ray.own ray.most) (sym c.insert.ensures)
    (singles_set supports outer ray.joined.now ray.own ray.most c.args.single.now column c.requires.singles
    (single_in_copy supports outer ray.joined.now ray.own ray.most copy place column c.union_count-size.result c.single_size.result (c.requires.copied.each k 0 c.requires.k) (c.requires.in_range k 0 c.requires.k)
    (λ own. c.if-index-ray.false (read ∙ own)) c.requires.separate (c.union_count-size.ensures.width ∙ c.requires.copied.columns ∙ sym ray.columns) c.union_count-size.ensures.value c.if-size-ray.false c.if-size-single_size.false c.single_size.ensures column_is))
