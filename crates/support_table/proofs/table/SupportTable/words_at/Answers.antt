use Rattle.std.proofs.Common.{◌<◌, length, ap, arith}
use Rattle.support_table.proofs.TableLemmas.{count_of, part_within, words_of_place, width_of_place}
use Rattle.support_table.proofs.table.SupportTable.words_at.Goals as goal

pub overflow_mul-place : goal.overflow_mul-place
overflow_mul-place c =
    let less : c.args.place < c.self.inside.count = omega (arith, count_of _ _ _ _ _ c.self.view_is, c.requires) in
    let within = part_within c.args.place c.self.inside.count c.self.inside.width less in
    omega (arith, c.self.invariant.spelled.total, ap length c.deref.ensures.value, c.deref.type_inv)

pub part-requires : goal.part-requires
part-requires c =
    let less : c.args.place < c.self.inside.count = omega (arith, count_of _ _ _ _ _ c.self.view_is, c.requires) in
    let within = part_within c.args.place c.self.inside.count c.self.inside.width less in
    omega (arith, c.self.invariant.spelled.total, ap length c.deref.ensures.value)

pub returns-clause-words : goal.returns-clause-words
returns-clause-words c =
    let less : c.args.place < c.self.inside.count = omega (arith, count_of _ _ _ _ _ c.self.view_is, c.requires) in
    rw (c.part.ensures, c.deref.ensures.value) (words_of_place _ _ _ _ _ c.args.place c.self.invariant.spelled c.self.view_is less)

pub returns-clause-width : goal.returns-clause-width
returns-clause-width c =
    let less : c.args.place < c.self.inside.count = omega (arith, count_of _ _ _ _ _ c.self.view_is, c.requires) in
    width_of_place _ _ _ _ _ c.args.place c.self.view_is less
