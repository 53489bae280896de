use Rattle.std.proofs.Common.{◌<◌, Contains, length, get_or, subst, sym}
use Rattle.std.specs.List.{All}
use Rattle.std.proofs.lemmas.List.Elements.{All-contains}
use Rattle.support_table.proofs.columns.common_column.Goals as goal

pub most_common-requires : goal.most_common-requires
most_common-requires c =
    let chosen = c.args.chosen.now in
    let outers = c.args.parting.search.outers.now in
    let some = subst (All (Contains chosen)) (sym c.deref.ensures.value) c.in_ok-sample.ensures in
    record { sample = λ k d within. All-contains (λ j. j < length outers) chosen (get_or c.deref.result.now k d) c.requires.chosen (some k d within) }
