use Rattle.std.proofs.Common.{get_or}
use Rattle.support_table.proofs.SingleLemmas.{none_in_first}
use Rattle.support_table.proofs.singles.singles_of.Goals as goal

pub add_singles-requires-clause-separate : goal.add_singles-requires-clause-separate
add_singles-requires-clause-separate c b one =
    let ray = get_or c.args.near.now c.loop-ray.ray-index (record { place = 0; clash = 0; two = 0 }) in
    none_in_first ray.clash ray.two b one
