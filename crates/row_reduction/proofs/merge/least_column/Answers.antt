use Rattle.std.proofs.Common.{rules}
use Rattle.row_reduction.proofs.PlaceLemmas.{least_of_both}
use Rattle.row_reduction.proofs.merge.least_column.Goals as goal

pub returns : goal.returns
returns c = least_of_both _ _ _ _ _ _ c.requires.left c.args.pair.now.in_range c.args.pair.now.other_in_range (search rules)
