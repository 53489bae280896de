-- The lemmas are the laws.
use Rattle.cone_laws.proofs.Cut.{units_of_no_row, flat_keeps, step_needs_one, pair_of_few, third_of_few, pair_by_cuts}
use Rattle.cone_laws.proofs.cuts_bound_unions.Goals as goal

pub returns : goal.returns
returns c = record { first = units_of_no_row; flat = flat_keeps; cut = step_needs_one; pairs = pair_of_few; third = third_of_few; lists = pair_by_cuts }
