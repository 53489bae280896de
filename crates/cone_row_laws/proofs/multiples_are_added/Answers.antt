-- The lemmas are the laws.
use Rattle.cone_row_laws.proofs.Sums.{multiple_added, appended_sum, appended_difference}
use Rattle.cone_row_laws.proofs.multiples_are_added.Goals as goal

pub returns : goal.returns
returns c = record { added = multiple_added; sum = appended_sum; difference = appended_difference }
