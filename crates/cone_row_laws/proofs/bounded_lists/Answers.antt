-- The lemmas are the laws.
use Rattle.cone_row_laws.proofs.Listings.{listed, not_past}
use Rattle.cone_row_laws.proofs.bounded_lists.Goals as goal

pub returns : goal.returns
returns c = record { listed = listed; none = not_past }
