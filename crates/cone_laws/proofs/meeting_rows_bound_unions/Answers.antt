-- The lemmas are the laws.
use Rattle.cone_laws.proofs.Bound.{enough_bound}
use Rattle.cone_laws.proofs.Meeting.{meeting_bound, meeting_pair_bound}
use Rattle.cone_laws.proofs.Places.{meeting_third_place}
use Rattle.cone_laws.proofs.Cut.{step_adds_row}
use Rattle.cone_laws.proofs.meeting_rows_bound_unions.Goals as goal

pub returns : goal.returns
returns c = record { enough = enough_bound; faces = meeting_bound; pairs = meeting_pair_bound; third = meeting_third_place; steps = step_adds_row }
