-- The lemmas are the laws.
use Rattle.move_link_laws.proofs.ClosedCurves.{closed_without_curves}
use Rattle.move_link_laws.proofs.Curves.{boundary_curves_agree}
use Rattle.move_link_laws.proofs.CurvesExist.{some_boundary_curves}
use Rattle.move_link_laws.proofs.boundary_curves_are_counted.Goals as goal

pub returns : goal.returns
returns c = record { exist = some_boundary_curves; one = boundary_curves_agree; closed = closed_without_curves }
