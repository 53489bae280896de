-- Each equation belongs to a class, and two quads clash if and only if they clash in quad coordinates.
use Rattle.surface_laws.proofs.LiftLemmas.{lift_solves, lift_projects, quads_admissible}
use Rattle.surface_laws.proofs.lifts_are_surfaces.Goals as goal
use Rattle.std.proofs.Common.{◌≡◌, length}
use Rattle.surface_definitions.specs.Lift.{projected}

pub returns : goal.returns
returns c = λ s xs ys k w f.
    let projects : projected (length s.rows) ys ≡ xs = lift_projects s.rows k.table s.vertices.classes s.vertices.count k.vertices xs ys w f in
    record {
      solves = lift_solves s.rows k.table s.vertices.classes s.vertices.count k.vertices xs ys f;
      admissible = quads_admissible (length s.rows) xs ys projects;
      projects = projects;
    }
