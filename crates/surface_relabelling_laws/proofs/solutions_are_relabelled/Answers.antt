-- The lemmas are the laws.
use Rattle.surface_relabelling_laws.proofs.AllCoordinates.{vectors_relabelled, solutions_relabelled, admissible_relabelled}
use Rattle.surface_relabelling_laws.proofs.solutions_are_relabelled.Goals as goal

pub returns : goal.returns
returns c = record {
  vectors = λ coords rows new by ys relabels w. vectors_relabelled rows new by relabels coords ys w;
  solutions = λ coords rows new by equations others xs are. solutions_relabelled coords rows new by equations others are xs;
  admissible = λ coords rows new by xs relabels w. admissible_relabelled rows new by relabels coords xs w;
}
