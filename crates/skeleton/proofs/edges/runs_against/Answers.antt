use Rattle.std.specs.Prelude.{◌==◌, slice_index}
use Rattle.skeleton_class_laws.specs.Directions.{runs_against}
use Rattle.skeleton.proofs.edges.runs_against.Goals as goal

pub returns : goal.returns
unfolding runs_against
returns c = λ i. slice_index c.args.directions.now (c.forward.ensures i) == slice_index c.args.directions.now (c.backward.ensures i)
