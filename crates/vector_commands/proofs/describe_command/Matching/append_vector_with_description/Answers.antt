-- A vector with a description has components within the limit.
use Rattle.vector_commands.proofs.DescribedSurfaces.{small_components}
use Rattle.vector_commands.proofs.DiscEquations.{surface_of}
use Rattle.vector_commands.proofs.describe_command.Matching.append_vector_with_description.Goals as goal

pub invariant_of-described : goal.invariant_of-described
invariant_of-described c = record {
  whole = c.in_ok-description.ensures.2.1;
  small = small_components c.args.self.now.skeleton.now c.args.self.now.coords.system c.args.x.now c.in_ok-description.description.pieces
      (surface_of c.args.self.now.coords.system c.args.self.now.skeleton.now.rows c.args.self.now.system.now.rows c.args.x.now c.args.self.now.coords.triangles c.args.self.now.table c.args.self.now.equations c.in_ok-description.ensures.0).solves.width
      c.in_ok-description.ensures.2.0 c.in_ok-description.ensures.3.1;
}
