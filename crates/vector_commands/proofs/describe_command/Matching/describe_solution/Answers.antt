-- An admissible solution is a surface.
use Rattle.std.proofs.Common.{rules}
use Rattle.vector_commands.proofs.DiscEquations.{surface_of}
use Rattle.vector_commands.proofs.describe_command.Matching.describe_solution.Goals as goal

pub properties_of-requires-clause-width : goal.properties_of-requires-clause-width
properties_of-requires-clause-width c =
    (surface_of c.args.self.now.coords.system c.args.self.now.skeleton.now.rows c.args.self.now.system.now.rows c.args.x.now c.args.self.now.coords.triangles c.args.self.now.table c.args.self.now.equations c.requires).solves.width

pub build-requires-clause-surface : goal.build-requires-clause-surface
build-requires-clause-surface c =
    surface_of c.args.self.now.coords.system c.args.self.now.skeleton.now.rows c.args.self.now.system.now.rows c.args.x.now c.args.self.now.coords.triangles c.args.self.now.table c.args.self.now.equations c.requires
