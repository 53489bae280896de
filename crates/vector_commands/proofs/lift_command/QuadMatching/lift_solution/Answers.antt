-- An admissible solution has one entry for each quad.
use Rattle.surface_definitions.specs.declared.Coords.TheVariants.{Quad}
use Rattle.surface_laws.proofs.FitSurfaces.{fit_accepted}
use Rattle.vector_commands.proofs.lift_command.QuadMatching.lift_solution.Goals as goal

pub lift-requires : goal.lift-requires
lift-requires c = (fit_accepted Quad c.args.self.now.skeleton.now.rows c.args.self.now.system.now.rows c.args.x.now c.requires).solves.width
