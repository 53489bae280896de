-- A vector that is accepted is a surface.
use Rattle.std.proofs.Common.{sym, ◌∙◌, subst, List}
use Rattle.table_definitions.specs.Table.{Row}
use Rattle.surface_definitions.specs.declared.Coords.TheVariants.{Standard}
use Rattle.surface_vector_definitions.specs.Answers.{IsFit}
use Rattle.surface_laws.proofs.FitSurfaces.{surface_is}
use Rattle.worked_cones.proofs.surface_pieces_calls.pieces_of.Goals as goal

pub build-requires-clause-surface : goal.build-requires-clause-surface
build-requires-clause-surface c =
    surface_is Standard c.args.skeleton.now.rows c.in_ok-system.system.rows c.args.x.now (λ e. cc) c.table.ensures.skeleton.table c.in_ok-system.ensures.equations
    (subst (λ (rows : List Row). IsFit Standard rows c.in_ok-system.system.rows c.args.x.now) c.table.ensures.rows (sym c.check.ensures.verdict ∙ c.in-Ok.is))
