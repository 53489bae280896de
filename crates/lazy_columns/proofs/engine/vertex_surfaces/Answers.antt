use Rattle.std.proofs.Common.{subst}
use Rattle.cone_definitions.specs.Surfaces.{IsSurfaceList}
use Rattle.lazy_columns.proofs.engine.vertex_surfaces.Goals as goal

pub returns-in-Ok-clause-some : goal.returns-in-Ok-clause-some
returns-in-Ok-clause-some g c =
    subst (λ columns. IsSurfaceList columns c.args.system.now.rows c.args.clashes.now.pairs c.in_ok-rays-in-Ok.rays.items) c.requires.columns
    (c.in_ok-rays-in-Ok.ensures c.args.clashes.now.columns c.args.system.now.rows c.args.clashes.now.pairs c.in-Ok.ensures.ok)
