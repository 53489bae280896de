use Rattle.std.proofs.Common.{subst, sym}
use Rattle.cone_definitions.specs.Unordered.{HasSurfaces}
use Rattle.lazy_columns.proofs.SortedSurfaces.{sorted_surfaces}
use Rattle.lazy_columns.proofs.engine.ascending.Goals as goal

pub returns : goal.returns
returns c columns rows pairs h =
    sorted_surfaces columns rows pairs c.in_ok-rays.rays.items c.sort.new.rays.items
    (subst (HasSurfaces columns rows pairs) (sym c.in_ok-rays.ensures) h) c.sort.ensures.permutation c.in_ok-sort.ensures.sorted
