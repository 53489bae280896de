-- The skeleton has the rows of the table, which has one tetrahedron and no glued face.
use Rattle.std.proofs.Common.{◌≡◌, ◌∙◌, sym, subst, List, rules}
use Rattle.table_definitions.specs.Table.{Row, IsTable}
use Rattle.worked_cones.proofs.FreeTetrahedron.{free, free_surface}
use Rattle.worked_cones.proofs.surface_pieces_calls.pieces_that_meet_none_are_components.Goals as goal

pub build-requires-clause-surface : goal.build-requires-clause-surface
build-requires-clause-surface g c =
    let made : (c.expect-skeleton.result).rows ≡ c.in-Ok.table = search rules in
    let given : c.in-Ok.table ≡ free = search rules in
    let table : IsTable free = search rules in
    free_surface _ (made ∙ given) (subst IsTable (sym (made ∙ given)) table)
