-- The row that is written is that of the standard sphere.
use Rattle.std.proofs.Common.{List, [], ◌∷◌, ◌++◌, ap, ◌∙◌}
use Rattle.table_definitions.specs.Table.{Row}
use Rattle.sphere_certificate.proofs.SphereRow.{row_is}
use Rattle.sphere_certificate.proofs.sphere.sphere_rows.Goals as goal

pub returns : goal.returns
returns c =
    c.in_ok-push.ensures.items
    ∙ ap (λ (rows : List Row). rows ++ (c.to_itself.result ∷ c.to_itself-2.result ∷ c.to_itself-3.result ∷ c.to_itself-4.result ∷ []) ∷ []) c.in_ok-rows.ensures.items
    ∙ row_is c.to_itself.result c.to_itself-2.result c.to_itself-3.result c.to_itself-4.result c.to_itself.ensures c.to_itself-2.ensures c.to_itself-3.ensures c.to_itself-4.ensures
