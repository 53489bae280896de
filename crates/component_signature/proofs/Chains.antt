-- Paths of neighbours are chains of gluings.
use Rattle.std.proofs.Common.{ℕ, List, subst}
use Rattle.std.specs.Prelude.{◌↔◌, Contains}
use Rattle.table_definitions.specs.Table.{Row, other_side, inverse_gluing, IsTable}
use Rattle.table_definitions.specs.Places.{whole, SameComponent}
use Rattle.table_walk_laws.specs.Joined as walks
use Rattle.table_walk_laws.specs.Joined.{IsSymmetric}
use Rattle.gluing_table.proofs.Chains.{neighbours, behind_a_face, is_neighbour, path_joins, along_leads}

-- neighbours are mutual
pub symmetric : (rows : List Row) → IsTable rows → IsSymmetric (neighbours rows)
symmetric rows table x y c =
    let b = behind_a_face rows x y c in
    let back = table.leads_back (record { tet = x; face = b.0 }) b.1 b.2 in
    subst (λ t. Contains (neighbours rows t) x) b.3 (is_neighbour rows b.1.tet (other_side (record { tet = x; face = b.0 }) b.1).face (inverse_gluing (record { tet = x; face = b.0 }) b.1) back)

-- tetrahedra are joined by neighbours if and only if they are joined by gluings
pub joined_same : (rows : List Row) (t u : ℕ) → walks.IsJoined (neighbours rows) t u ↔ SameComponent rows t u
joined_same rows t u = (λ j. path_joins rows j.0 t u j.1, λ j. along_leads rows j.0 t (whole u) j.1)
