-- Traversals from a start, and the relabelling from one table to another that `same` prints.
use Rattle.std.specs.Prelude.{◌≡◌, ℕ, Bool, false, ◌&&◌, ◌||◌, List, length, nat_lt, ◌==◌}
use Rattle.table_definitions.specs.Permutation.{index}
use Rattle.table_definitions.specs.Table.{Gluing, Row}
use Rattle.table_definitions.specs.Relabelling.{Relabelling, IsRelabelling, Carries, relabelled_place}
use Rattle.signature_definitions.specs.WalkOrder.{IsWalkOrdered}

-- a tetrahedron, and the new vertex of each of its vertices
pub record Start : Type 0 where
  pub tet : ℕ
  pub perm : List ℕ

-- the relabelling takes the start's tetrahedron to 0, by the start's permutation
abbrev pub BeginsAt : Relabelling → Start → Type 0
BeginsAt by start = relabelled_place by start.tet ≡ record { tet = 0; perm = start.perm }

-- the relabelling carries the first table to the second
abbrev pub Relabels : List Row → List Row → Relabelling → Type 0
Relabels first second by = IsRelabelling (length first) by × Carries by first second

-- the relabelling begins at the start, and carries the table to a walk-ordered one
pub record IsWalked (rows : List Row) (start : Start) (by : Relabelling) (new : List Row) : Type 0 where
  pub relabels : Relabels rows new by
  pub begins : BeginsAt by start
  pub ordered : IsWalkOrdered new

-- whether s comes before r: by the tetrahedron, and then by the index of the permutation
abbrev pub is_image_before : Gluing → Gluing → Bool
is_image_before s r = nat_lt s.tet r.tet || ((s.tet == r.tet) && nat_lt (index s.perm) (index r.perm))

-- of the relabellings that carry the first table to the second, none puts an earlier one in tetrahedron 0's place
pub record IsLeastRelabelling (first second : List Row) (by : Relabelling) : Type 0 where
  pub relabels : Relabels first second by
  pub least : (other : Relabelling) → Relabels first second other → is_image_before (relabelled_place other 0) (relabelled_place by 0) ≡ false
