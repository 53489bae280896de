-- Partial tables: the first entries of rows, the last of which may be cut off.
use Rattle.std.specs.Prelude.{◌≡◌, ℕ, ◌<◌, ◌≤◌, Bool, true, not, List, [], length, nat_lt, Some, IsTrue, All}
use Rattle.std.specs.List.{slice_index_or}
use Rattle.table_definitions.specs.Permutation.{IsPermutationOfFour}
use Rattle.table_definitions.specs.Table.{max_tets, Gluing, Row, Face, glue, other_side, inverse_gluing, same_face, IsTable}

-- whether the entry of a face is one of them
abbrev pub is_given : List Row → Face → Bool
is_given rows x = nat_lt x.face (length (slice_index_or rows x.tet []))

-- They are glued soundly so far: each face that is glued reaches another face of n tetrahedra, which is glued back by
-- the inverse if its entry is given too; and no two reach one face.
pub record IsPartialTable (n : ℕ) (rows : List Row) : Type 0 where
  pub limited : n ≤ max_tets
  pub many : length rows ≤ n
  pub four_faces : All (λ (row : Row). length row ≤ 4) rows
  pub permutes : (x : Face) (g : Gluing) → glue rows x ≡ Some g → IsPermutationOfFour g.perm
  pub in_range : (x : Face) (g : Gluing) → glue rows x ≡ Some g → g.tet < n
  pub separate : (x : Face) (g : Gluing) → glue rows x ≡ Some g → IsTrue (not (same_face (other_side x g) x))
  pub leads_back : (x : Face) (g : Gluing) → glue rows x ≡ Some g → is_given rows (other_side x g) ≡ true → glue rows (other_side x g) ≡ Some (inverse_gluing x g)
  pub one_each : (x z : Face) (g h : Gluing) → glue rows x ≡ Some g → glue rows z ≡ Some h → other_side x g ≡ other_side z h → x ≡ z

-- a table of n tetrahedra in which the faces are glued as their entries say
pub record Completes (n : ℕ) (rows table : List Row) : Type 0 where
  pub is_table : IsTable table
  pub count : length table ≡ n
  pub many : length rows ≤ n
  pub four_faces : All (λ (row : Row). length row ≤ 4) rows
  pub agrees : (x : Face) → is_given rows x ≡ true → glue table x ≡ glue rows x
