-- When rows of a table can be removed and new rows inserted.
use Rattle.std.specs.Prelude.{count_by, nat_lt, option_and_then, ◌≡◌, ℕ, ◌<◌, ◌≤◌, true, false, not, List, length, map, Option, Some, None, All, IsTrue}
use Rattle.std.specs.List.{slice_index_or}
use Rattle.std.specs.List.Sorted.{IsStrictlyIncreasing}
use Rattle.table_definitions.specs.Lists.{has, first_some}
use Rattle.table_definitions.specs.Permutation.{four, IsPermutationOfFour}
use Rattle.table_definitions.specs.Table.{max_tets, Gluing, Row, Face, glue, other_side, inverse_gluing, same_face}
use Rattle.table_definitions.specs.Replacing.{Replacement, replaced_length, number_of_kept, fresh_row, inverse_if_reached}

-- the numbers of rows that have numbers
abbrev pub numbers_of : List (ℕ × Row) → List ℕ
numbers_of rows = map (λ (x : ℕ × Row). x.0) rows

-- how many numbers of the list come before t
abbrev pub gone_before : List ℕ → ℕ → ℕ
gone_before gone t = count_by (λ u. nat_lt u t) gone

-- the inverse, at face y, of the first gluing of a numbered row that reaches y
abbrev pub row_back : Face → ℕ × Row → Option Gluing
row_back y x = first_some (λ f. option_and_then (inverse_if_reached y (record { tet = x.0; face = f })) (slice_index_or x.1 f None)) four

-- the numbers of the new rows
abbrev pub fresh_numbers : Replacement → List ℕ
fresh_numbers r = map (λ (x : ℕ × Row). x.0) r.fresh

-- the gluing of a face of a new row
abbrev pub fresh_glue : Replacement → Face → Option Gluing
fresh_glue r x = slice_index_or (fresh_row r x.tet) x.face None

-- the tetrahedron of face y of the new table is kept, and the face led to a row that is taken out
pub record IsFreed (rows : List Row) (r : Replacement) (y : Face) : Type 0 where
  pub old : ℕ
  pub gluing : Gluing
  pub in_range : old < length rows
  pub is_kept : has r.removed old ≡ false
  pub number : number_of_kept rows r old ≡ y.tet
  pub glued : glue rows (record { tet = old; face = y.face }) ≡ Some gluing
  pub led_to_removed : has r.removed gluing.tet ≡ true

pub record CanReplace (rows : List Row) (r : Replacement) : Type 0 where
  -- both lists ascend, and the numbers are in range
  pub removed_ascend : IsStrictlyIncreasing r.removed
  pub removed_in_range : All (λ t. t < length rows) r.removed
  pub fresh_ascend : IsStrictlyIncreasing (fresh_numbers r)
  pub fresh_in_range : All (λ u. u < replaced_length rows r) (fresh_numbers r)
  pub limited : replaced_length rows r ≤ max_tets
  -- a new gluing is by a permutation, in range, and reaches another face
  pub four_faces : All (λ (x : ℕ × Row). length x.1 ≡ 4) r.fresh
  pub permutes : (x : Face) (g : Gluing) → fresh_glue r x ≡ Some g → IsPermutationOfFour g.perm
  pub in_range : (x : Face) (g : Gluing) → fresh_glue r x ≡ Some g → g.tet < replaced_length rows r
  pub separate : (x : Face) (g : Gluing) → fresh_glue r x ≡ Some g → IsTrue (not (same_face (other_side x g) x))
  -- between new rows it has an inverse, and in a retained row it reaches a face that was glued to a removed row
  pub leads_back : (x : Face) (g : Gluing) → fresh_glue r x ≡ Some g → has (fresh_numbers r) g.tet ≡ true → fresh_glue r (other_side x g) ≡ Some (inverse_gluing x g)
  pub freed : (x : Face) (g : Gluing) → fresh_glue r x ≡ Some g → has (fresh_numbers r) g.tet ≡ false → IsFreed rows r (other_side x g)
  -- and no two reach one face of a retained row
  pub one_each : (x z : Face) (g h : Gluing) → fresh_glue r x ≡ Some g → fresh_glue r z ≡ Some h → has (fresh_numbers r) g.tet ≡ false → other_side x g ≡ other_side z h → x ≡ z
