-- What a group stores.
use Rattle.std.specs.Prelude.{◌≡◌, ℕ, ◌<◌, ◌^◌, ◌↔◌, Bool, List, length, Option, None, Vec}
use Rattle.std.specs.List.{slice_index_or}
use Rattle.std.specs.declared.alloc.Global.{Global}
use Rattle.table_definitions.specs.Table.{Face}
use Rattle.presentation_definitions.specs.declared.Letter.{Letter}

-- one sign for each generator, one relator for each edge, and a tree face for each tetrahedron but the first
pub record IsKept (tree : List (Option Face)) (generators : List ℕ) (turning : List Bool) (edges : List ℕ) (relators : List (List Letter)) : Type 0 where
  pub limited : length generators < 2 ^ 32
  pub signs : length turning ≡ length generators
  pub bounded_edges : length edges < 2 ^ 32
  pub one_each : length relators ≡ length edges
  pub root : (t : ℕ) → t < length tree → (slice_index_or tree t None ≡ None) ↔ (t ≡ 0)

-- the letters of a stored list
abbrev pub letters_of : Vec Letter Global → List Letter
letters_of v = v.items
