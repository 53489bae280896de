-- Signs of the tetrahedra that agree with the gluings.
use Rattle.std.specs.Prelude.{◌≡◌, ℕ, ◌<◌, Bool, true, false, not, List, length, Some, if◌then◌else◌}
use Rattle.std.specs.List.{slice_index_or}
use Rattle.table_definitions.specs.Permutation.{is_odd}
use Rattle.table_definitions.specs.Table.{Gluing, Row, Face, glue}
use Rattle.table_definitions.specs.Places.{SameComponent}

-- the sign of tetrahedron t
abbrev pub sign_of : List Bool → ℕ → Bool
sign_of signs t = slice_index_or signs t false

-- the sign across a gluing: the same if the gluing is odd, the other one if it is even
abbrev pub sign_across : Gluing → Bool → Bool
sign_across g s = if is_odd g.perm then s else not s

-- one sign for each tetrahedron, which stays across odd gluings and changes across even ones
pub record AreSigns (rows : List Row) (signs : List Bool) : Type 0 where
  pub one_each : length signs ≡ length rows
  pub agree : (x : Face) (g : Gluing) → glue rows x ≡ Some g → sign_of signs g.tet ≡ sign_across g (sign_of signs x.tet)

abbrev pub IsOrientable : List Row → Type 0
IsOrientable rows = (signs : List Bool) × AreSigns rows signs

-- the sign is true at the least tetrahedron of each component
abbrev pub StartTrue : List Row → List Bool → Type 0
StartTrue rows signs = (t : ℕ) → t < length rows → ((u : ℕ) → u < t → SameComponent rows u t → ⊥) → sign_of signs t ≡ true
