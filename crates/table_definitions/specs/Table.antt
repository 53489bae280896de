-- Gluing tables: a row for each tetrahedron, with what each of its faces 0 to 3 is glued by.
use Rattle.std.specs.Prelude.{◌≡◌, ℕ, ◌+◌, ◌*◌, ◌<◌, ◌≤◌, Bool, false, ◌&&◌, ◌||◌, not, List, [], length, map, ◌==◌, nat_lt, Option, Some, None, IsTrue, All, if◌then◌else◌}
use Rattle.std.specs.List.{slice_index_or}
use Rattle.table_definitions.specs.declared.TableFault.{TableFault}
use Rattle.table_definitions.specs.declared.TableFault.TheVariants.{TooMany, NoSuchTet, SelfGlued, NotMutual}
use Rattle.table_definitions.specs.Lists.{below, same_list, first_some, pairs_of}
use Rattle.table_definitions.specs.Permutation.{four, IsPermutationOfFour, image, inverse}

-- the greatest number of tetrahedra of a table
abbrev pub max_tets : ℕ
max_tets = 1000

-- the tetrahedron across a face, and the image of each vertex: the image of the vertex opposite the face is the vertex
-- opposite the face that is reached
pub record Gluing : Type 0 where
  pub tet : ℕ
  pub perm : List ℕ

-- what the four faces of a tetrahedron are glued by; nothing at a boundary face
abbrev pub Row : Type 0
Row = List (Option Gluing)

-- a face of a tetrahedron, which lies opposite the vertex of its number
pub record Face : Type 0 where
  pub tet : ℕ
  pub face : ℕ

-- what a face is glued by
abbrev pub glue : List Row → Face → Option Gluing
glue rows x = slice_index_or (slice_index_or rows x.tet []) x.face None

-- the number of a face, among all faces of a table
abbrev pub face_number : Face → ℕ
face_number x = 4 * x.tet + x.face

-- the face that the gluing g of the face x reaches
abbrev pub other_side : Face → Gluing → Face
other_side x g = record { tet = g.tet; face = image g.perm x.face }

-- the inverse gluing, to x
abbrev pub inverse_gluing : Face → Gluing → Gluing
inverse_gluing x g = record { tet = x.tet; perm = inverse g.perm }

-- all faces of n tetrahedra, ascending
abbrev pub faces : ℕ → List Face
faces n = map (λ p. record { tet = p.0; face = p.1 }) (pairs_of (below n) four)

abbrev pub same_face : Face → Face → Bool
same_face x y = (x.tet == y.tet) && (x.face == y.face)

abbrev pub is_face_before : Face → Face → Bool
is_face_before x y = nat_lt x.tet y.tet || ((x.tet == y.tet) && nat_lt x.face y.face)

-- each glued face reaches a face in range other than itself, which is glued back by the inverse
pub record IsTable (rows : List Row) : Type 0 where
  pub limited : length rows ≤ max_tets
  pub four_faces : All (λ (row : Row). length row ≡ 4) rows
  pub permutes : (x : Face) (g : Gluing) → glue rows x ≡ Some g → IsPermutationOfFour g.perm
  pub in_range : (x : Face) (g : Gluing) → glue rows x ≡ Some g → g.tet < length rows
  pub separate : (x : Face) (g : Gluing) → glue rows x ≡ Some g → IsTrue (not (same_face (other_side x g) x))
  pub leads_back : (x : Face) (g : Gluing) → glue rows x ≡ Some g → glue rows (other_side x g) ≡ Some (inverse_gluing x g)

-- whether a face is glued so
abbrev pub is_glued_by : Option Gluing → Gluing → Bool
is_glued_by None g = false
is_glued_by (Some h) g = (h.tet == g.tet) && same_list h.perm g.perm

-- what is wrong with the gluing of a face
abbrev pub gluing_fault : List Row → Face → Option Gluing → Option TableFault
gluing_fault rows x None = None
gluing_fault rows x (Some g) =
    if not (nat_lt g.tet (length rows)) then Some (NoSuchTet x.tet x.face)
    else (if same_face (other_side x g) x then Some (SelfGlued x.tet x.face)
    else (if is_glued_by (glue rows (other_side x g)) (inverse_gluing x g) then None else Some (NotMutual x.tet x.face)))

-- too many rows, or else the first face at which something is wrong
unfoldable pub table_fault : List Row → Option TableFault
table_fault rows =
    if nat_lt max_tets (length rows) then Some TooMany else first_some (λ x. gluing_fault rows x (glue rows x)) (faces (length rows))
