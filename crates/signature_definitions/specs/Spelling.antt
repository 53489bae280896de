-- The text of a walk-ordered table, and the least text of the tables to which a table can be relabelled.
use Rattle.std.specs.Prelude.{◌≡◌, ℕ, zero, suc, ◌+◌, ◌*◌, ◌/◌, ◌%◌, false, List, [], ◌∷◌, ◌++◌, length, map, filter_map, ◌==◌, nat_lt, Option, Some, None, slice_index, if◌then◌else◌, codes}
use Rattle.std.specs.List.{position}
use Rattle.table_definitions.specs.Lists.{is_list_before}
use Rattle.table_definitions.specs.Permutation.{index}
use Rattle.table_definitions.specs.Table.{Gluing, Row, Face, IsTable, glue, other_side, faces, is_face_before}
use Rattle.table_definitions.specs.Relabelling.{AreIsomorphic}
use Rattle.signature_definitions.specs.WalkOrder.{is_seen, IsWalkOrdered}

-- the characters of the values 0 to 63
abbrev pub alphabet : List ℕ
alphabet = codes "abcdefghijklmnopqrstuvwxyzABCDEFGHIJKLMNOPQRSTUVWXYZ0123456789+-"

abbrev pub character : ℕ → ℕ
character v = slice_index alphabet v

-- the value of a character, if it is one
abbrev pub value_of : ℕ → Option ℕ
value_of b = position (λ c. c == b) alphabet

-- how many characters a number takes in a text of n tetrahedra: the least w, from 1 on, with n below 64 ^ w, for n
-- below 64 ^ 3
abbrev pub width : ℕ → ℕ
width n = if nat_lt n 64 then 1 else (if nat_lt n 4096 then 2 else 3)

-- a number in w values, the lowest six bits first
abbrev pub in_values : ℕ → ℕ → List ℕ
in_values zero v = []
in_values (suc w) v = v % 64 ∷ in_values w (v / 64)

-- the number of tetrahedra; from 63 on after the greatest value and the width
abbrev pub head_values : ℕ → List ℕ
head_values n = if nat_lt n 63 then n ∷ [] else 63 ∷ width n ∷ in_values (width n) n

-- the type of a face: 0 for a boundary face, 1 if it is glued to a tetrahedron not yet seen, 2 if it is glued to one
-- already seen, and none for a face already read from its other side
abbrev pub type_of : List Row → Face → Option Gluing → Option ℕ
type_of rows x None = Some 0
type_of rows x (Some g) = if is_face_before (other_side x g) x then None else Some (if is_seen rows x g.tet then 2 else 1)

abbrev pub face_types : List Row → List ℕ
face_types rows = filter_map (λ x. type_of rows x (glue rows x)) (faces (length rows))

-- three types to a value, the last one filled up by zeros
abbrev pub packed : List ℕ → List ℕ
packed [] = []
packed (a ∷ []) = a ∷ []
packed (a ∷ b ∷ []) = (a + 4 * b) ∷ []
packed (a ∷ b ∷ c ∷ types) = (a + 4 * b + 16 * c) ∷ packed types

abbrev pub seen_gluing : List Row → Face → Option Gluing → Option Gluing
seen_gluing rows x None = None
seen_gluing rows x (Some g) = if is_face_before (other_side x g) x then None else (if is_seen rows x g.tet then Some g else None)

-- the gluings of the faces of type 2, in order
abbrev pub seen_gluings : List Row → List Gluing
seen_gluings rows = filter_map (λ x. seen_gluing rows x (glue rows x)) (faces (length rows))

abbrev pub joined : List (List ℕ) → List ℕ
joined [] = []
joined (x ∷ xs) = x ++ joined xs

-- the values of a table's text: count, types, destinations, gluings
unfoldable pub spelling_values : List Row → List ℕ
spelling_values rows =
    head_values (length rows) ++ packed (face_types rows) ++ joined (map (λ (g : Gluing). in_values (width (length rows)) g.tet) (seen_gluings rows))
    ++ map (λ (g : Gluing). index g.perm) (seen_gluings rows)

-- the text of a table
abbrev pub spelling : List Row → List ℕ
spelling rows = map character (spelling_values rows)

-- the text spells the table
pub record Spells (text : List ℕ) (rows : List Row) : Type 0 where
  pub table : IsTable rows
  pub ordered : IsWalkOrdered rows
  pub spelled : text ≡ spelling rows

-- the text spells a table to which the rows can be relabelled, and no text before it does
pub record IsSignature (rows : List Row) (text : List ℕ) : Type 0 where
  pub found : (new : List Row) × AreIsomorphic rows new × Spells text new
  pub least : (new : List Row) (other : List ℕ) → AreIsomorphic rows new → Spells other new → is_list_before other text ≡ false
