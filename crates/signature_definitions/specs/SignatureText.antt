-- Reading a signature, phase by phase, with the first fault. Places count characters from 0.
use Rattle.std.specs.Prelude.{ℕ, zero, suc, ◌+◌, ◌-◌, ◌*◌, ◌/◌, ◌%◌, Bool, ◌&&◌, ◌||◌, not, List, [], ◌∷◌, ◌++◌, length, map, drop, find, ◌==◌, nat_lt, nat_le, Option, Some, None, option_and_then, Result, Ok, Err, slice_get, if◌then◌else◌, codes}
use Rattle.std.specs.List.{list_any, slice_index_or}
use Rattle.table_definitions.specs.Lists.{below, same_list, times_in}
use Rattle.table_definitions.specs.Permutation.{four, identity, words}
use Rattle.table_definitions.specs.Table.{max_tets, Gluing, Row, Face, other_side, inverse_gluing, faces, same_face}
use Rattle.signature_definitions.specs.Spelling.{value_of, width}
use Rattle.text_definitions.specs.declared.LexKind.TheVariants.{BadWord}
use Rattle.text_definitions.specs.Reading.{Reading, ◌>>=◌, word_fault, word_at, end_line_at}
use Rattle.table_definitions.specs.declared.TextFault.{TextFault}
use Rattle.table_definitions.specs.TableText.{lexed, table_at}
use Rattle.signature_definitions.specs.declared.SigFault.{SigFault}
use Rattle.signature_definitions.specs.declared.SigFault.TheVariants as faults
use Rattle.signature_definitions.specs.declared.SigFault.TheVariants.{BadChar, Short, BadType, Leftover, Destination, FaceTaken, Trailing, TooMany, Unreached, Width}
use Rattle.signature_definitions.specs.declared.InputFault.{InputFault}
use Rattle.signature_definitions.specs.declared.InputFault.TheVariants.{Text, Signature}

-- continue if the test passes
abbrev pub unless : {A : Type 0} → Bool → SigFault → Result A SigFault → Result A SigFault
unless wrong fault next = if wrong then Err fault else next

abbrev pub value_or : Option ℕ → SigFault → Result ℕ SigFault
value_or None fault = Err fault
value_or (Some v) fault = Ok v

abbrev pub value_in : Option ℕ → ℕ → ℕ → Result ℕ SigFault
value_in None end at = Err (Short end)
value_in (Some b) end at = value_or (value_of b) (BadChar at)

-- the value of the character at a place
abbrev pub value_at : List ℕ → ℕ → Result ℕ SigFault
value_at text at = value_in (slice_get text at) (length text) at

-- a number in w characters, the lowest six bits first
abbrev pub number_in : List ℕ → ℕ → ℕ → Result ℕ SigFault
number_in text zero at = Ok 0
number_in text (suc w) at = do
  v ← value_at text at
  higher ← number_in text w (at + 1)
  Ok (v + 64 * higher)

-- the count of tetrahedra, the width of a number, and the place of the types
pub record Head : Type 0 where
  pub count : ℕ
  pub width : ℕ
  pub next : ℕ

abbrev pub wide_head : List ℕ → ℕ → Result Head SigFault
wide_head text w = do
  n ← number_in text w 2
  unless (nat_lt max_tets n) TooMany (unless (nat_lt n 63 || not (w == width n)) (Width 1) (Ok (record { count = n; width = w; next = w + 2 })))

abbrev pub long_head : List ℕ → Result Head SigFault
long_head text = do
  w ← value_at text 1
  unless (w == 0) (Width 1) (unless (nat_le 3 w) TooMany (wide_head text w))

unfoldable pub head_of : List ℕ → Result Head SigFault
head_of text = do
  v ← value_at text 0
  if v == 63 then long_head text else Ok (record { count = v; width = 1; next = 1 })

-- the types read so far, the faces that are left to be counted, and the number of types 1
pub record Types : Type 0 where
  pub read : List ℕ
  pub left : ℕ
  pub ones : ℕ

-- how many faces a type counts
abbrev pub faces_of_type : ℕ → ℕ
faces_of_type type = if type == 0 then 1 else 2

abbrev pub counted : ℕ → Types → Types
counted type s = record { read = s.read ++ type ∷ []; left = s.left - faces_of_type type; ones = s.ones + (if type == 1 then 1 else 0) }

-- whether a type is impossible with this number of remaining faces, in a text of n tetrahedra
abbrev pub is_wrong_type : ℕ → ℕ → Types → Bool
is_wrong_type n type s = (type == 3) || nat_lt s.left (faces_of_type type) || ((type == 1) && nat_le (n - 1) s.ones)

-- one of the three types of the character at a place
abbrev pub type_at : ℕ → ℕ → ℕ → Types → Result Types SigFault
type_at n at type s =
    if s.left == 0 then unless (not (type == 0)) (Leftover at) (Ok s)
    else unless (is_wrong_type n type s) (BadType at) (Ok (counted type s))

abbrev pub character_types : ℕ → ℕ → ℕ → Types → Result Types SigFault
character_types n at v s = do
  s0 ← type_at n at (v % 4) s
  s1 ← type_at n at (v / 4 % 4) s0
  type_at n at (v / 16) s1

-- the types from a place on until no face is left, and the place after them; each character counts a face
unfoldable pub types_from : ℕ → List ℕ → ℕ → ℕ → Types → Result (Types × ℕ) SigFault
types_from zero text n at s = Ok (s, at)
types_from (suc most) text n at s = more_types (s.left == 0) s at (do
  v ← value_at text at
  t ← character_types n at v s
  types_from most text n (at + 1) t)
  where
    more_types : Bool → Types → ℕ → Result (Types × ℕ) SigFault → Result (Types × ℕ) SigFault
    more_types done s at next = if done then Ok (s, at) else next

-- `count` numbers of w characters, each below `bound`, with their positions
unfoldable pub numbers_in : ℕ → List ℕ → ℕ → ℕ → (ℕ → SigFault) → ℕ → Result (List (ℕ × ℕ)) SigFault
numbers_in zero text w bound fault at = Ok []
numbers_in (suc k) text w bound fault at = do
  v ← number_in text w at
  others ← unless (nat_le bound v) (fault at) (numbers_in k text w bound fault (at + w))
  Ok ((v, at) ∷ others)

-- what the phases before the last one read: the types, and the destination and the gluing of each type 2, with their
-- places
pub record Parts : Type 0 where
  pub types : List ℕ
  pub destinations : List (ℕ × ℕ)
  pub gluings : List (ℕ × ℕ)

-- the faces read so far with their gluings, the number of tetrahedra seen, and the unused sections
pub record Joining : Type 0 where
  pub read_faces : List (Face × Option Gluing)
  pub seen : ℕ
  pub parts : Parts

abbrev pub is_face_read : Joining → Face → Bool
is_face_read s x = list_any (λ (m : Face × Option Gluing). same_face m.0 x) s.read_faces

-- both sides of a face are read
abbrev pub meet : Face → Gluing → Joining → Joining
meet x g s = record s { read_faces = (x, Some g) ∷ (other_side x g, Some (inverse_gluing x g)) ∷ s.read_faces }

-- a face of type 0, of type 1, and of type 2 with its destination and its gluing
abbrev pub join_boundary : Face → Joining → Joining
join_boundary x s = record s { read_faces = (x, None) ∷ s.read_faces }

abbrev pub join_new : Face → Joining → Joining
join_new x s = meet x (record { tet = s.seen; perm = identity }) (record s { seen = s.seen + 1 })

abbrev pub join_seen : Face → ℕ × ℕ → ℕ × ℕ → Joining → Result Joining SigFault
join_seen x d i s =
    let g : Gluing = record { tet = d.0; perm = slice_index_or words i.0 [] } in
    unless (nat_le s.seen d.0) (Destination d.1)
    (unless (same_face (other_side x g) x || is_face_read s (other_side x g)) (FaceTaken i.1) (Ok (meet x g s)))

abbrev pub first_pair : List (ℕ × ℕ) → ℕ × ℕ
first_pair ps = slice_index_or ps 0 (0, 0)

abbrev pub join_type : Face → ℕ → Parts → Joining → Result Joining SigFault
join_type x type rest s =
    if type == 0 then Ok (join_boundary x (record s { parts = rest }))
    else (if type == 1 then Ok (join_new x (record s { parts = rest }))
    else join_seen x (first_pair rest.destinations) (first_pair rest.gluings)
    (record s { parts = record rest { destinations = drop 1 rest.destinations; gluings = drop 1 rest.gluings } }))

-- the next face, if it is not read yet
abbrev pub join_next : Face → List ℕ → Joining → Result Joining SigFault
join_next x [] s = Ok s
join_next x (type ∷ types) s = if is_face_read s x then Ok s else join_type x type (record s.parts { types = types }) s

abbrev pub join_face : Face → Joining → Result Joining SigFault
join_face x s = unless (nat_le s.seen x.tet) Unreached (join_next x s.parts.types s)

unfoldable pub join_faces : List Face → Joining → Result Joining SigFault
join_faces [] s = Ok s
join_faces (x ∷ xs) s = do
  t ← join_face x s
  join_faces xs t

abbrev pub glued_in : List (Face × Option Gluing) → Face → Option Gluing
glued_in read_faces x = option_and_then (λ (m : Face × Option Gluing). m.1) (find (λ (m : Face × Option Gluing). same_face m.0 x) read_faces)

-- the table of the faces that were read
abbrev pub rows_of : ℕ → List (Face × Option Gluing) → List Row
rows_of n read_faces = map (λ t. map (λ f. glued_in read_faces (record { tet = t; face = f })) four) (below n)

-- the last phase
abbrev pub table_of : ℕ → Parts → Result (List Row) SigFault
table_of n parts = do
  s ← join_faces (faces n) (record { read_faces = []; seen = 1; parts = parts })
  Ok (rows_of n s.read_faces)

-- the phases after the types
abbrev pub after_types : List ℕ → Head → Types → ℕ → Result (List Row) SigFault
after_types text h s at =
    let twos : ℕ = times_in s.read 2 in
    let gluings_at : ℕ = at + h.width * twos in do
      d ← unless (nat_lt (s.ones + 1) h.count) Unreached (numbers_in twos text h.width h.count Destination at)
      g ← numbers_in twos text 1 24 faults.Gluing gluings_at
      unless (nat_lt (gluings_at + twos) (length text)) (Trailing (gluings_at + twos))
          (table_of h.count (record { types = s.read; destinations = d; gluings = g }))

-- the table that a text spells, or its first fault
unfoldable pub signature_table : List ℕ → Result (List Row) SigFault
signature_table text = do
  h ← head_of text
  s ← types_from (4 * h.count) text h.count h.next (record { read = []; left = 4 * h.count; ones = 0 })
  after_types text h s.0 s.1

-- a reader's fault, as one of the input
abbrev pub texted : {A : Type 0} → Result A TextFault → Result A InputFault
texted (Ok x) = Ok x
texted (Err e) = Err (Text e)

abbrev pub decoded : Reading → Result (List Row) SigFault → Result (List Row × Reading) InputFault
decoded c (Ok rows) = Ok (rows, c)
decoded c (Err e) = Err (Signature e)

-- what follows the word `sig`
unfoldable pub signature_at : Reading → Result (List Row × Reading) InputFault
signature_at c = do
  w ← texted (lexed (word_at c))
  end ← texted (lexed (end_line_at w.1))
  decoded end (signature_table w.0)

abbrev pub named_table_at : List ℕ → Reading → Result (List Row × Reading) InputFault
named_table_at w c =
    if same_list w (codes "tri") then texted (table_at c)
    else (if same_list w (codes "sig") then signature_at c else texted (lexed (Err (word_fault c BadWord))))

-- a table in either form, from the current line on, of which no word was taken yet
unfoldable pub any_table_at : Reading → Result (List Row × Reading) InputFault
any_table_at c = do
  w ← texted (lexed (word_at c))
  named_table_at w.0 w.1
