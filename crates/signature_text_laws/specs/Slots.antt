-- Joining the faces of a table in order, with what each is glued to at its place, four places for each tetrahedron.
use Rattle.std.specs.Prelude.{◌≡◌, ℕ, zero, suc, ◌+◌, ◌*◌, ◌<◌, ◌≤◌, ◌||◌, List, [], ◌∷◌, length, map, drop, replicate, slice_set, ◌==◌, nat_le, Option, Some, None, is_some, unwrap_or, Result, Ok, if◌then◌else◌, All}
use Rattle.std.specs.List.{slice_index_or}
use Rattle.text_definitions.specs.Reading.{◌>>=◌}
use Rattle.table_definitions.specs.Lists.{below, times_in}
use Rattle.table_definitions.specs.Permutation.{four, identity, words}
use Rattle.table_definitions.specs.Table.{max_tets, Gluing, Row, Face, other_side, inverse_gluing, same_face, face_number}
use Rattle.table_definitions.specs.Places.{face_of}
use Rattle.signature_definitions.specs.declared.SigFault.{SigFault}
use Rattle.signature_definitions.specs.declared.SigFault.TheVariants as sig_faults
use Rattle.signature_definitions.specs.SignatureText as signatures

-- the gluings of the faces that were read, the number of tetrahedra seen, and the unused sections
pub record Slots : Type 0 where
  pub read_faces : List (Option (Option Gluing))
  pub seen : ℕ
  pub parts : signatures.Parts

-- what is known of a face: nothing if it was not read
abbrev pub slot : List (Option (Option Gluing)) → Face → Option (Option Gluing)
slot read_faces x = slice_index_or read_faces (face_number x) None

-- both sides of a face were read
abbrev pub meet_at : List (Option (Option Gluing)) → Face → Gluing → List (Option (Option Gluing))
meet_at read_faces x g = slice_set (slice_set read_faces (face_number (other_side x g)) (Some (Some (inverse_gluing x g)))) (face_number x) (Some (Some g))

abbrev pub slot_boundary : Face → Slots → Slots
slot_boundary x s = record s { read_faces = slice_set s.read_faces (face_number x) (Some None) }

abbrev pub slot_new : Face → Slots → Slots
slot_new x s = record s { read_faces = meet_at s.read_faces x (record { tet = s.seen; perm = identity }); seen = s.seen + 1 }

abbrev pub slot_glued : Face → ℕ × ℕ → ℕ × ℕ → Slots → Result Slots SigFault
slot_glued x d i s =
    let g : Gluing = record { tet = d.0; perm = slice_index_or words i.0 [] } in
    signatures.unless (nat_le s.seen d.0) (sig_faults.Destination d.1)
    (signatures.unless (same_face (other_side x g) x || is_some (slot s.read_faces (other_side x g))) (sig_faults.FaceTaken i.1) (Ok (record s { read_faces = meet_at s.read_faces x g })))

abbrev pub slot_seen : Face → Slots → Result Slots SigFault
slot_seen x s =
    slot_glued x (signatures.first_pair s.parts.destinations) (signatures.first_pair s.parts.gluings)
    (record s { parts = record s.parts { destinations = drop 1 s.parts.destinations; gluings = drop 1 s.parts.gluings } })

abbrev pub slot_type : Face → ℕ → Slots → Result Slots SigFault
slot_type x type s = if type == 0 then Ok (slot_boundary x s) else (if type == 1 then Ok (slot_new x s) else slot_seen x s)

abbrev pub with_types : List ℕ → Slots → Slots
with_types types s = record s { parts = record s.parts { types = types } }

abbrev pub slot_next : Face → List ℕ → Slots → Result Slots SigFault
slot_next x [] s = Ok s
slot_next x (type ∷ types) s = if is_some (slot s.read_faces x) then Ok s else slot_type x type (with_types types s)

-- the next face
abbrev pub slot_face : Face → Slots → Result Slots SigFault
slot_face x s = signatures.unless (nat_le s.seen x.tet) sig_faults.Unreached (slot_next x s.parts.types s)

-- the given number of faces from an index on
unfoldable pub slot_faces : ℕ → ℕ → Slots → Result Slots SigFault
slot_faces zero k s = Ok s
slot_faces (suc m) k s = do
  t ← slot_face (face_of k) s
  slot_faces m (k + 1) t

-- no face was read yet
abbrev pub slots_begun : ℕ → signatures.Parts → Slots
slots_begun n parts = record { read_faces = replicate (4 * n) None; seen = 1; parts = parts }

-- the row of a tetrahedron, and all rows
abbrev pub slot_row : List (Option (Option Gluing)) → ℕ → Row
slot_row read_faces t = map (λ f. unwrap_or (slot read_faces (record { tet = t; face = f })) None) four

abbrev pub slot_rows : ℕ → List (Option (Option Gluing)) → List Row
slot_rows n read_faces = map (slot_row read_faces) (below n)

-- there is a place for each face, a destination and a gluing for each type 2, and a tetrahedron for each type 1
pub record IsSlots (n : ℕ) (s : Slots) : Type 0 where
  pub size : length s.read_faces ≡ 4 * n
  pub limited : n ≤ max_tets
  pub small : All (λ t. t < 3) s.parts.types
  pub destinations : length s.parts.destinations ≡ times_in s.parts.types 2
  pub gluings : length s.parts.gluings ≡ times_in s.parts.types 2
  pub indices : All (λ (i : ℕ × ℕ). i.0 < 24) s.parts.gluings
  pub room : s.seen + times_in s.parts.types 1 ≤ n

-- the same where a type was taken and not yet used
abbrev pub IsTaking : ℕ → ℕ → Slots → Type 0
IsTaking n type s = IsSlots n (with_types (type ∷ s.parts.types) s)
