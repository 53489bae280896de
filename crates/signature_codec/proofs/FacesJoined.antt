-- A face that is joined, by its type.
use Rattle.std.proofs.Common.{◌≡◌, ℕ, zero, suc, ◌+◌, ◌<◌, ◌≤◌, Bool, List, [], ◌∷◌, length, get_or, drop, Option, Some, None, false, true, refl, sym, ap, ◌∙◌, add-one, drop-cons, arith}
use Rattle.std.specs.Prelude.{Result, Ok, Err, is_some, nat_le, ◌||◌, ◌==◌, slice_set, if◌then◌else◌}
use Rattle.std.specs.List.{slice_index_or}
use Rattle.std.proofs.lemmas.Bool.{lt-leb, le-leb, ne_eqb}
use Rattle.table_definitions.specs.Lists.{times_in}
use Rattle.table_definitions.specs.Permutation.{identity, words}
use Rattle.table_definitions.specs.Table.{Gluing, Face, other_side, same_face, face_number}
use Rattle.signature_definitions.specs.declared.SigFault.{SigFault}
use Rattle.signature_definitions.specs.declared.SigFault.TheVariants as sig_faults
use Rattle.signature_definitions.specs.SignatureText as signatures
use Rattle.signature_text_laws.specs.Slots.{Slots, IsSlots, slot, meet_at, slot_boundary, slot_new, slot_seen, slot_face, slot_next, slot_type, with_types, slots_begun, slot_faces, slot_rows}
use Rattle.signature_text_laws.proofs.SlotLaws.{taken_kept, taking_next, slot_faces-end}
use Rattle.signature_text_laws.proofs.ReadLaws.{next_ok}
use Rattle.signature_text_laws.proofs.Simulation.{slots_join}
use Rattle.signature_codec.specs.Views.{glued_at}
use Rattle.signature_codec.proofs.SeenJoined.{some_left}

-- a face that was not read, of a tetrahedron that is seen, is joined by the next type
pub face_typed : (x : Face) (u type : ℕ) (xs : List ℕ) (s : Slots) → s.parts.types ≡ drop u xs → x.tet < s.seen → u < length xs → type ≡ get_or xs u type → is_some (slot s.read_faces x) ≡ false
    → slot_face x s ≡ slot_type x type (with_types (drop (u + 1) xs) s)
face_typed x u type xs s types seen inside is unmet =
    ap (λ wrong. signatures.unless wrong sig_faults.Unreached (slot_next x s.parts.types s)) (lt-leb s.seen x.tet seen)
    ∙ ap (λ ts. slot_next x ts s) (types ∙ drop-cons xs u type inside ∙ ap (λ t. t ∷ drop (suc u) xs) (sym is))
    ∙ ap (λ read_faces. if read_faces then Ok s else slot_type x type (with_types (drop (suc u) xs) s)) unmet
    ∙ ap (λ k. slot_type x type (with_types (drop k xs) s)) (sym (add-one u))

pub unseen : (x : Face) (s : Slots) → s.seen ≤ x.tet → slot_face x s ≡ Err sig_faults.Unreached
unseen x s l = ap (λ wrong. signatures.unless wrong sig_faults.Unreached (slot_next x s.parts.types s)) (le-leb s.seen x.tet l)

pub passed : (x : Face) (s : Slots) → x.tet < s.seen → slot_face x s ≡ slot_next x s.parts.types s
passed x s l = ap (λ wrong. signatures.unless wrong sig_faults.Unreached (slot_next x s.parts.types s)) (lt-leb s.seen x.tet l)

-- a face that was read needs no type
pub met_already : (x : Face) (types : List ℕ) (s : Slots) → is_some (slot s.read_faces x) ≡ true → slot_next x types s ≡ Ok s
met_already x [] s is = refl
met_already x (type ∷ types) s is = ap (λ read_faces. if read_faces then Ok s else slot_type x type (with_types types s)) is

-- the state after a face of each type is joined, if the types ts remain
pub at_boundary : (x : Face) (type : ℕ) (ts : List ℕ) (s : Slots) (read_faces : List (Option (Option Gluing))) → type ≡ 0 → read_faces ≡ slice_set s.read_faces (face_number x) (Some None)
    → slot_type x type (with_types ts s) ≡ Ok (with_types ts (record s { read_faces = read_faces }))
at_boundary x type ts s read_faces is e = ap (λ k. slot_type x k (with_types ts s)) is ∙ ap (λ (m : List (Option (Option Gluing))). Ok (with_types ts (record s { read_faces = m }))) (sym e)

pub at_new : (x : Face) (type : ℕ) (ts : List ℕ) (s : Slots) (read_faces : List (Option (Option Gluing))) (p : List ℕ) → type ≡ 1 → p ≡ identity → read_faces ≡ meet_at s.read_faces x (record { tet = s.seen; perm = p })
    → slot_type x type (with_types ts s) ≡ Ok (with_types ts (record s { read_faces = read_faces; seen = s.seen + 1 }))
at_new x type ts s read_faces p is q e =
    let same : read_faces ≡ meet_at s.read_faces x (record { tet = s.seen; perm = identity }) = e ∙ ap (λ r. meet_at s.read_faces x (record { tet = s.seen; perm = r })) q in
    ap (λ k. slot_type x k (with_types ts s)) is ∙ ap (λ (m : List (Option (Option Gluing))). Ok (with_types ts (record s { read_faces = m; seen = s.seen + 1 }))) (sym same)

at_seen : (x : Face) (type : ℕ) (s : Slots) → (type ≡ 0 → ⊥) → (type ≡ 1 → ⊥) → slot_type x type s ≡ slot_seen x s
at_seen x type s ne0 ne1 =
    ap (λ b. if b then Ok (slot_boundary x s) else (if type == 1 then Ok (slot_new x s) else slot_seen x s)) (ne_eqb type 0 ne0)
    ∙ ap (λ b. if b then Ok (slot_new x s) else slot_seen x s) (ne_eqb type 1 ne1)

-- joining a face by the next type keeps the conditions on the state
pub kept_next : (n u type : ℕ) (x : Face) (xs : List ℕ) (s t : Slots) → IsSlots n (with_types (drop u xs) s) → u < length xs → type ≡ get_or xs u type → slot_type x type (with_types (drop (u + 1) xs) s) ≡ Ok t → IsSlots n t
kept_next n u type x xs s t h l is e = taken_kept n x type (with_types (drop (u + 1) xs) s) t (taking_next n u type xs s h l is) e

-- no tetrahedra have no rows
pub joined_none : (n : ℕ) (parts : signatures.Parts) → n ≡ 0 → Ok [] ≡ signatures.table_of n parts
joined_none n parts none =
    let s : Slots = slots_begun 0 parts in
    sym (next_ok (slot_faces 0 0 s) s (λ t. Ok (slot_rows 0 t.read_faces)) (slot_faces-end 0 0 s refl)) ∙ slots_join 0 parts (λ l. absurd (omega arith)) ∙ ap (λ m. signatures.table_of m parts) (sym none)

-- gluing a face to a tetrahedron that is seen uses no further type
abbrev mapped : (Slots → Slots) → Result Slots SigFault → Result Slots SigFault
mapped f (Ok s) = Ok (f s)
mapped f (Err e) = Err e

unless_mapped : (a b : Bool) (e f : SigFault) (t : Slots) (g : Slots → Slots) → signatures.unless a e (signatures.unless b f (Ok (g t))) ≡ mapped g (signatures.unless a e (signatures.unless b f (Ok t)))
unless_mapped true b e f t g = refl
unless_mapped false true e f t g = refl
unless_mapped false false e f t g = refl

seen_mapped : (x : Face) (ts : List ℕ) (s : Slots) → slot_seen x (with_types ts s) ≡ mapped (with_types ts) (slot_seen x s)
seen_mapped x ts s =
    let d : ℕ × ℕ = signatures.first_pair s.parts.destinations in
    let i : ℕ × ℕ = signatures.first_pair s.parts.gluings in
    let g : Gluing = record { tet = d.0; perm = slice_index_or words i.0 [] } in
    unless_mapped (nat_le s.seen d.0) (same_face (other_side x g) x || is_some (slot s.read_faces (other_side x g))) (sig_faults.Destination d.1) (sig_faults.FaceTaken i.1) (glued_at s x g) (with_types ts)

pub at_glued : (x : Face) (type : ℕ) (ts : List ℕ) (s : Slots) (g : Gluing) (read_faces : List (Option (Option Gluing))) (ds gs : List (ℕ × ℕ)) → (type ≡ 0 → ⊥) → (type ≡ 1 → ⊥) → slot_seen x s ≡ Ok (glued_at s x g)
    → read_faces ≡ meet_at s.read_faces x g → ds ≡ drop 1 s.parts.destinations → gs ≡ drop 1 s.parts.gluings
    → slot_type x type (with_types ts s) ≡ Ok (record { read_faces = read_faces; seen = s.seen; parts = record { types = ts; destinations = ds; gluings = gs } })
at_glued x type ts s g read_faces ds gs ne0 ne1 e em ed eg =
    let made : List (Option (Option Gluing)) → List (ℕ × ℕ) → List (ℕ × ℕ) → Slots = λ m d i. record { read_faces = m; seen = s.seen; parts = record { types = ts; destinations = d; gluings = i } } in
    at_seen x type (with_types ts s) ne0 ne1 ∙ seen_mapped x ts s ∙ ap (mapped (with_types ts)) e
    ∙ ap (λ (m : List (Option (Option Gluing))). Ok (made m (drop 1 s.parts.destinations) (drop 1 s.parts.gluings))) (sym em)
    ∙ ap (λ (d : List (ℕ × ℕ)). Ok (made read_faces d (drop 1 s.parts.gluings))) (sym ed) ∙ ap (λ (i : List (ℕ × ℕ)). Ok (made read_faces ds i)) (sym eg)

pub seen_refused : (x : Face) (type : ℕ) (ts : List ℕ) (s : Slots) (e : SigFault) → (type ≡ 0 → ⊥) → (type ≡ 1 → ⊥) → slot_seen x s ≡ Err e → slot_type x type (with_types ts s) ≡ Err e
seen_refused x type ts s e ne0 ne1 is = at_seen x type (with_types ts s) ne0 ne1 ∙ seen_mapped x ts s ∙ ap (mapped (with_types ts)) is

-- a type other than 0 and 1 is 2, and has a destination
is_two : (k : ℕ) → k < 3 → (k ≡ 0 → ⊥) → (k ≡ 1 → ⊥) → k ≡ 2
is_two zero l ne0 ne1 = absurd (ne0 refl)
is_two (suc zero) l ne0 ne1 = absurd (ne1 refl)
is_two (suc (suc zero)) l ne0 ne1 = refl
is_two (suc (suc (suc k))) l ne0 ne1 = absurd (omega arith)

pub one_left : (n u type used : ℕ) (xs : List ℕ) (ds : List (ℕ × ℕ)) (s : Slots) → IsSlots n (with_types (drop u xs) s) → u < length xs → type ≡ get_or xs u type → (type ≡ 0 → ⊥) → (type ≡ 1 → ⊥)
    → drop used ds ≡ s.parts.destinations → used < length ds
one_left n u type used xs ds s h l is ne0 ne1 e =
    let t = taking_next n u type xs s h l is in
    let small : type < 3 = t.small 0 0 (omega arith) in
    some_left used (drop (u + 1) xs) ds (ap (λ (ps : List (ℕ × ℕ)). length ps) e ∙ t.destinations ∙ ap (λ k. times_in (k ∷ drop (u + 1) xs) 2) (is_two type small ne0 ne1))
