-- What joining a face keeps.
use Rattle.std.proofs.Common.{◌≡◌, ℕ, zero, suc, ◌+◌, ◌-◌, ◌<◌, ◌≤◌, Bool, true, false, List, [], ◌∷◌, ◌++◌, length, drop, get_or, Option, Some, None, refl, sym, ap, ◌∙◌, subst, arith}
use Rattle.std.specs.Prelude.{Result, Ok, Err, All, nat_le, is_some, ◌||◌, ◌==◌, if◌then◌else◌}
use Rattle.std.specs.List.{slice_index_or}
use Rattle.std.specs.Result.{OnOk}
use Rattle.std.proofs.Math.Seq.{drop-cons}
use Rattle.std.proofs.lemmas.Grind.{common_steps}
use Rattle.std.proofs.lemmas.List.{length-set}
use Rattle.std.proofs.lemmas.List.FromFn.{map-range_with_len_more}
use Rattle.table_definitions.specs.Lists.{times_in}
use Rattle.table_definitions.specs.Permutation.{identity, words}
use Rattle.table_definitions.specs.Table.{Gluing, Face, other_side, same_face, face_number}
use Rattle.table_definitions.specs.Places.{face_of}
use Rattle.signature_definitions.specs.declared.SigFault.TheVariants as sig_faults
use Rattle.signature_definitions.specs.SignatureText as signatures
use Rattle.signature_definitions.specs.declared.SigFault.{SigFault}
use Rattle.signature_text_laws.specs.Faults.{Fails, Leaves}
use Rattle.signature_text_laws.specs.Slots.{Slots, slot, meet_at, slot_boundary, slot_new, slot_glued, slot_type, with_types, slot_next, slot_face, slot_faces, slot_row, slot_rows, IsSlots, IsTaking}
use Rattle.signature_text_laws.proofs.ReadLaws.{fails_on, next_ok}

-- the number of occurrences in a list with a further item before it
pub times-other : (a b : ℕ) (xs : List ℕ) → (a == b) ≡ false → times_in (a ∷ xs) b ≡ times_in xs b
times-other a b xs h = grind (arith, common_steps)

pub times-same : (a : ℕ) (xs : List ℕ) → times_in (a ∷ xs) a ≡ 1 + times_in xs a
times-same a xs = grind (arith, common_steps)

pub unless_ok : {A : Type 0} (wrong : Bool) (fault : SigFault) (next : Result A SigFault) (t : A) → signatures.unless wrong fault next ≡ Ok t → (wrong ≡ false) × (next ≡ Ok t)
unless_ok true fault next t h = cc
unless_ok false fault next t h = (refl, h)

abbrev pub ok_of : {A : Type 0} → A → Result A SigFault
ok_of x = Ok x

pub ok_same : {A : Type 0} (v t : A) → ok_of v ≡ ok_of t → v ≡ t
ok_same v t h = cc

pub unless_same : {A : Type 0} (v t : A) (wrong : Bool) (fault : SigFault) → signatures.unless wrong fault (Ok v) ≡ Ok t → v ≡ t
unless_same v t true fault h = cc
unless_same v t false fault h = ok_same v t h

-- a property of all items of a list is one of all items after the first
all_behind : {A : Type 0} (P : A → Type 0) (x : A) (xs : List A) → All P (x ∷ xs) → All P xs
all_behind P x xs h = λ k d l. h (suc k) d (omega arith)

all_dropped : {A : Type 0} (P : A → Type 0) (xs : List A) → All P xs → All P (drop 1 xs)
all_dropped P [] h = h
all_dropped P (x ∷ xs) h = all_behind P x xs h

length-dropped : {A : Type 0} (xs : List A) → length (drop 1 xs) ≡ length xs - 1
length-dropped [] = refl
length-dropped (x ∷ xs) = omega arith

boundary_kept : (n : ℕ) (x : Face) (s : Slots) → IsTaking n 0 s → IsSlots n (slot_boundary x s)
boundary_kept n x s h = record {
  size = length-set s.read_faces (face_number x) (Some None) ∙ h.size;
  limited = h.limited;
  small = all_behind (λ t. t < 3) 0 s.parts.types h.small;
  destinations = h.destinations ∙ times-other 0 2 s.parts.types refl;
  gluings = h.gluings ∙ times-other 0 2 s.parts.types refl;
  indices = h.indices;
  room = subst (λ (m : ℕ). s.seen + m ≤ n) (times-other 0 1 s.parts.types refl) h.room;
}

meet_size : (read_faces : List (Option (Option Gluing))) (x : Face) (g : Gluing) → length (meet_at read_faces x g) ≡ length read_faces
meet_size read_faces x g = length-set _ _ _ ∙ length-set _ _ _

new_kept : (n : ℕ) (x : Face) (s : Slots) → IsTaking n 1 s → IsSlots n (slot_new x s)
new_kept n x s h = record {
  size = meet_size s.read_faces x (record { tet = s.seen; perm = identity }) ∙ h.size;
  limited = h.limited;
  small = all_behind (λ t. t < 3) 1 s.parts.types h.small;
  destinations = h.destinations ∙ times-other 1 2 s.parts.types refl;
  gluings = h.gluings ∙ times-other 1 2 s.parts.types refl;
  indices = h.indices;
  room = let e = times-same 1 s.parts.types in let r = h.room in omega (arith, e, r);
}

-- the state after a destination and a gluing are used
abbrev used_one : List (Option (Option Gluing)) → Slots → Slots
used_one read_faces s = record s { read_faces = read_faces; parts = record s.parts { destinations = drop 1 s.parts.destinations; gluings = drop 1 s.parts.gluings } }

seen_kept : (n : ℕ) (read_faces : List (Option (Option Gluing))) (s : Slots) → length read_faces ≡ length s.read_faces → IsTaking n 2 s → IsSlots n (used_one read_faces s)
seen_kept n read_faces s same h = record {
  size = same ∙ h.size;
  limited = h.limited;
  small = all_behind (λ t. t < 3) 2 s.parts.types h.small;
  destinations = let e = times-same 2 s.parts.types in let d = h.destinations in let f = length-dropped s.parts.destinations in omega (arith, e, d, f);
  gluings = let e = times-same 2 s.parts.types in let d = h.gluings in let f = length-dropped s.parts.gluings in omega (arith, e, d, f);
  indices = all_dropped (λ (i : ℕ × ℕ). i.0 < 24) s.parts.gluings h.indices;
  room = subst (λ (m : ℕ). s.seen + m ≤ n) (times-other 2 1 s.parts.types refl) h.room;
}

glued_kept : (n : ℕ) (x : Face) (d i : ℕ × ℕ) (s t : Slots) → IsTaking n 2 s → slot_glued x d i (used_one s.read_faces s) ≡ Ok t → IsSlots n t
glued_kept n x d i s t h e =
    let g : Gluing = record { tet = d.0; perm = slice_index_or words i.0 [] } in
    let taken : Bool = same_face (other_side x g) x || is_some (slot s.read_faces (other_side x g)) in
    let first = unless_ok (nat_le s.seen d.0) (sig_faults.Destination d.1) (signatures.unless taken (sig_faults.FaceTaken i.1) (Ok (used_one (meet_at s.read_faces x g) s))) t e in
    let same : used_one (meet_at s.read_faces x g) s ≡ t = unless_same (used_one (meet_at s.read_faces x g) s) t taken (sig_faults.FaceTaken i.1) first.1 in
    subst (IsSlots n) same (seen_kept n (meet_at s.read_faces x g) s (meet_size s.read_faces x g) h)

pub taken_kept : (n : ℕ) (x : Face) (type : ℕ) (s t : Slots) → IsTaking n type s → slot_type x type s ≡ Ok t → IsSlots n t
taken_kept n x zero s t h e = let same : slot_boundary x s ≡ t = cc in subst (IsSlots n) same (boundary_kept n x s h)
taken_kept n x (suc zero) s t h e = let same : slot_new x s ≡ t = cc in subst (IsSlots n) same (new_kept n x s h)
taken_kept n x (suc (suc zero)) s t h e = glued_kept n x (signatures.first_pair s.parts.destinations) (signatures.first_pair s.parts.gluings) s t h e
taken_kept n x (suc (suc (suc type))) s t h e = absurd (let small : suc (suc (suc type)) < 3 = h.small 0 0 (omega arith) in omega arith)

-- a further face

pub slot_faces-more : (j k p : ℕ) (s t : Slots) → j ≡ suc k → slot_face (face_of p) s ≡ Ok t → slot_faces k (p + 1) t ≡ slot_faces j p s
unfolding slot_faces
slot_faces-more j k p s t e h =
    sym (ap (λ m. slot_faces m p s) e ∙ next_ok (slot_face (face_of p) s) t (λ t. slot_faces k (p + 1) t) h)

pub slot_faces-end : (j p : ℕ) (s : Slots) → j ≡ 0 → slot_faces j p s ≡ Ok s
unfolding slot_faces
slot_faces-end j p s e = ap (λ m. slot_faces m p s) e

pub slot_faces-wrong : (j k p : ℕ) (s : Slots) (e : SigFault) → j ≡ suc k → Fails e (slot_face (face_of p) s) → Fails e (slot_faces j p s)
unfolding slot_faces
slot_faces-wrong j k p s e same h =
    let P : ℕ → Type 0 = λ m. Fails e (slot_faces m p s) in
    subst P (sym same) (fails_on e (slot_face (face_of p) s) (λ t. slot_faces k (p + 1) t) h)

-- a further row
pub slot_rows-more : (t : ℕ) (read_faces : List (Option (Option Gluing))) → slot_rows (t + 1) read_faces ≡ slot_rows t read_faces ++ slot_row read_faces t ∷ []
slot_rows-more t read_faces = map-range_with_len_more (slot_row read_faces) 0 t t (omega arith)

-- a list of types whose first type is used next
pub taking_next : (n u type : ℕ) (xs : List ℕ) (s : Slots) → IsSlots n (with_types (drop u xs) s) → u < length xs → type ≡ get_or xs u type → IsTaking n type (with_types (drop (u + 1) xs) s)
taking_next n u type xs s h l e =
    let P : List ℕ → Type 0 = λ ys. IsSlots n (with_types ys s) in
    let one : suc u ≡ u + 1 = omega arith in
    let front : get_or xs u type ∷ drop (suc u) xs ≡ type ∷ drop (u + 1) xs = ap (λ t. t ∷ drop (suc u) xs) (sym e) ∙ ap (λ k. type ∷ drop k xs) one in
    subst P (drop-cons xs u type l ∙ front) h

next_kept : (n : ℕ) (x : Face) (ts : List ℕ) (s t : Slots) → IsSlots n (with_types ts s) → slot_next x ts (with_types ts s) ≡ Ok t → IsSlots n t
next_kept n x [] s t h e = let same : with_types [] s ≡ t = cc in subst (IsSlots n) same h
next_kept n x (type ∷ types) s t h e = cases (is_some (slot s.read_faces x)) (slot_type x type (with_types types s)) e (λ e'. taken_kept n x type (with_types types s) t h e')
  where
    cases : (b : Bool) (r : Result Slots SigFault) → (if b then Ok (with_types (type ∷ types) s) else r) ≡ Ok t → (r ≡ Ok t → IsSlots n t) → IsSlots n t
    cases true r e next = let same : with_types (type ∷ types) s ≡ t = cc in subst (IsSlots n) same h
    cases false r e next = next e

-- joining a face keeps the conditions on the state
pub face_kept : (n : ℕ) (x : Face) (s t : Slots) → IsSlots n s → slot_face x s ≡ Ok t → IsSlots n t
face_kept n x s t h e = next_kept n x s.parts.types s t h (unless_ok (nat_le s.seen x.tet) sig_faults.Unreached (slot_next x s.parts.types s) t e).1

-- if a call leaves the result of a step, it keeps the conditions on the state
pub kept_on_ok : {X : Type 0} (r : Result X SigFault) (n : ℕ) (t : Slots) (read : Result Slots SigFault) → Leaves t r read → ((k : Slots) → read ≡ Ok k → IsSlots n k) → OnOk r (IsSlots n t)
kept_on_ok (Ok u) n t read h keeps = keeps t h
kept_on_ok (Err e) n t read h keeps = tt
