-- What joining one face does to the state.
use Rattle.std.proofs.Common.{◌≡◌, ℕ, zero, suc, ◌+◌, ◌*◌, ◌<◌, ◌≤◌, Bool, true, false, List, [], ◌∷◌, length, drop, get_or, Option, Some, None, refl, sym, ap, ◌∙◌, subst, arith, ◌⊎◌}
use Rattle.std.specs.Prelude.{Result, Ok, All, nat_le, is_some, sum_by, ◌||◌, if◌then◌else◌}
use Rattle.std.specs.List.{slice_index_or}
use Rattle.std.proofs.lemmas.List.Sums.{sum_by-cons}
use Rattle.std.proofs.lemmas.Bool.{or_parts}
use Rattle.basic_lemmas.proofs.Truths.{by_bool}
use Rattle.table_definitions.specs.Lists.{times_in}
use Rattle.table_definitions.specs.Permutation.{words}
use Rattle.table_definitions.specs.Table.{Gluing, other_side, same_face, face_number}
use Rattle.table_definitions.specs.Places.{face_of}
use Rattle.table_definitions.proofs.Faces.{number-face_of}
use Rattle.signature_definitions.specs.declared.SigFault.{SigFault}
use Rattle.signature_definitions.specs.declared.SigFault.TheVariants as sig_faults
use Rattle.signature_definitions.specs.SignatureText as signatures
use Rattle.signature_definitions.specs.SignatureText.{faces_of_type}
use Rattle.signature_text_laws.specs.Slots.{Slots, slot, meet_at, slot_boundary, slot_new, slot_seen, slot_type, with_types, slot_next, slot_face, IsSlots}
use Rattle.signature_text_laws.proofs.SlotLaws.{unless_ok, ok_same, times-same}
use Rattle.signature_text_laws.proofs.Simulation.{not_le}

-- 1 for a face that was not read
abbrev pub free : Option (Option Gluing) → ℕ
free None = 1
free (Some o) = 0

-- the state before the face at index k is joined
pub record IsJoined (n k : ℕ) (s : Slots) : Type 0 where
  pub fit : IsSlots n s
  pub range : (p : ℕ) (o : Option Gluing) → get_or s.read_faces p None ≡ Some o → p < 4 * s.seen
  pub before : (p : ℕ) → p < k → (o : Option Gluing) × (get_or s.read_faces p None ≡ Some o)
  pub origin : (p : ℕ) (o : Option Gluing) → get_or s.read_faces p None ≡ Some o → (p < k) ⊎ ((g : Gluing) × (o ≡ Some g) × (face_number (other_side (face_of p) g) < k))
  pub count : sum_by free s.read_faces ≡ sum_by faces_of_type s.parts.types

-- what joining the face at index k does
pub data Stepped (k : ℕ) (s t : Slots) : Type 0 where
  stays : (o : Option Gluing) → get_or s.read_faces k None ≡ Some o → s ≡ t → Stepped k s t
  bounds : (ts : List ℕ) → get_or s.read_faces k None ≡ None → s.parts.types ≡ 0 ∷ ts → slot_boundary (face_of k) (with_types ts s) ≡ t → Stepped k s t
  reaches : (ts : List ℕ) → get_or s.read_faces k None ≡ None → s.parts.types ≡ 1 ∷ ts → slot_new (face_of k) (with_types ts s) ≡ t → Stepped k s t
  glues : (ts : List ℕ) (d i : ℕ × ℕ) (ds gs : List (ℕ × ℕ)) → get_or s.read_faces k None ≡ None → s.parts.types ≡ 2 ∷ ts → s.parts.destinations ≡ d ∷ ds → s.parts.gluings ≡ i ∷ gs → i.0 < 24 → d.0 < s.seen
      → (let g : Gluing = record { tet = d.0; perm = slice_index_or words i.0 [] } in same_face (other_side (face_of k) g) (face_of k) ≡ false)
      → (let g : Gluing = record { tet = d.0; perm = slice_index_or words i.0 [] } in get_or s.read_faces (face_number (other_side (face_of k) g)) None ≡ None)
      → (let g : Gluing = record { tet = d.0; perm = slice_index_or words i.0 [] } in record { read_faces = meet_at s.read_faces (face_of k) g; seen = s.seen; parts = record { types = ts; destinations = ds; gluings = gs } } ≡ t)
      → Stepped k s t

-- whether a face was read, by its index
not_some : (o : Option (Option Gluing)) → is_some o ≡ false → o ≡ None
not_some None h = refl
not_some (Some x) h = cc

is_some_at : (o : Option (Option Gluing)) → is_some o ≡ true → (x : Option Gluing) × (o ≡ Some x)
is_some_at None h = absurd cc
is_some_at (Some x) h = (x, refl)

-- if some face was not read, some type remains
some_left : (read_faces : List (Option (Option Gluing))) (p : ℕ) → p < length read_faces → get_or read_faces p None ≡ None → 1 ≤ sum_by free read_faces
some_left [] p l e = absurd (omega arith)
some_left (None ∷ read_faces) zero l e = let c = sum_by-cons free None read_faces in omega (arith, c)
some_left (Some o ∷ read_faces) zero l e = absurd cc
some_left (o ∷ read_faces) (suc p) l e = let h = some_left read_faces p (omega arith) e in let c = sum_by-cons free o read_faces in omega (arith, h, c)

first_of_some : (xs : List (ℕ × ℕ)) → 0 < length xs → xs ≡ signatures.first_pair xs ∷ drop 1 xs
first_of_some [] l = absurd (omega arith)
first_of_some (x ∷ xs) l = refl

seen_stepped : (n k : ℕ) (s t : Slots) (ts : List ℕ) → IsSlots n s → get_or s.read_faces k None ≡ None → s.parts.types ≡ 2 ∷ ts → slot_seen (face_of k) (with_types ts s) ≡ Ok t → Stepped k s t
seen_stepped n k s t ts fit free_k types e =
    let d : ℕ × ℕ = signatures.first_pair s.parts.destinations in
    let i : ℕ × ℕ = signatures.first_pair s.parts.gluings in
    let g : Gluing = record { tet = d.0; perm = slice_index_or words i.0 [] } in
    let made : Slots = record { read_faces = meet_at s.read_faces (face_of k) g; seen = s.seen; parts = record { types = ts; destinations = drop 1 s.parts.destinations; gluings = drop 1 s.parts.gluings } } in
    let taken : Bool = same_face (other_side (face_of k) g) (face_of k) || is_some (slot s.read_faces (other_side (face_of k) g)) in
    let first = unless_ok (nat_le s.seen d.0) (sig_faults.Destination d.1) (signatures.unless taken (sig_faults.FaceTaken i.1) (Ok made)) t e in
    let second = unless_ok taken (sig_faults.FaceTaken i.1) (Ok made) t first.1 in
    let parts = or_parts (same_face (other_side (face_of k) g) (face_of k)) (is_some (slot s.read_faces (other_side (face_of k) g))) second.0 in
    let twos : times_in s.parts.types 2 ≡ 1 + times_in ts 2 = ap (λ xs. times_in xs 2) types ∙ times-same 2 ts in
    let some_d : 0 < length s.parts.destinations = (let l = fit.destinations in omega (arith, l, twos)) in
    let some_g : 0 < length s.parts.gluings = (let l = fit.gluings in omega (arith, l, twos)) in
    glues ts d i (drop 1 s.parts.destinations) (drop 1 s.parts.gluings) free_k types (first_of_some s.parts.destinations some_d) (first_of_some s.parts.gluings some_g)
    (fit.indices 0 (0, 0) some_g) (not_le s.seen d.0 first.0) parts.0 (not_some (slot s.read_faces (other_side (face_of k) g)) parts.1) (ok_same made t second.1)

pub stepped : (n k : ℕ) (s t : Slots) → k < 4 * n → IsJoined n k s → slot_face (face_of k) s ≡ Ok t → ((face_of k).tet < s.seen) × Stepped k s t
stepped n k s t inside j e =
    let first = unless_ok (nat_le s.seen (face_of k).tet) sig_faults.Unreached (slot_next (face_of k) s.parts.types s) t e in
    (not_le s.seen (face_of k).tet first.0, next s.parts.types refl first.1)
  where
    fit : IsSlots n s
    fit = j.fit

    here : slot s.read_faces (face_of k) ≡ get_or s.read_faces k None
    here = ap (λ p. get_or s.read_faces p None) (number-face_of k)

    by_type : (type : ℕ) (ts : List ℕ) → s.parts.types ≡ type ∷ ts → type < 3 → get_or s.read_faces k None ≡ None → slot_type (face_of k) type (with_types ts s) ≡ Ok t → Stepped k s t
    by_type zero ts types small free_k e = bounds ts free_k types (ok_same (slot_boundary (face_of k) (with_types ts s)) t e)
    by_type (suc zero) ts types small free_k e = reaches ts free_k types (ok_same (slot_new (face_of k) (with_types ts s)) t e)
    by_type (suc (suc zero)) ts types small free_k e = seen_stepped n k s t ts fit free_k types e
    by_type (suc (suc (suc type))) ts types small free_k e = absurd (omega arith)

    next : (ts : List ℕ) → s.parts.types ≡ ts → slot_next (face_of k) ts s ≡ Ok t → Stepped k s t
    next [] types e = by_bool (is_some (slot s.read_faces (face_of k)))
        (λ read_faces. let o = is_some_at (slot s.read_faces (face_of k)) read_faces in stays o.0 (sym here ∙ o.1) (ok_same s t e))
        (λ not_met. absurd (let size = fit.size in let l : k < length s.read_faces = omega (arith, size) in let some = some_left s.read_faces k l (sym here ∙ not_some (slot s.read_faces (face_of k)) not_met) in let c = j.count in let z = ap (sum_by faces_of_type) types in omega (arith, some, c, z)))
    next (type ∷ ts) types e = by_bool (is_some (slot s.read_faces (face_of k)))
        (λ read_faces. let o = is_some_at (slot s.read_faces (face_of k)) read_faces in stays o.0 (sym here ∙ o.1) (ok_same s t (if_first (is_some (slot s.read_faces (face_of k))) (Ok s) (slot_type (face_of k) type (with_types ts s)) read_faces e)))
        (λ not_met. by_type type ts types (let P : List ℕ → Type 0 = λ xs. All (λ u. u < 3) xs in subst P types fit.small 0 0 (omega arith)) (sym here ∙ not_some (slot s.read_faces (face_of k)) not_met)
        (if_second (is_some (slot s.read_faces (face_of k))) (Ok s) (slot_type (face_of k) type (with_types ts s)) not_met e))
      where
        if_first : (b : Bool) (r q : Result Slots SigFault) → b ≡ true → (if b then r else q) ≡ Ok t → r ≡ Ok t
        if_first true r q a h = h
        if_first false r q a h = absurd cc

        if_second : (b : Bool) (r q : Result Slots SigFault) → b ≡ false → (if b then r else q) ≡ Ok t → q ≡ Ok t
        if_second true r q a h = absurd cc
        if_second false r q a h = h
