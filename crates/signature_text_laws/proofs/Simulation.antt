-- Joining faces by their indices gives the same result as joining them in a list of the faces that were read.
use Rattle.std.proofs.Common.{◌≡◌, ℕ, zero, suc, ◌+◌, ◌*◌, ◌/◌, ◌%◌, ◌<◌, ◌≤◌, Bool, true, false, List, [], ◌∷◌, length, drop, map, Option, Some, None, refl, sym, ap, ◌∙◌, subst, arith}
use Rattle.std.specs.Prelude.{Result, Ok, Err, find, nat_le, is_some, slice_set, option_map, option_and_then, unwrap_or, ◌||◌, ◌==◌, if◌then◌else◌, cond}
use Rattle.std.specs.List.{slice_index_or, list_any, range_with_len}
use Rattle.std.proofs.lemmas.Bool.{eq-eqb, and_from, false≢true}
use Rattle.std.proofs.lemmas.Grind.{get_or-set_at}
use Rattle.std.proofs.lemmas.List.{length-set, get_or-set_other, get_or-replicate}
use Rattle.basic_lemmas.proofs.Truths.{by_bool}
use Rattle.text_definitions.specs.Reading.{◌>>=◌}
use Rattle.table_definitions.specs.Lists.{below, pairs_of}
use Rattle.table_definitions.specs.Permutation.{four, identity, words, image}
use Rattle.table_definitions.specs.Table.{Gluing, Face, other_side, inverse_gluing, same_face, faces, face_number}
use Rattle.table_definitions.proofs.Faces.{same_face-true}
use Rattle.signature_definitions.specs.declared.SigFault.{SigFault}
use Rattle.signature_definitions.specs.declared.SigFault.TheVariants as sig_faults
use Rattle.signature_definitions.specs.SignatureText as signatures
use Rattle.signature_definitions.specs.SignatureText.{join_faces}
use Rattle.table_definitions.proofs.Permutations.{image_below, words_permute}
use Rattle.table_definitions.specs.Places.{face_of}
use Rattle.signature_text_laws.specs.Slots.{Slots, slot, meet_at, slot_glued, slot_type, with_types, slot_next, slot_face, slot_faces, slots_begun, slot_row, slot_rows, IsSlots, IsTaking}
use Rattle.signature_text_laws.proofs.SlotLaws.{face_kept, times-same}

-- what a list of the faces that were read says of a face
abbrev pub known_in : List (Face × Option Gluing) → Face → Option (Option Gluing)
known_in read_faces x = option_map (λ (m : Face × Option Gluing). m.1) (find (λ (m : Face × Option Gluing). same_face m.0 x) read_faces)

-- the two agree on each face
abbrev pub Shown : ℕ → List (Option (Option Gluing)) → List (Face × Option Gluing) → Type 0
Shown n slots read_faces = (x : Face) → x.tet < n → x.face < 4 → slot slots x ≡ known_in read_faces x

pub record Agree (n : ℕ) (s : Slots) (j : signatures.Joining) : Type 0 where
  pub seen : s.seen ≡ j.seen
  pub parts : s.parts ≡ j.parts
  pub read_faces : Shown n s.read_faces j.read_faces

abbrev pub Agrees : ℕ → Result Slots SigFault → Result signatures.Joining SigFault → Type 0
Agrees n (Ok s) (Ok j) = Agree n s j
Agrees n (Ok s) (Err f) = ⊥
Agrees n (Err e) (Ok j) = ⊥
Agrees n (Err e) (Err f) = e ≡ f

pub place-separate : (x y : Face) → x.face < 4 → y.face < 4 → same_face x y ≡ false → face_number y ≡ face_number x → ⊥
place-separate x y hx hy separate e =
    let t : x.tet ≡ y.tet = omega arith in
    let f : x.face ≡ y.face = omega arith in
    let same : same_face x y ≡ true = and_from (x.tet == y.tet) (x.face == y.face) (eq-eqb x.tet y.tet t) (eq-eqb x.face y.face f) in
    false≢true (sym separate ∙ same)

-- what is known after a further face is read
pub known-here : (x y : Face) (o : Option Gluing) (read_faces : List (Face × Option Gluing)) → same_face x y ≡ true → known_in ((x, o) ∷ read_faces) y ≡ Some o
known-here x y o read_faces h = rw h refl

pub known-other : (x y : Face) (o : Option Gluing) (read_faces : List (Face × Option Gluing)) → same_face x y ≡ false → known_in ((x, o) ∷ read_faces) y ≡ known_in read_faces y
known-other x y o read_faces h = rw h refl

set_shown : (n : ℕ) (slots : List (Option (Option Gluing))) (read_faces : List (Face × Option Gluing)) (x : Face) (o : Option Gluing) → x.face < 4 → face_number x < length slots → Shown n slots read_faces
    → Shown n (slice_set slots (face_number x) (Some o)) ((x, o) ∷ read_faces)
set_shown n slots read_faces x o hx l shown = λ y ht hf. by_bool (same_face x y)
    (λ same. let e : x ≡ y = same_face-true x y same in
    get_or-set_at slots (face_number x) (face_number y) (Some o) None (ap face_number (sym e)) l ∙ sym (known-here x y o read_faces same))
    (λ separate. get_or-set_other slots (face_number x) (face_number y) (Some o) None (place-separate x y hx hf separate) ∙ shown y ht hf ∙ sym (known-other x y o read_faces separate))

meet_shown : (n : ℕ) (slots : List (Option (Option Gluing))) (read_faces : List (Face × Option Gluing)) (x : Face) (g : Gluing) → x.face < 4 → face_number x < length slots
    → image g.perm x.face < 4 → face_number (other_side x g) < length slots → Shown n slots read_faces
    → Shown n (meet_at slots x g) ((x, Some g) ∷ (other_side x g, Some (inverse_gluing x g)) ∷ read_faces)
meet_shown n slots read_faces x g hx lx ho lo shown =
    let first = set_shown n slots read_faces (other_side x g) (Some (inverse_gluing x g)) ho lo shown in
    let inside : face_number x < length (slice_set slots (face_number (other_side x g)) (Some (Some (inverse_gluing x g)))) =
    rw (length-set slots (face_number (other_side x g)) (Some (Some (inverse_gluing x g)))) lx in
    set_shown n (slice_set slots (face_number (other_side x g)) (Some (Some (inverse_gluing x g)))) ((other_side x g, Some (inverse_gluing x g)) ∷ read_faces) x (Some g) hx inside first

-- whether a face was read
pub is_some-known : (read_faces : List (Face × Option Gluing)) (x : Face) → is_some (known_in read_faces x) ≡ list_any (λ (m : Face × Option Gluing). same_face m.0 x) read_faces
is_some-known [] x = refl
is_some-known (m ∷ read_faces) x = choose (same_face m.0 x) (find (λ (m : Face × Option Gluing). same_face m.0 x) read_faces) (list_any (λ (m : Face × Option Gluing). same_face m.0 x) read_faces) (is_some-known read_faces x)
  where
    choose : (b : Bool) (r : Option (Face × Option Gluing)) (q : Bool) → is_some (option_map (λ (m : Face × Option Gluing). m.1) r) ≡ q
        → is_some (option_map (λ (m : Face × Option Gluing). m.1) (cond b (Some m) r)) ≡ (b || q)
    choose true r q h = refl
    choose false r q h = h

pub met_same : (n : ℕ) (slots : List (Option (Option Gluing))) (read_faces : List (Face × Option Gluing)) (x : Face) → Shown n slots read_faces → x.tet < n → x.face < 4
    → is_some (slot slots x) ≡ list_any (λ (m : Face × Option Gluing). same_face m.0 x) read_faces
met_same n slots read_faces x shown ht hf = ap is_some (shown x ht hf) ∙ is_some-known read_faces x

-- the same step on both sides
unless_agrees : (n : ℕ) (b : Bool) (e : SigFault) (r : Result Slots SigFault) (q : Result signatures.Joining SigFault) → (b ≡ false → Agrees n r q)
    → Agrees n (signatures.unless b e r) (signatures.unless b e q)
unless_agrees n true e r q h = refl
unless_agrees n false e r q h = h refl

if_agrees : (n : ℕ) (b : Bool) (r r' : Result Slots SigFault) (q q' : Result signatures.Joining SigFault) → (b ≡ true → Agrees n r q) → (b ≡ false → Agrees n r' q')
    → Agrees n (if b then r else r') (if b then q else q')
if_agrees n true r r' q q' h k = h refl
if_agrees n false r r' q q' h k = k refl

bind_agrees : (n : ℕ) (r : Result Slots SigFault) (q : Result signatures.Joining SigFault) (f : Slots → Result Slots SigFault) (h : signatures.Joining → Result signatures.Joining SigFault)
    → Agrees n r q → ((t : Slots) (u : signatures.Joining) → r ≡ Ok t → Agree n t u → Agrees n (f t) (h u)) → Agrees n (r >>= f) (q >>= h)
bind_agrees n (Ok t) (Ok u) f h a next = next t u refl a
bind_agrees n (Ok t) (Err e) f h a next = absurd a
bind_agrees n (Err e) (Ok u) f h a next = absurd a
bind_agrees n (Err e) (Err d) f h a next = a

pub not_le : (a b : ℕ) → nat_le a b ≡ false → b < a
not_le a b h = grind arith

pub place_inside : (n : ℕ) (x : Face) (slots : List (Option (Option Gluing))) → length slots ≡ 4 * n → x.tet < n → x.face < 4 → face_number x < length slots
place_inside n x slots size ht hf = omega arith

-- a face of type 2
glued_agrees : (n : ℕ) (x : Face) (d i : ℕ × ℕ) (slots : List (Option (Option Gluing))) (read_faces : List (Face × Option Gluing)) (seen : ℕ) (parts : signatures.Parts)
    → Shown n slots read_faces → length slots ≡ 4 * n → seen ≤ n → i.0 < 24 → x.tet < n → x.face < 4
    → Agrees n (slot_glued x d i (record { read_faces = slots; seen = seen; parts = parts })) (signatures.join_seen x d i (record { read_faces = read_faces; seen = seen; parts = parts }))
glued_agrees n x d i slots read_faces seen parts shown size room small ht hf =
    let g : Gluing = record { tet = d.0; perm = slice_index_or words i.0 [] } in
    let ho : image g.perm x.face < 4 = image_below (slice_index_or words i.0 []) (words_permute i.0 small) x.face hf in
    unless_agrees n (nat_le seen d.0) (sig_faults.Destination d.1) _ _ (λ late.
    let below_seen : d.0 < seen = not_le seen d.0 late in
    let lt : d.0 < n = omega arith in
    let e = met_same n slots read_faces (other_side x g) shown lt ho in
    let P : Bool → Type 0 = λ b. Agrees n
    (signatures.unless (same_face (other_side x g) x || is_some (slot slots (other_side x g))) (sig_faults.FaceTaken i.1) (Ok (record { read_faces = meet_at slots x g; seen = seen; parts = parts })))
    (signatures.unless (same_face (other_side x g) x || b) (sig_faults.FaceTaken i.1) (Ok (signatures.meet x g (record { read_faces = read_faces; seen = seen; parts = parts })))) in
    subst P e (unless_agrees n (same_face (other_side x g) x || is_some (slot slots (other_side x g))) (sig_faults.FaceTaken i.1) _ _
    (λ free. record { seen = refl; parts = refl; read_faces = meet_shown n slots read_faces x g hf (place_inside n x slots size ht hf) ho (place_inside n (other_side x g) slots size lt ho) shown })))

-- a face of a type
type_agrees : (n : ℕ) (x : Face) (type : ℕ) (slots : List (Option (Option Gluing))) (read_faces : List (Face × Option Gluing)) (seen : ℕ) (rest : signatures.Parts)
    → Shown n slots read_faces → IsTaking n type (record { read_faces = slots; seen = seen; parts = rest }) → x.tet < n → x.face < 4 → x.tet < seen
    → Agrees n (slot_type x type (record { read_faces = slots; seen = seen; parts = rest })) (signatures.join_type x type rest (record { read_faces = read_faces; seen = seen; parts = rest }))
type_agrees n x zero slots read_faces seen rest shown taking ht hf seen_x =
    record { seen = refl; parts = refl; read_faces = set_shown n slots read_faces x None hf (place_inside n x slots taking.size ht hf) shown }
type_agrees n x (suc zero) slots read_faces seen rest shown taking ht hf seen_x =
    let one = times-same 1 rest.types in
    let room = taking.room in
    let lt : seen < n = omega (arith, one, room) in
    record {
      seen = refl;
      parts = refl;
      read_faces = meet_shown n slots read_faces x (record { tet = seen; perm = identity }) hf (place_inside n x slots taking.size ht hf) (image_below identity (words_permute 0 (omega arith)) x.face hf)
          (place_inside n (record { tet = seen; face = image identity x.face }) slots taking.size lt (image_below identity (words_permute 0 (omega arith)) x.face hf)) shown;
    }
type_agrees n x (suc (suc zero)) slots read_faces seen rest shown taking ht hf seen_x =
    let room = taking.room in
    let same = taking.gluings in
    let two = times-same 2 rest.types in
    let here : 0 < length rest.gluings = omega (arith, same, two) in
    let lt : seen ≤ n = omega (arith, room) in
    glued_agrees n x (signatures.first_pair rest.destinations) (signatures.first_pair rest.gluings) slots read_faces seen
    (record rest { destinations = drop 1 rest.destinations; gluings = drop 1 rest.gluings }) shown taking.size lt (taking.indices 0 (0, 0) here) ht hf
type_agrees n x (suc (suc (suc type))) slots read_faces seen rest shown taking ht hf seen_x = absurd (let small : suc (suc (suc type)) < 3 = taking.small 0 0 (omega arith) in omega arith)

-- the next face, if it was not read
next_agrees : (n : ℕ) (x : Face) (ts : List ℕ) (slots : List (Option (Option Gluing))) (read_faces : List (Face × Option Gluing)) (seen : ℕ) (parts : signatures.Parts)
    → Shown n slots read_faces → IsSlots n (record { read_faces = slots; seen = seen; parts = record parts { types = ts } }) → x.tet < n → x.face < 4 → x.tet < seen
    → Agrees n (slot_next x ts (record { read_faces = slots; seen = seen; parts = record parts { types = ts } })) (signatures.join_next x ts (record { read_faces = read_faces; seen = seen; parts = record parts { types = ts } }))
next_agrees n x [] slots read_faces seen parts shown h ht hf seen_x = record { seen = refl; parts = refl; read_faces = shown }
next_agrees n x (type ∷ types) slots read_faces seen parts shown h ht hf seen_x =
    let s : Slots = record { read_faces = slots; seen = seen; parts = record parts { types = type ∷ types } } in
    let j : signatures.Joining = record { read_faces = read_faces; seen = seen; parts = record parts { types = type ∷ types } } in
    let e = met_same n slots read_faces x shown ht hf in
    let P : Bool → Type 0 = λ b. Agrees n (if is_some (slot slots x) then Ok s else slot_type x type (with_types types s))
    (if b then Ok j else signatures.join_type x type (record parts { types = types }) j) in
    subst P e (if_agrees n (is_some (slot slots x)) _ _ _ _ (λ is_face_read. record { seen = refl; parts = refl; read_faces = shown })
    (λ free. type_agrees n x type slots read_faces seen (record parts { types = types }) shown h ht hf seen_x))

face_agrees : (n : ℕ) (x : Face) (slots : List (Option (Option Gluing))) (read_faces : List (Face × Option Gluing)) (seen : ℕ) (parts : signatures.Parts)
    → Shown n slots read_faces → IsSlots n (record { read_faces = slots; seen = seen; parts = parts }) → x.tet < n → x.face < 4
    → Agrees n (slot_face x (record { read_faces = slots; seen = seen; parts = parts })) (signatures.join_face x (record { read_faces = read_faces; seen = seen; parts = parts }))
face_agrees n x slots read_faces seen parts shown h ht hf =
    unless_agrees n (nat_le seen x.tet) sig_faults.Unreached _ _ (λ late. next_agrees n x parts.types slots read_faces seen parts shown h ht hf (not_le seen x.tet late))

pub face_step : (n : ℕ) (x : Face) (s : Slots) (j : signatures.Joining) → Agree n s j → IsSlots n s → x.tet < n → x.face < 4 → Agrees n (slot_face x s) (signatures.join_face x j)
face_step n x s j a h ht hf =
    let P : ℕ → Type 0 = λ v. Agrees n (slot_face x s) (signatures.join_face x (record { read_faces = j.read_faces; seen = v; parts = j.parts })) in
    let Q : signatures.Parts → Type 0 = λ ps. Agrees n (slot_face x s) (signatures.join_face x (record { read_faces = j.read_faces; seen = s.seen; parts = ps })) in
    subst P a.seen (subst Q a.parts (face_agrees n x s.read_faces j.read_faces s.seen s.parts a.read_faces h ht hf))

-- m faces from index k on
faces_agree : (n m k : ℕ) (s : Slots) (j : signatures.Joining) → Agree n s j → (0 < m → IsSlots n s) → k + m ≤ 4 * n
    → Agrees n (slot_faces m k s) (join_faces (map face_of (range_with_len k m)) j)
unfolding slot_faces join_faces
faces_agree n zero k s j a h l = a
faces_agree n (suc m) k s j a h l =
    let ht : (face_of k).tet < n = omega arith in
    let hf : (face_of k).face < 4 = omega arith in
    let slots : IsSlots n s = h (omega arith) in
    bind_agrees n (slot_face (face_of k) s) (signatures.join_face (face_of k) j) (λ t. slot_faces m (k + 1) t) (λ u. join_faces (map face_of (range_with_len (k + 1) m)) u)
    (face_step n (face_of k) s j a slots ht hf)
    (λ t u made b. let kept = face_kept n (face_of k) s t slots made in faces_agree n m (k + 1) t u b (λ some. kept) (omega arith))

-- the faces of all tetrahedra, in the order of their indices
four_same : (w x y z w' x' y' z' : Face) (rest rest' : List Face) → w ≡ w' → x ≡ x' → y ≡ y' → z ≡ z' → rest ≡ rest' → w ∷ x ∷ y ∷ z ∷ rest ≡ w' ∷ x' ∷ y' ∷ z' ∷ rest'
four_same w x y z w' x' y' z' rest rest' a b c d e = cc

face_same : (a f k : ℕ) → f < 4 → k ≡ 4 * a + f → record { tet = a; face = f } ≡ face_of k
face_same a f k l e =
    let t : a ≡ k / 4 = omega arith in
    let g : f ≡ k % 4 = omega arith in
    λ i. record { tet = t i; face = g i }

faces_from : (a n k m : ℕ) → k ≡ 4 * a → m ≡ 4 * n
    → map (λ (p : ℕ × ℕ). let y : Face = record { tet = p.0; face = p.1 } in y) (pairs_of (range_with_len a n) four) ≡ map face_of (range_with_len k m)
faces_from a zero k m e f = let none : m ≡ 0 = omega arith in rw none refl
faces_from a (suc n) k m e f =
    let more : m ≡ suc (suc (suc (suc (4 * n)))) = omega arith in
    rw more (four_same _ _ _ _ _ _ _ _ _ _ (face_same a 0 k (omega arith) (omega arith)) (face_same a 1 (k + 1) (omega arith) (omega arith))
    (face_same a 2 (k + 1 + 1) (omega arith) (omega arith)) (face_same a 3 (k + 1 + 1 + 1) (omega arith) (omega arith)) (faces_from (a + 1) n (k + 1 + 1 + 1 + 1) (4 * n) (omega arith) refl))

pub faces-places : (n : ℕ) → faces n ≡ map face_of (below (4 * n))
faces-places n = faces_from 0 n 0 (4 * n) refl refl

-- the rows
map-below : {A : Type 0} (f g : ℕ → A) (a n : ℕ) → ((t : ℕ) → a ≤ t → t < a + n → f t ≡ g t) → map f (range_with_len a n) ≡ map g (range_with_len a n)
map-below f g a zero h = refl
map-below f g a (suc n) h =
    let first : f a ≡ g a = h a (omega arith) (omega arith) in
    let others = map-below f g (a + 1) n (λ t l m. h t (omega arith) (omega arith)) in cc

pub glued-known : (read_faces : List (Face × Option Gluing)) (x : Face) → unwrap_or (known_in read_faces x) None ≡ signatures.glued_in read_faces x
glued-known read_faces x = cases (find (λ (m : Face × Option Gluing). same_face m.0 x) read_faces)
  where
    cases : (r : Option (Face × Option Gluing)) → unwrap_or (option_map (λ (m : Face × Option Gluing). m.1) r) None ≡ option_and_then (λ (m : Face × Option Gluing). m.1) r
    cases None = refl
    cases (Some m) = refl

rows_shown : (n : ℕ) (slots : List (Option (Option Gluing))) (read_faces : List (Face × Option Gluing)) → Shown n slots read_faces → slot_rows n slots ≡ signatures.rows_of n read_faces
rows_shown n slots read_faces shown = map-below (slot_row slots) (λ t. map (λ f. signatures.glued_in read_faces (record { tet = t; face = f })) four) 0 n (λ t l m. row_shown t (omega arith))
  where
    row_shown : (t : ℕ) → t < n → slot_row slots t ≡ map (λ f. signatures.glued_in read_faces (record { tet = t; face = f })) four
    row_shown t l =
        map-below (λ f. unwrap_or (slot slots (record { tet = t; face = f })) None) (λ f. signatures.glued_in read_faces (record { tet = t; face = f })) 0 4
        (λ f low high. ap (λ o. unwrap_or o None) (shown (record { tet = t; face = f }) l (omega arith)) ∙ glued-known read_faces (record { tet = t; face = f }))

-- no face was read at first
pub begun_agrees : (n : ℕ) (parts : signatures.Parts) → Agree n (slots_begun n parts) (record { read_faces = []; seen = 1; parts = parts })
begun_agrees n parts = record { seen = refl; parts = refl; read_faces = λ x ht hf. get_or-replicate (4 * n) (face_number x) None None (place_below x ht hf) }
  where
    place_below : (x : Face) → x.tet < n → x.face < 4 → face_number x < 4 * n
    place_below x ht hf = omega arith

same_rows : (n : ℕ) (r : Result Slots SigFault) (q : Result signatures.Joining SigFault) → Agrees n r q
    → (r >>= (λ s. Ok (slot_rows n s.read_faces))) ≡ (q >>= (λ j. Ok (signatures.rows_of n j.read_faces)))
same_rows n (Ok s) (Ok j) a = ap Ok (rows_shown n s.read_faces j.read_faces a.read_faces)
same_rows n (Ok s) (Err f) a = absurd a
same_rows n (Err e) (Ok j) a = absurd a
same_rows n (Err e) (Err f) a = ap Err a

-- the last phase, by indices
pub slots_join : (n : ℕ) (parts : signatures.Parts) → (0 < n → IsSlots n (slots_begun n parts))
    → (slot_faces (4 * n) 0 (slots_begun n parts) >>= (λ s. Ok (slot_rows n s.read_faces))) ≡ signatures.table_of n parts
slots_join n parts h =
    let P : List Face → Type 0 = λ xs. Agrees n (slot_faces (4 * n) 0 (slots_begun n parts)) (join_faces xs (record { read_faces = []; seen = 1; parts = parts })) in
    same_rows n (slot_faces (4 * n) 0 (slots_begun n parts)) (join_faces (faces n) (record { read_faces = []; seen = 1; parts = parts }))
    (subst P (sym (faces-places n)) (faces_agree n (4 * n) 0 (slots_begun n parts) (record { read_faces = []; seen = 1; parts = parts }) (begun_agrees n parts) (λ some. h (omega arith)) (omega arith)))
