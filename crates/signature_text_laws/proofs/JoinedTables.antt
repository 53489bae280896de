-- The joined faces are those of a table.
use Rattle.std.proofs.Common.{◌≡◌, ℕ, zero, suc, ◌+◌, ◌*◌, ◌<◌, ◌≤◌, List, [], length, get_or, map, Option, Some, None, refl, sym, ap, ◌∙◌, subst, arith, ⊎_elim}
use Rattle.std.specs.Prelude.{Result, Ok, Err, not, unwrap_or}
use Rattle.std.specs.List.{range_with_len}
use Rattle.std.proofs.lemmas.Bool.{cases_lt}
use Rattle.std.proofs.lemmas.List.{get_or_past}
use Rattle.std.proofs.lemmas.List.FromFn.{get_or-map-range_with_len, length-map-range_with_len}
use Rattle.std.proofs.lemmas.List.Elements.{All-from_get_or}
use Rattle.table_definitions.specs.Permutation.{four}
use Rattle.table_definitions.specs.Table.{Gluing, Face, Row, IsTable, glue, other_side, inverse_gluing, faces}
use Rattle.table_definitions.specs.Places.{face_of}
use Rattle.signature_definitions.specs.declared.SigFault.{SigFault}
use Rattle.signature_definitions.specs.SignatureText as signatures
use Rattle.signature_definitions.specs.SignatureText.{join_faces, Joining}
use Rattle.text_definitions.proofs.Readers.{bind_ok}
use Rattle.signature_text_laws.specs.Slots.{Slots, slot_face, slots_begun, IsSlots}
use Rattle.signature_text_laws.proofs.SlotLaws.{ok_same, face_kept}
use Rattle.signature_text_laws.proofs.Simulation.{known_in, glued-known, Agree, Agrees, face_step, begun_agrees, faces-places}
use Rattle.signature_text_laws.proofs.SoundJoins.{IsSound, face_sound}

pub agrees_back : (n : ℕ) (r : Result Slots SigFault) (q : Result Joining SigFault) (v : Joining) → Agrees n r q → q ≡ Ok v → (t : Slots) × (r ≡ Ok t) × Agree n t v
agrees_back n (Ok t) (Ok w) v a e = (t, refl, subst (Agree n t) (ok_same w v e) a)
agrees_back n (Ok t) (Err f) v a e = absurd a
agrees_back n (Err f) (Ok w) v a e = absurd a
agrees_back n (Err f) (Err g) v a e = absurd cc

faces_sound : (n m k : ℕ) (s : Slots) (j u : Joining) → Agree n s j → (0 < m → IsSlots n s) → IsSound j.read_faces j.seen → k + m ≤ 4 * n → join_faces (map face_of (range_with_len k m)) j ≡ Ok u
    → IsSound u.read_faces u.seen × (IsSlots n s → u.seen ≤ n)
unfolding join_faces
faces_sound n zero k s j u a h sound l e =
    let same : j ≡ u = ok_same j u e in
    let P : Joining → Type 0 = λ v. IsSound v.read_faces v.seen × (IsSlots n s → v.seen ≤ n) in
    subst P same (sound, λ fit. let r = fit.room in let q = a.seen in omega (arith, r, q))
faces_sound n (suc m) k s j u a h sound l e =
    let ht : (face_of k).tet < n = omega arith in
    let hf : (face_of k).face < 4 = omega arith in
    let slots : IsSlots n s = h (omega arith) in
    let first = bind_ok (signatures.join_face (face_of k) j) (λ v. join_faces (map face_of (range_with_len (k + 1) m)) v) u e in
    let other = agrees_back n (slot_face (face_of k) s) (signatures.join_face (face_of k) j) first.0 (face_step n (face_of k) s j a slots ht hf) first.1 in
    let kept = face_kept n (face_of k) s other.0 slots other.1 in
    let rest = faces_sound n m (k + 1) other.0 first.0 u other.2 (λ some. kept) (face_sound n (face_of k) s j first.0 a.parts slots hf sound first.1) (omega arith) first.2 in
    (rest.0, λ fit. rest.1 kept)

begun_sound : IsSound [] 1
begun_sound = record { range = λ x o e. absurd cc; permutes = λ x g e. absurd cc; separate = λ x g e. absurd cc; back = λ x g e. absurd cc }

-- the gluing of a face in the rows of the faces that were read
pub glue-rows_of : (n : ℕ) (read_faces : List (Face × Option Gluing)) (y : Face) → y.tet < n → y.face < 4 → glue (signatures.rows_of n read_faces) y ≡ signatures.glued_in read_faces y
glue-rows_of n read_faces y ht hf =
    ap (λ (row : Row). get_or row y.face None) (get_or-map-range_with_len (λ t. map (λ f. signatures.glued_in read_faces (record { tet = t; face = f })) four) 0 n y.tet y.tet [] ht (omega arith))
    ∙ get_or-map-range_with_len (λ f. signatures.glued_in read_faces (record { tet = y.tet; face = f })) 0 4 y.face y.face None hf (omega arith)

length-rows_of : (n : ℕ) (read_faces : List (Face × Option Gluing)) → length (signatures.rows_of n read_faces) ≡ n
length-rows_of n read_faces = length-map-range_with_len (λ t. map (λ f. signatures.glued_in read_faces (record { tet = t; face = f })) four) 0 n

four_long : (n : ℕ) (read_faces : List (Face × Option Gluing)) (t : ℕ) → t < n → length (get_or (signatures.rows_of n read_faces) t []) ≡ 4
four_long n read_faces t l = ap (λ (row : Row). length row) (get_or-map-range_with_len (λ t. map (λ f. signatures.glued_in read_faces (record { tet = t; face = f })) four) 0 n t t [] l (omega arith))

glue-exceeded : (n : ℕ) (read_faces : List (Face × Option Gluing)) (y : Face) → n ≤ y.tet → glue (signatures.rows_of n read_faces) y ≡ None
glue-exceeded n read_faces y l =
    let exceeded : length (signatures.rows_of n read_faces) ≤ y.tet = rw (length-rows_of n read_faces) l in
    ap (λ (row : Row). get_or row y.face None) (get_or_past (signatures.rows_of n read_faces) y.tet [] exceeded) ∙ get_or_past [] y.face None (omega arith)

glue-no_face : (n : ℕ) (read_faces : List (Face × Option Gluing)) (y : Face) → y.tet < n → 4 ≤ y.face → glue (signatures.rows_of n read_faces) y ≡ None
glue-no_face n read_faces y ht l = get_or_past (get_or (signatures.rows_of n read_faces) y.tet []) y.face None (rw (four_long n read_faces y.tet ht) l)

-- a face of these rows that is glued was read with this gluing
pub known_glued : (n : ℕ) (read_faces : List (Face × Option Gluing)) (y : Face) (g : Gluing) → glue (signatures.rows_of n read_faces) y ≡ Some g → known_in read_faces y ≡ Some (Some g)
known_glued n read_faces y g e =
    ⊎_elim
    (λ (ht : y.tet < n). ⊎_elim
    (λ (hf : y.face < 4). cases (known_in read_faces y) (glued-known read_faces y ∙ sym (glue-rows_of n read_faces y ht hf) ∙ e))
    (λ (out : 4 ≤ y.face). absurd (none_some (glue-no_face n read_faces y ht out)))
    (cases_lt y.face 4))
    (λ (out : n ≤ y.tet). absurd (none_some (glue-exceeded n read_faces y out)))
    (cases_lt y.tet n)
  where
    cases : (o : Option (Option Gluing)) → unwrap_or o None ≡ Some g → o ≡ Some (Some g)
    cases None h = absurd cc
    cases (Some k) h = ap Some h

    none_some : glue (signatures.rows_of n read_faces) y ≡ None → ⊥
    none_some h = let f : None ≡ Some g = sym h ∙ e in cc

rows_table : (n seen : ℕ) (read_faces : List (Face × Option Gluing)) → n ≤ 1000 → seen ≤ n → IsSound read_faces seen → IsTable (signatures.rows_of n read_faces)
rows_table n seen read_faces limited most h = record {
  limited = rw (length-rows_of n read_faces) limited;
  four_faces = All-from_get_or (λ (row : Row). length row ≡ 4) (signatures.rows_of n read_faces) [] (λ i l. four_long n read_faces i (rw (length-rows_of n read_faces) at l));
  permutes = λ x g e. h.permutes x g (known_glued n read_faces x g e);
  in_range = λ x g e. rw (length-rows_of n read_faces) (let r = h.range (other_side x g) (Some (inverse_gluing x g)) (h.back x g (known_glued n read_faces x g e)) in omega (arith, r.0));
  separate = λ x g e. ap not (h.separate x g (known_glued n read_faces x g e));
  leads_back = λ x g e. back x g (known_glued n read_faces x g e);
}
  where
    back : (x : Face) (g : Gluing) → known_in read_faces x ≡ Some (Some g) → glue (signatures.rows_of n read_faces) (other_side x g) ≡ Some (inverse_gluing x g)
    back x g k =
        let b = h.back x g k in
        let r = h.range (other_side x g) (Some (inverse_gluing x g)) b in
        glue-rows_of n read_faces (other_side x g) (omega (arith, r.0)) r.1 ∙ sym (glued-known read_faces (other_side x g)) ∙ ap (λ o. unwrap_or o None) b

empty_table : IsTable []
empty_table = record {
  limited = omega arith;
  four_faces = λ k d l. absurd (omega arith);
  permutes = λ x g e. absurd (none x g e);
  in_range = λ x g e. absurd (none x g e);
  separate = λ x g e. absurd (none x g e);
  leads_back = λ x g e. absurd (none x g e);
}
  where
    none : (x : Face) (g : Gluing) → glue [] x ≡ Some g → ⊥
    none x g e = let h : glue [] x ≡ None = ap (λ (row : Row). get_or row x.face None) (get_or_past [] x.tet [] (omega arith)) ∙ get_or_past [] x.face None (omega arith) in let f : None ≡ Some g = sym h ∙ e in cc

-- the rows of the last phase are a table
pub joined_table : (n : ℕ) (parts : signatures.Parts) (rows : List Row) → n ≤ 1000 → (0 < n → IsSlots n (slots_begun n parts)) → signatures.table_of n parts ≡ Ok rows → IsTable rows
joined_table zero parts rows limited h e =
    let a = bind_ok (join_faces (faces zero) (record { read_faces = []; seen = 1; parts = parts })) (λ u. Ok (signatures.rows_of zero u.read_faces)) rows e in
    subst IsTable (ok_same (signatures.rows_of zero a.0.read_faces) rows a.2) empty_table
joined_table (suc n) parts rows limited h e =
    let begun : Joining = record { read_faces = []; seen = 1; parts = parts } in
    let a = bind_ok (join_faces (faces (suc n)) begun) (λ u. Ok (signatures.rows_of (suc n) u.read_faces)) rows e in
    let fit : IsSlots (suc n) (slots_begun (suc n) parts) = h (omega arith) in
    let P : List Face → Type 0 = λ xs. join_faces xs begun ≡ Ok a.0 in
    let s = faces_sound (suc n) (4 * suc n) 0 (slots_begun (suc n) parts) begun a.0 (begun_agrees (suc n) parts) (λ some. fit) begun_sound (omega arith) (subst P (faces-places (suc n)) a.1) in
    subst IsTable (ok_same (signatures.rows_of (suc n) a.0.read_faces) rows a.2) (rows_table (suc n) a.0.seen a.0.read_faces limited (s.1 fit) s.0)
