-- Joining face after face keeps the gluings that were read, and reads all faces before the next one.
use Rattle.std.proofs.Common.{◌≡◌, ◌≢◌, ℕ, zero, suc, ◌+◌, ◌*◌, ◌/◌, ◌%◌, ◌<◌, ◌≤◌, false, List, [], ◌∷◌, length, get_or, replicate, Option, Some, None, refl, sym, ap, ◌∙◌, subst, arith, ◌⊎◌, inl, inr, ⊎_elim}
use Rattle.std.specs.Prelude.{Ok, slice_set, sum_by}
use Rattle.std.specs.List.{slice_index_or}
use Rattle.std.proofs.lemmas.Bool.{cases_eq}
use Rattle.std.proofs.lemmas.Grind.{get_or-set_at}
use Rattle.std.proofs.lemmas.List.{length-set, get_or-set_other, get_or_past}
use Rattle.std.proofs.lemmas.List.Sums.{sum_by-set, sum_by-cons}
use Rattle.basic_lemmas.proofs.Truths.{by_bool}
use Rattle.table_definitions.specs.Lists.{times_in}
use Rattle.table_definitions.specs.Permutation.{identity, words, image, IsPermutationOfFour}
use Rattle.table_definitions.specs.Table.{Gluing, Face, other_side, inverse_gluing, same_face, face_number}
use Rattle.table_definitions.proofs.Faces.{same_face-true, there_and_back, number-face_of, face_of-number}
use Rattle.signature_definitions.specs.SignatureText as signatures
use Rattle.signature_definitions.specs.SignatureText.{faces_of_type}
use Rattle.table_definitions.proofs.Permutations.{image_below, words_permute}
use Rattle.table_definitions.specs.Places.{face_of}
use Rattle.signature_text_laws.specs.Slots.{Slots, meet_at, slot_boundary, slot_new, with_types, slot_face, slot_faces, slots_begun, IsSlots}
use Rattle.signature_text_laws.proofs.SlotLaws.{ok_same, face_kept, times-same}
use Rattle.signature_text_laws.proofs.Simulation.{place-separate}
use Rattle.text_definitions.proofs.Readers.{bind_ok}
use Rattle.signature_text_laws.proofs.Stepping.{free, IsJoined, Stepped, stays, bounds, reaches, glues, stepped}

-- a face that was not read is different from each that was
none_apart : (read_faces : List (Option (Option Gluing))) (p q : ℕ) (o : Option Gluing) → get_or read_faces q None ≡ None → get_or read_faces p None ≡ Some o → p ≢ q
none_apart read_faces p q o none some e = let f = ap (λ m. get_or read_faces m None) e in cc

-- the conditions under which both sides of the face at index k are read
pub record BothMet (read_faces : List (Option (Option Gluing))) (k : ℕ) (g : Gluing) : Type 0 where
  pub inside : k < length read_faces
  pub inside_other : face_number (other_side (face_of k) g) < length read_faces
  pub permutes : IsPermutationOfFour g.perm
  pub free_here : get_or read_faces k None ≡ None
  pub free_other : get_or read_faces (face_number (other_side (face_of k) g)) None ≡ None
  pub separate : same_face (other_side (face_of k) g) (face_of k) ≡ false

pub other_face : (k : ℕ) (g : Gluing) → IsPermutationOfFour g.perm → (other_side (face_of k) g).face < 4
other_face k g p = image_below g.perm p (k % 4) (omega arith)

other_apart : (read_faces : List (Option (Option Gluing))) (k : ℕ) (g : Gluing) → BothMet read_faces k g → face_number (other_side (face_of k) g) ≢ k
other_apart read_faces k g b e = place-separate (other_side (face_of k) g) (face_of k) (other_face k g b.permutes) (omega arith) b.separate (number-face_of k ∙ sym e)

pub met_here : (read_faces : List (Option (Option Gluing))) (k : ℕ) (g : Gluing) → BothMet read_faces k g → get_or (meet_at read_faces (face_of k) g) k None ≡ Some (Some g)
met_here read_faces k g b =
    let q : ℕ = face_number (other_side (face_of k) g) in
    let there : k ≡ face_number (face_of k) = sym (number-face_of k) in
    let i = b.inside in
    let l : face_number (face_of k) < length (slice_set read_faces q (Some (Some (inverse_gluing (face_of k) g)))) = rw (length-set read_faces q (Some (Some (inverse_gluing (face_of k) g)))) (omega (arith, i, there)) in
    get_or-set_at (slice_set read_faces q (Some (Some (inverse_gluing (face_of k) g)))) (face_number (face_of k)) k (Some (Some g)) None there l

pub met_elsewhere : (read_faces : List (Option (Option Gluing))) (k : ℕ) (g : Gluing) (p : ℕ) → p ≢ k → p ≢ face_number (other_side (face_of k) g) → get_or (meet_at read_faces (face_of k) g) p None ≡ get_or read_faces p None
met_elsewhere read_faces k g p a b =
    let q : ℕ = face_number (other_side (face_of k) g) in
    let ne : p ≢ face_number (face_of k) = λ e. a (e ∙ number-face_of k) in
    get_or-set_other (slice_set read_faces q (Some (Some (inverse_gluing (face_of k) g)))) (face_number (face_of k)) p (Some (Some g)) None ne
    ∙ get_or-set_other read_faces q p (Some (Some (inverse_gluing (face_of k) g))) None b

pub met_other : (read_faces : List (Option (Option Gluing))) (k : ℕ) (g : Gluing) → BothMet read_faces k g → get_or (meet_at read_faces (face_of k) g) (face_number (other_side (face_of k) g)) None ≡ Some (Some (inverse_gluing (face_of k) g))
met_other read_faces k g b =
    let q : ℕ = face_number (other_side (face_of k) g) in
    let ne : q ≢ face_number (face_of k) = λ e. other_apart read_faces k g b (e ∙ number-face_of k) in
    get_or-set_other (slice_set read_faces q (Some (Some (inverse_gluing (face_of k) g)))) (face_number (face_of k)) q (Some (Some g)) None ne
    ∙ get_or-set_at read_faces q q (Some (Some (inverse_gluing (face_of k) g))) None refl b.inside_other

-- two faces fewer remain
pub met_count : (read_faces : List (Option (Option Gluing))) (k : ℕ) (g : Gluing) → BothMet read_faces k g → sum_by free (meet_at read_faces (face_of k) g) + 2 ≡ sum_by free read_faces
met_count read_faces k g b =
    let q : ℕ = face_number (other_side (face_of k) g) in
    let back : Option (Option Gluing) = Some (Some (inverse_gluing (face_of k) g)) in
    let there : face_number (face_of k) ≡ k = number-face_of k in
    let ne : face_number (face_of k) ≢ q = λ e. other_apart read_faces k g b (sym e ∙ there) in
    let i = b.inside in
    let l : face_number (face_of k) < length (slice_set read_faces q back) = rw (length-set read_faces q back) (omega (arith, i, there)) in
    let none : get_or (slice_set read_faces q back) (face_number (face_of k)) None ≡ None = get_or-set_other read_faces q (face_number (face_of k)) back None ne ∙ ap (λ p. get_or read_faces p None) there ∙ b.free_here in
    let first = sum_by-set free read_faces q back None b.inside_other in
    let second = sum_by-set free (slice_set read_faces q back) (face_number (face_of k)) (Some (Some g)) None l in
    let f : free (get_or read_faces q None) ≡ 1 = ap free b.free_other in
    let h : free (get_or (slice_set read_faces q back) (face_number (face_of k)) None) ≡ 1 = ap free none in
    omega (arith, first, second, f, h)

-- the gluings that were read are kept
pub met_kept : (read_faces : List (Option (Option Gluing))) (k : ℕ) (g : Gluing) → BothMet read_faces k g → (p : ℕ) (o : Option Gluing) → get_or read_faces p None ≡ Some o → get_or (meet_at read_faces (face_of k) g) p None ≡ Some o
met_kept read_faces k g b p o e = met_elsewhere read_faces k g p (none_apart read_faces p k o b.free_here e) (none_apart read_faces p (face_number (other_side (face_of k) g)) o b.free_other e) ∙ e

both_joined : (n k seen : ℕ) (parts : signatures.Parts) (s : Slots) (g : Gluing) → IsJoined n k s → BothMet s.read_faces k g → s.seen ≤ seen → k / 4 < seen → g.tet < seen
    → sum_by faces_of_type s.parts.types ≡ 2 + sum_by faces_of_type parts.types → IsSlots n (record { read_faces = meet_at s.read_faces (face_of k) g; seen = seen; parts = parts })
    → IsJoined n (k + 1) (record { read_faces = meet_at s.read_faces (face_of k) g; seen = seen; parts = parts })
both_joined n k seen parts s g j b most hx hg sum fit = record {
  fit = fit;
  range = λ p o e. by_place p (p < 4 * seen)
      (λ same. omega arith)
      (λ same. let f = other_face k g b.permutes in omega (arith, f, same))
      (λ a c. let r = j.range p o (sym (met_elsewhere s.read_faces k g p a c) ∙ e) in omega (arith, r));
  before = λ p l. ⊎_elim
      (λ (same : p ≡ k). (Some g, ap (λ m. get_or (meet_at s.read_faces (face_of k) g) m None) same ∙ met_here s.read_faces k g b))
      (λ (separate : p ≡ k → ⊥). let h = j.before p (omega arith) in (h.0, met_kept s.read_faces k g b p h.0 h.1))
      (cases_eq p k);
  origin = λ p o e. by_place p ((p < k + 1) ⊎ ((h : Gluing) × (o ≡ Some h) × (face_number (other_side (face_of p) h) < k + 1)))
      (λ same. inl (omega arith))
      (λ same. inr (inverse_gluing (face_of k) g, some_same o (Some (inverse_gluing (face_of k) g)) (sym e ∙ ap (λ m. get_or (meet_at s.read_faces (face_of k) g) m None) same ∙ met_other s.read_faces k g b), returns p same))
      (λ a c. ⊎_elim
      (λ (l : p < k). inl (omega arith))
      (λ (h : (h : Gluing) × (o ≡ Some h) × (face_number (other_side (face_of p) h) < k)). inr (h.0, h.1, (let l = h.2 in omega (arith, l))))
      (j.origin p o (sym (met_elsewhere s.read_faces k g p a c) ∙ e)));
  count = let c = met_count s.read_faces k g b in let d = j.count in omega (arith, c, d, sum);
}
  where
    by_place : (p : ℕ) (P : Type 0) → (p ≡ k → P) → (p ≡ face_number (other_side (face_of k) g) → P) → (p ≢ k → p ≢ face_number (other_side (face_of k) g) → P) → P
    by_place p P f h i = ⊎_elim f (λ (a : p ≡ k → ⊥). ⊎_elim h (λ (c : p ≡ face_number (other_side (face_of k) g) → ⊥). i a c) (cases_eq p (face_number (other_side (face_of k) g)))) (cases_eq p k)

    some_same : (x y : Option Gluing) → Some x ≡ Some y → x ≡ y
    some_same x y e = cc

    returns : (p : ℕ) → p ≡ face_number (other_side (face_of k) g) → face_number (other_side (face_of p) (inverse_gluing (face_of k) g)) < k + 1
    returns p same =
        let f : face_of p ≡ other_side (face_of k) g = ap face_of same ∙ face_of-number (other_side (face_of k) g) (other_face k g b.permutes) in
        let e : face_number (other_side (face_of p) (inverse_gluing (face_of k) g)) ≡ k =
        ap (λ y. face_number (other_side y (inverse_gluing (face_of k) g))) f ∙ ap face_number (there_and_back (face_of k) g b.permutes (omega arith)) ∙ number-face_of k in
        omega (arith, e)

-- a boundary face
pub bound_here : (read_faces : List (Option (Option Gluing))) (k : ℕ) → k < length read_faces → get_or (slice_set read_faces (face_number (face_of k)) (Some None)) k None ≡ Some None
bound_here read_faces k l = let there : k ≡ face_number (face_of k) = sym (number-face_of k) in get_or-set_at read_faces (face_number (face_of k)) k (Some None) None there (omega (arith, there))

pub bound_elsewhere : (read_faces : List (Option (Option Gluing))) (k p : ℕ) → p ≢ k → get_or (slice_set read_faces (face_number (face_of k)) (Some None)) p None ≡ get_or read_faces p None
bound_elsewhere read_faces k p a = get_or-set_other read_faces (face_number (face_of k)) p (Some None) None (λ e. a (e ∙ number-face_of k))

pub bound_kept : (read_faces : List (Option (Option Gluing))) (k : ℕ) → get_or read_faces k None ≡ None → (p : ℕ) (o : Option Gluing) → get_or read_faces p None ≡ Some o → get_or (slice_set read_faces (face_number (face_of k)) (Some None)) p None ≡ Some o
bound_kept read_faces k none p o e = bound_elsewhere read_faces k p (none_apart read_faces p k o none e) ∙ e

pub bound_count : (read_faces : List (Option (Option Gluing))) (k : ℕ) → k < length read_faces → get_or read_faces k None ≡ None → sum_by free (slice_set read_faces (face_number (face_of k)) (Some None)) + 1 ≡ sum_by free read_faces
bound_count read_faces k l none =
    let there : face_number (face_of k) ≡ k = number-face_of k in
    let first = sum_by-set free read_faces (face_number (face_of k)) (Some None) None (omega (arith, there)) in
    let f : free (get_or read_faces (face_number (face_of k)) None) ≡ 1 = ap free (ap (λ p. get_or read_faces p None) there ∙ none) in
    omega (arith, first, f)

bound_joined : (n k : ℕ) (ts : List ℕ) (s : Slots) → k < length s.read_faces → IsJoined n k s → get_or s.read_faces k None ≡ None → k / 4 < s.seen → s.parts.types ≡ 0 ∷ ts → IsSlots n (slot_boundary (face_of k) (with_types ts s))
    → IsJoined n (k + 1) (slot_boundary (face_of k) (with_types ts s))
bound_joined n k ts s l j none hx types fit = record {
  fit = fit;
  range = λ p o e. ⊎_elim (λ (same : p ≡ k). omega arith) (λ (a : p ≡ k → ⊥). j.range p o (sym (bound_elsewhere s.read_faces k p a) ∙ e)) (cases_eq p k);
  before = λ p m. ⊎_elim
      (λ (same : p ≡ k). (None, ap (λ q. get_or (slice_set s.read_faces (face_number (face_of k)) (Some None)) q None) same ∙ bound_here s.read_faces k l))
      (λ (a : p ≡ k → ⊥). let h = j.before p (omega arith) in (h.0, bound_kept s.read_faces k none p h.0 h.1))
      (cases_eq p k);
  origin = λ p o e. ⊎_elim
      (λ (same : p ≡ k). inl (omega arith))
      (λ (a : p ≡ k → ⊥). ⊎_elim
      (λ (m : p < k). inl (omega arith))
      (λ (h : (h : Gluing) × (o ≡ Some h) × (face_number (other_side (face_of p) h) < k)). inr (h.0, h.1, (let q = h.2 in omega (arith, q))))
      (j.origin p o (sym (bound_elsewhere s.read_faces k p a) ∙ e)))
      (cases_eq p k);
  count = let c = bound_count s.read_faces k l none in let d = j.count in let f : sum_by faces_of_type s.parts.types ≡ 1 + sum_by faces_of_type ts = ap (sum_by faces_of_type) types ∙ sum_by-cons faces_of_type 0 ts in omega (arith, c, d, f);
}

-- both sides of a face of type 1, and of one of type 2
pub new_met : (n k : ℕ) (s : Slots) (ts : List ℕ) → k < 4 * n → IsJoined n k s → k / 4 < s.seen → get_or s.read_faces k None ≡ None → s.parts.types ≡ 1 ∷ ts → BothMet s.read_faces k (record { tet = s.seen; perm = identity })
new_met n k s ts l j hx none types = record {
  inside = let size = fit.size in omega (arith, size);
  inside_other = let size = fit.size in omega (arith, size, room, face);
  permutes = words_permute 0 (omega arith);
  free_here = none;
  free_other = cases (get_or s.read_faces q None) refl;
  separate = by_bool (same_face (other_side (face_of k) g) (face_of k)) (λ same. absurd (let f = ap (λ (y : Face). y.tet) (same_face-true (other_side (face_of k) g) (face_of k) same) in omega (arith, f, hx))) (λ a. a);
}
  where
    g : Gluing
    g = record { tet = s.seen; perm = identity }

    q : ℕ
    q = face_number (other_side (face_of k) (record { tet = s.seen; perm = identity }))

    fit : IsSlots n s
    fit = j.fit

    face : image identity (k % 4) < 4
    face = image_below identity (words_permute 0 (omega arith)) (k % 4) (omega arith)

    room : s.seen < n
    room = let r = j.fit.room in let one = ap (λ xs. times_in xs 1) types in let two = times-same 1 ts in omega (arith, r, one, two)

    cases : (o : Option (Option Gluing)) → get_or s.read_faces (face_number (other_side (face_of k) (record { tet = s.seen; perm = identity }))) None ≡ o → o ≡ None
    cases None e = refl
    cases (Some o) e = absurd (let r = j.range (face_number (other_side (face_of k) (record { tet = s.seen; perm = identity }))) o e in omega (arith, r))

pub glues_met : (n k : ℕ) (s : Slots) (g : Gluing) → k < 4 * n → IsSlots n s → g.tet < n → IsPermutationOfFour g.perm → get_or s.read_faces k None ≡ None → get_or s.read_faces (face_number (other_side (face_of k) g)) None ≡ None
    → same_face (other_side (face_of k) g) (face_of k) ≡ false → BothMet s.read_faces k g
glues_met n k s g l fit lt p none none' separate = record {
  inside = let size = fit.size in omega (arith, size);
  inside_other = let size = fit.size in let f = other_face k g p in omega (arith, size, f);
  permutes = p;
  free_here = none;
  free_other = none';
  separate = separate;
}

two_faces : (type : ℕ) (ts xs : List ℕ) → faces_of_type type ≡ 2 → xs ≡ type ∷ ts → sum_by faces_of_type xs ≡ 2 + sum_by faces_of_type ts
two_faces type ts xs two e = ap (sum_by faces_of_type) e ∙ sum_by-cons faces_of_type type ts ∙ ap (λ m. m + sum_by faces_of_type ts) two

-- a further face is joined
pub joined_on : (n k : ℕ) (s t : Slots) → k < 4 * n → IsJoined n k s → k / 4 < s.seen → IsSlots n t → Stepped k s t → IsJoined n (k + 1) t × ((p : ℕ) (o : Option Gluing) → get_or s.read_faces p None ≡ Some o → get_or t.read_faces p None ≡ Some o)
joined_on n k s t l j hx fit (stays o e same) = (
  subst (IsJoined n (k + 1)) same (record {
    fit = j.fit;
    range = j.range;
    before = λ p m. ⊎_elim (λ (here : p ≡ k). (o, ap (λ q. get_or s.read_faces q None) here ∙ e)) (λ (a : p ≡ k → ⊥). j.before p (omega arith)) (cases_eq p k);
    origin = λ p x f. ⊎_elim (λ (m : p < k). inl (omega arith)) (λ (h : (h : Gluing) × (x ≡ Some h) × (face_number (other_side (face_of p) h) < k)). inr (h.0, h.1, (let q = h.2 in omega (arith, q)))) (j.origin p x f);
    count = j.count;
  }),
  λ p x f. ap (λ (u : Slots). get_or u.read_faces p None) (sym same) ∙ f,
)
joined_on n k s t l j hx fit (bounds ts none types same) =
    let fit' : IsSlots n (slot_boundary (face_of k) (with_types ts s)) = subst (IsSlots n) (sym same) fit in
    let inside : k < length s.read_faces = (let f = j.fit in let size = f.size in omega (arith, size)) in
    (subst (IsJoined n (k + 1)) same (bound_joined n k ts s inside j none hx types fit'), λ p x f. ap (λ (u : Slots). get_or u.read_faces p None) (sym same) ∙ bound_kept s.read_faces k none p x f)
joined_on n k s t l j hx fit (reaches ts none types same) =
    let g : Gluing = record { tet = s.seen; perm = identity } in
    let b = new_met n k s ts l j hx none types in
    let fit' : IsSlots n (slot_new (face_of k) (with_types ts s)) = subst (IsSlots n) (sym same) fit in (
      subst (IsJoined n (k + 1)) same (both_joined n k (s.seen + 1) (record s.parts { types = ts }) s g j b (omega arith) (omega arith) (omega arith) (two_faces 1 ts s.parts.types refl types) fit'),
      λ p x f. ap (λ (u : Slots). get_or u.read_faces p None) (sym same) ∙ met_kept s.read_faces k g b p x f,
    )
joined_on n k s t l j hx fit (glues ts d i ds gs none types dests gls index late separate free' same) =
    let g : Gluing = record { tet = d.0; perm = slice_index_or words i.0 [] } in
    let parts : signatures.Parts = record { types = ts; destinations = ds; gluings = gs } in
    let old : IsSlots n s = j.fit in
    let room = old.room in
    let b = glues_met n k s g l old (omega (arith, late, room)) (words_permute i.0 index) none free' separate in
    let fit' : IsSlots n (record { read_faces = meet_at s.read_faces (face_of k) g; seen = s.seen; parts = parts }) = subst (IsSlots n) (sym same) fit in (
      subst (IsJoined n (k + 1)) same (both_joined n k s.seen parts s g j b (omega arith) hx late (two_faces 2 ts s.parts.types refl types) fit'),
      λ p x f. ap (λ (u : Slots). get_or u.read_faces p None) (sym same) ∙ met_kept s.read_faces k g b p x f,
    )

-- the gluings that were read are kept to the end
pub kept_on : (n m k : ℕ) (s t : Slots) → k + m ≡ 4 * n → IsJoined n k s → slot_faces m k s ≡ Ok t → (p : ℕ) (o : Option Gluing) → get_or s.read_faces p None ≡ Some o → get_or t.read_faces p None ≡ Some o
unfolding slot_faces
kept_on n zero k s t e j h p o f = let same : s ≡ t = ok_same s t h in ap (λ (u : Slots). get_or u.read_faces p None) (sym same) ∙ f
kept_on n (suc m) k s t e j h p o f =
    let a = bind_ok (slot_face (face_of k) s) (λ u. slot_faces m (k + 1) u) t h in
    let l : k < 4 * n = omega arith in
    let step = stepped n k s a.0 l j a.1 in
    let on = joined_on n k s a.0 l j step.0 (face_kept n (face_of k) s a.0 j.fit a.1) step.1 in
    kept_on n m (k + 1) a.0 t (omega arith) on.0 a.2 p o (on.1 p o f)

-- the state at the start
pub free_count : (n : ℕ) → sum_by free (replicate n None) ≡ n
free_count zero = refl
free_count (suc n) = sum_by-cons free None (replicate n None) ∙ ap (λ m. 1 + m) (free_count n) ∙ omega arith

abbrev unmet : Option (Option Gluing)
unmet = None

never_met : (m p : ℕ) → get_or (replicate m unmet) p unmet ≡ unmet
never_met zero p = get_or_past [] p unmet (omega arith)
never_met (suc m) zero = refl
never_met (suc m) (suc p) = never_met m p

pub joined_begun : (n : ℕ) (parts : signatures.Parts) → IsSlots n (slots_begun n parts) → 4 * n ≡ sum_by faces_of_type parts.types → IsJoined n 0 (slots_begun n parts)
joined_begun n parts fit sum = record {
  fit = fit;
  range = λ p o e. absurd (none p o e);
  before = λ p l. absurd (omega arith);
  origin = λ p o e. absurd (none p o e);
  count = free_count (4 * n) ∙ sum;
}
  where
    none : (p : ℕ) (o : Option Gluing) → get_or (replicate (4 * n) None) p None ≡ Some o → ⊥
    none p o e = let f = never_met (4 * n) p in cc
