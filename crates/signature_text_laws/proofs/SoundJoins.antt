-- The faces that were read are glued as in a table.
use Rattle.std.proofs.Common.{◌≡◌, ℕ, zero, suc, ◌+◌, ◌<◌, ◌≤◌, Bool, true, false, List, [], ◌∷◌, length, drop, Option, Some, None, refl, sym, ap, ◌∙◌, subst, arith, ◌⊎◌, inl, inr, ⊎_elim}
use Rattle.std.specs.Prelude.{Result, Ok, All, nat_le, is_some, ◌||◌, if◌then◌else◌}
use Rattle.std.specs.List.{slice_index_or, list_any}
use Rattle.std.proofs.lemmas.Bool.{false≢true, or_parts}
use Rattle.basic_lemmas.proofs.Truths.{by_bool}
use Rattle.table_definitions.specs.Lists.{times_in}
use Rattle.table_definitions.specs.Permutation.{identity, words, image, IsPermutationOfFour}
use Rattle.table_definitions.specs.Table.{Gluing, Face, other_side, inverse_gluing, same_face}
use Rattle.table_definitions.proofs.Faces.{same_face-true, same_face-itself, there_and_back, back_again}
use Rattle.signature_definitions.specs.declared.SigFault.{SigFault}
use Rattle.signature_definitions.specs.declared.SigFault.TheVariants as sig_faults
use Rattle.signature_definitions.specs.SignatureText as signatures
use Rattle.signature_definitions.specs.SignatureText.{Joining}
use Rattle.table_definitions.proofs.Permutations.{image_below, words_permute, inverse_permutes}
use Rattle.signature_text_laws.specs.Slots.{Slots, IsSlots}
use Rattle.signature_text_laws.proofs.SlotLaws.{unless_ok, ok_same, times-same}
use Rattle.signature_text_laws.proofs.Simulation.{known_in, known-here, known-other, is_some-known, not_le}

-- the faces that were read lie in tetrahedra that are seen, and each glued one is glued to a different face by a gluing
-- with an inverse
pub record IsSound (read_faces : List (Face × Option Gluing)) (seen : ℕ) : Type 0 where
  pub range : (x : Face) (o : Option Gluing) → known_in read_faces x ≡ Some o → (x.tet < seen) × (x.face < 4)
  pub permutes : (x : Face) (g : Gluing) → known_in read_faces x ≡ Some (Some g) → IsPermutationOfFour g.perm
  pub separate : (x : Face) (g : Gluing) → known_in read_faces x ≡ Some (Some g) → same_face (other_side x g) x ≡ false
  pub back : (x : Face) (g : Gluing) → known_in read_faces x ≡ Some (Some g) → known_in read_faces (other_side x g) ≡ Some (Some (inverse_gluing x g))

pub not_known : (read_faces : List (Face × Option Gluing)) (x : Face) → list_any (λ (m : Face × Option Gluing). same_face m.0 x) read_faces ≡ false → known_in read_faces x ≡ None
not_known read_faces x h = cases (known_in read_faces x) (is_some-known read_faces x ∙ h)
  where
    cases : (o : Option (Option Gluing)) → is_some o ≡ false → o ≡ None
    cases None e = refl
    cases (Some g) e = cc

-- a face that was not read is different from each that was
known_apart : (read_faces : List (Face × Option Gluing)) (x y : Face) (o : Option Gluing) → known_in read_faces x ≡ None → known_in read_faces y ≡ Some o → same_face x y ≡ false
known_apart read_faces x y o none some = by_bool (same_face x y) (λ same. absurd (clash (same_face-true x y same))) (λ separate. separate)
  where
    clash : x ≡ y → ⊥
    clash e = let f = ap (known_in read_faces) e in cc

boundary_sound : (read_faces : List (Face × Option Gluing)) (seen : ℕ) (x : Face) → known_in read_faces x ≡ None → x.tet < seen → x.face < 4 → IsSound read_faces seen → IsSound ((x, None) ∷ read_faces) seen
boundary_sound read_faces seen x free ht hf h = record {
  range = λ y o e. by_bool (same_face x y) (λ same. let s : x ≡ y = same_face-true x y same in let P : Face → Type 0 = λ z. (z.tet < seen) × (z.face < 4) in subst P s (ht, hf)) (λ separate. h.range y o (earlier y o separate e));
  permutes = λ y g e. h.permutes y g (glued y g e);
  separate = λ y g e. h.separate y g (glued y g e);
  back = λ y g e. let b = h.back y g (glued y g e) in known-other x (other_side y g) None read_faces (known_apart read_faces x (other_side y g) (Some (inverse_gluing y g)) free b) ∙ b;
}
  where
    earlier : (y : Face) (o : Option Gluing) → same_face x y ≡ false → known_in ((x, None) ∷ read_faces) y ≡ Some o → known_in read_faces y ≡ Some o
    earlier y o separate e = sym (known-other x y None read_faces separate) ∙ e

    glued : (y : Face) (g : Gluing) → known_in ((x, None) ∷ read_faces) y ≡ Some (Some g) → known_in read_faces y ≡ Some (Some g)
    glued y g e = by_bool (same_face x y) (λ same. absurd (let k = known-here x y None read_faces same in cc)) (λ separate. earlier y (Some g) separate e)

pub same_face-sym : (x y : Face) → same_face x y ≡ false → same_face y x ≡ false
same_face-sym x y h = by_bool (same_face y x)
    (λ same. let e : y ≡ x = same_face-true y x same in let P : Face → Type 0 = λ z. same_face z y ≡ false in absurd (false≢true (sym (subst P (sym e) h) ∙ same_face-itself y)))
    (λ separate. separate)

-- both sides of a face are read
abbrev pub met_both : Face → Gluing → List (Face × Option Gluing) → List (Face × Option Gluing)
met_both x g read_faces = (x, Some g) ∷ (other_side x g, Some (inverse_gluing x g)) ∷ read_faces

-- the three cases of a face that was read then
abbrev BothCases : List (Face × Option Gluing) → Face → Gluing → Face → Option Gluing → Type 0
BothCases read_faces x g y o = ((x ≡ y) × (o ≡ Some g)) ⊎ ((other_side x g ≡ y) × (o ≡ Some (inverse_gluing x g))) ⊎ (known_in read_faces y ≡ Some o)

both_cases : (read_faces : List (Face × Option Gluing)) (x : Face) (g : Gluing) (y : Face) (o : Option Gluing) → known_in (met_both x g read_faces) y ≡ Some o → BothCases read_faces x g y o
both_cases read_faces x g y o e = by_bool (same_face x y)
    (λ same. inl (same_face-true x y same, some_same o (Some g) (sym e ∙ known-here x y (Some g) ((other_side x g, Some (inverse_gluing x g)) ∷ read_faces) same)))
    (λ separate. let f : known_in ((other_side x g, Some (inverse_gluing x g)) ∷ read_faces) y ≡ Some o = sym (known-other x y (Some g) ((other_side x g, Some (inverse_gluing x g)) ∷ read_faces) separate) ∙ e in
    by_bool (same_face (other_side x g) y)
    (λ same. inr (inl (same_face-true (other_side x g) y same, some_same o (Some (inverse_gluing x g)) (sym f ∙ known-here (other_side x g) y (Some (inverse_gluing x g)) read_faces same))))
    (λ separate'. inr (inr (sym (known-other (other_side x g) y (Some (inverse_gluing x g)) read_faces separate') ∙ f))))
  where
    some_same : (a b : Option Gluing) → Some a ≡ Some b → a ≡ b
    some_same a b h = cc

pub known_both-x : (read_faces : List (Face × Option Gluing)) (x : Face) (g : Gluing) → known_in (met_both x g read_faces) x ≡ Some (Some g)
known_both-x read_faces x g = known-here x x (Some g) ((other_side x g, Some (inverse_gluing x g)) ∷ read_faces) (same_face-itself x)

pub known_both-other : (read_faces : List (Face × Option Gluing)) (x : Face) (g : Gluing) → same_face (other_side x g) x ≡ false → known_in (met_both x g read_faces) (other_side x g) ≡ Some (Some (inverse_gluing x g))
known_both-other read_faces x g separate =
    known-other x (other_side x g) (Some g) ((other_side x g, Some (inverse_gluing x g)) ∷ read_faces) (same_face-sym (other_side x g) x separate)
    ∙ known-here (other_side x g) (other_side x g) (Some (inverse_gluing x g)) read_faces (same_face-itself (other_side x g))

pub known_both-earlier : (read_faces : List (Face × Option Gluing)) (x : Face) (g : Gluing) (y : Face) (o : Option Gluing) → known_in read_faces x ≡ None → known_in read_faces (other_side x g) ≡ None → known_in read_faces y ≡ Some o
    → known_in (met_both x g read_faces) y ≡ Some o
known_both-earlier read_faces x g y o free free' e =
    known-other x y (Some g) ((other_side x g, Some (inverse_gluing x g)) ∷ read_faces) (known_apart read_faces x y o free e)
    ∙ known-other (other_side x g) y (Some (inverse_gluing x g)) read_faces (known_apart read_faces (other_side x g) y o free' e) ∙ e

pub both_sound : (read_faces : List (Face × Option Gluing)) (seen next : ℕ) (x : Face) (g : Gluing) → known_in read_faces x ≡ None → known_in read_faces (other_side x g) ≡ None → same_face (other_side x g) x ≡ false
    → x.tet < next → g.tet < next → seen ≤ next → x.face < 4 → IsPermutationOfFour g.perm → IsSound read_faces seen → IsSound (met_both x g read_faces) next
both_sound read_faces seen next x g free free' separate hx hg more hf p h = record {
  range = λ y o e. ⊎_elim
      (λ (c : (x ≡ y) × (o ≡ Some g)). let P : Face → Type 0 = λ z. (z.tet < next) × (z.face < 4) in subst P c.0 (hx, hf))
      (λ (c : ((other_side x g ≡ y) × (o ≡ Some (inverse_gluing x g))) ⊎ (known_in read_faces y ≡ Some o)). ⊎_elim
      (λ (d : (other_side x g ≡ y) × (o ≡ Some (inverse_gluing x g))). let P : Face → Type 0 = λ z. (z.tet < next) × (z.face < 4) in subst P d.0 (hg, ho))
      (λ (d : known_in read_faces y ≡ Some o). let r = h.range y o d in (omega (arith, r.0), r.1)) c)
      (both_cases read_faces x g y o e);
  permutes = λ y k e. ⊎_elim
      (λ (c : (x ≡ y) × (Some k ≡ Some g)). subst Permutes (sym (some_same k g c.1)) p)
      (λ (c : ((other_side x g ≡ y) × (Some k ≡ Some (inverse_gluing x g))) ⊎ (known_in read_faces y ≡ Some (Some k))). ⊎_elim
      (λ (d : (other_side x g ≡ y) × (Some k ≡ Some (inverse_gluing x g))). subst Permutes (sym (some_same k (inverse_gluing x g) d.1)) (inverse_permutes g.perm p))
      (λ (d : known_in read_faces y ≡ Some (Some k)). h.permutes y k d) c)
      (both_cases read_faces x g y (Some k) e);
  separate = λ y k e. ⊎_elim
      (λ (c : (x ≡ y) × (Some k ≡ Some g)). at_both y k c.0 (some_same k g c.1))
      (λ (c : ((other_side x g ≡ y) × (Some k ≡ Some (inverse_gluing x g))) ⊎ (known_in read_faces y ≡ Some (Some k))). ⊎_elim
      (λ (d : (other_side x g ≡ y) × (Some k ≡ Some (inverse_gluing x g))). at_other y k d.0 (some_same k (inverse_gluing x g) d.1))
      (λ (d : known_in read_faces y ≡ Some (Some k)). h.separate y k d) c)
      (both_cases read_faces x g y (Some k) e);
  back = λ y k e. ⊎_elim
      (λ (c : (x ≡ y) × (Some k ≡ Some g)). back_both y k c.0 (some_same k g c.1))
      (λ (c : ((other_side x g ≡ y) × (Some k ≡ Some (inverse_gluing x g))) ⊎ (known_in read_faces y ≡ Some (Some k))). ⊎_elim
      (λ (d : (other_side x g ≡ y) × (Some k ≡ Some (inverse_gluing x g))). back_other y k d.0 (some_same k (inverse_gluing x g) d.1))
      (λ (d : known_in read_faces y ≡ Some (Some k)). known_both-earlier read_faces x g (other_side y k) (Some (inverse_gluing y k)) free free' (h.back y k d)) c)
      (both_cases read_faces x g y (Some k) e);
}
  where
    Permutes : Gluing → Type 0
    Permutes k = IsPermutationOfFour k.perm

    some_same : (k l : Gluing) → Some k ≡ Some l → k ≡ l
    some_same k l e = cc

    ho : image g.perm x.face < 4
    ho = image_below g.perm p x.face hf

    at_both : (y : Face) (k : Gluing) → x ≡ y → k ≡ g → same_face (other_side y k) y ≡ false
    at_both y k e f = (let P : Face → Gluing → Type 0 = λ z m. same_face (other_side z m) z ≡ false in let Q : Face → Type 0 = λ z. P z k in let R : Gluing → Type 0 = λ m. P x m in subst Q e (subst R (sym f) separate))

    at_other : (y : Face) (k : Gluing) → other_side x g ≡ y → k ≡ inverse_gluing x g → same_face (other_side y k) y ≡ false
    at_other y k e f =
        let Q : Face → Type 0 = λ z. same_face (other_side z k) z ≡ false in
        let R : Gluing → Type 0 = λ m. same_face (other_side (other_side x g) m) (other_side x g) ≡ false in
        let S : Face → Type 0 = λ z. same_face z (other_side x g) ≡ false in
        subst Q e (subst R (sym f) (subst S (sym (there_and_back x g p hf)) (same_face-sym (other_side x g) x separate)))

    back_both : (y : Face) (k : Gluing) → x ≡ y → k ≡ g → known_in (met_both x g read_faces) (other_side y k) ≡ Some (Some (inverse_gluing y k))
    back_both y k e f =
        let Q : Face → Type 0 = λ z. known_in (met_both x g read_faces) (other_side z k) ≡ Some (Some (inverse_gluing z k)) in
        let R : Gluing → Type 0 = λ m. known_in (met_both x g read_faces) (other_side x m) ≡ Some (Some (inverse_gluing x m)) in
        subst Q e (subst R (sym f) (known_both-other read_faces x g separate))

    back_other : (y : Face) (k : Gluing) → other_side x g ≡ y → k ≡ inverse_gluing x g → known_in (met_both x g read_faces) (other_side y k) ≡ Some (Some (inverse_gluing y k))
    back_other y k e f =
        let Q : Face → Type 0 = λ z. known_in (met_both x g read_faces) (other_side z k) ≡ Some (Some (inverse_gluing z k)) in
        let R : Gluing → Type 0 = λ m. known_in (met_both x g read_faces) (other_side (other_side x g) m) ≡ Some (Some (inverse_gluing (other_side x g) m)) in
        subst Q e (subst R (sym f)
        (ap (known_in (met_both x g read_faces)) (there_and_back x g p hf) ∙ known_both-x read_faces x g ∙ ap (λ m. Some (Some m)) (sym (back_again x g p))))

-- no face of a tetrahedron that is not seen was read
unseen : (read_faces : List (Face × Option Gluing)) (seen : ℕ) (y : Face) → IsSound read_faces seen → seen ≤ y.tet → known_in read_faces y ≡ None
unseen read_faces seen y h late = cases (known_in read_faces y) refl
  where
    cases : (o : Option (Option Gluing)) → known_in read_faces y ≡ o → o ≡ None
    cases None e = refl
    cases (Some o) e = absurd (let r = h.range y o e in omega (arith, r.0))

if_left : {A : Type 0} (b : Bool) (r q : Result A SigFault) (t : A) → (if b then r else q) ≡ Ok t → ((b ≡ true) × (r ≡ Ok t)) ⊎ ((b ≡ false) × (q ≡ Ok t))
if_left true r q t h = inl (refl, h)
if_left false r q t h = inr (refl, h)

-- joining a face
pub type_sound : (x : Face) (type : ℕ) (rest : signatures.Parts) (j u : Joining) → type < 3 → (type ≡ 2 → (signatures.first_pair rest.gluings).0 < 24) → x.face < 4 → x.tet < j.seen → known_in j.read_faces x ≡ None
    → IsSound j.read_faces j.seen → signatures.join_type x type rest j ≡ Ok u → IsSound u.read_faces u.seen
type_sound x zero rest j u small index hf hx free h e =
    let same : signatures.join_boundary x (record j { parts = rest }) ≡ u = ok_same (signatures.join_boundary x (record j { parts = rest })) u e in
    let P : Joining → Type 0 = λ v. IsSound v.read_faces v.seen in
    subst P same (boundary_sound j.read_faces j.seen x free hx hf h)
type_sound x (suc zero) rest j u small index hf hx free h e =
    let same : signatures.join_new x (record j { parts = rest }) ≡ u = ok_same (signatures.join_new x (record j { parts = rest })) u e in
    let P : Joining → Type 0 = λ v. IsSound v.read_faces v.seen in
    let g : Gluing = record { tet = j.seen; perm = identity } in
    let free' : known_in j.read_faces (other_side x g) ≡ None = unseen j.read_faces j.seen (other_side x g) h (omega arith) in
    let separate : same_face (other_side x g) x ≡ false = by_bool (same_face (other_side x g) x) (λ same'. absurd (let f = ap (λ (y : Face). y.tet) (same_face-true (other_side x g) x same') in omega (arith, f, hx))) (λ a. a) in
    subst P same (both_sound j.read_faces j.seen (j.seen + 1) x g free free' separate (omega arith) (omega arith) (omega arith) hf (words_permute 0 (omega arith)) h)
type_sound x (suc (suc zero)) rest j u small index hf hx free h e =
    let d : ℕ × ℕ = signatures.first_pair rest.destinations in
    let i : ℕ × ℕ = signatures.first_pair rest.gluings in
    let g : Gluing = record { tet = d.0; perm = slice_index_or words i.0 [] } in
    let rest' : signatures.Parts = record rest { destinations = drop 1 rest.destinations; gluings = drop 1 rest.gluings } in
    let k : Joining = record j { parts = rest' } in
    let taken : Bool = same_face (other_side x g) x || signatures.is_face_read k (other_side x g) in
    let first = unless_ok (nat_le j.seen d.0) (sig_faults.Destination d.1) (signatures.unless taken (sig_faults.FaceTaken i.1) (Ok (signatures.meet x g k))) u e in
    let second = unless_ok taken (sig_faults.FaceTaken i.1) (Ok (signatures.meet x g k)) u first.1 in
    let same : signatures.meet x g k ≡ u = ok_same (signatures.meet x g k) u second.1 in
    let parts = or_parts (same_face (other_side x g) x) (signatures.is_face_read k (other_side x g)) second.0 in
    let P : Joining → Type 0 = λ v. IsSound v.read_faces v.seen in
    let lt : d.0 < j.seen = not_le j.seen d.0 first.0 in
    subst P same (both_sound j.read_faces j.seen j.seen x g free (not_known j.read_faces (other_side x g) parts.1) parts.0 hx lt (omega arith) hf (words_permute i.0 (index refl)) h)
type_sound x (suc (suc (suc type))) rest j u small index hf hx free h e = absurd (omega arith)

next_sound : (n : ℕ) (x : Face) (ts : List ℕ) (j u : Joining) → j.parts.types ≡ ts → (m : Slots) → m.parts ≡ j.parts → IsSlots n m → x.face < 4 → x.tet < j.seen
    → IsSound j.read_faces j.seen → signatures.join_next x ts j ≡ Ok u → IsSound u.read_faces u.seen
next_sound n x [] j u t m same fit hf hx h e = let s : j ≡ u = ok_same j u e in let P : Joining → Type 0 = λ v. IsSound v.read_faces v.seen in subst P s h
next_sound n x (type ∷ types) j u t m same fit hf hx h e =
    ⊎_elim
    (λ (c : (signatures.is_face_read j x ≡ true) × (Ok j ≡ Ok u)). let s : j ≡ u = ok_same j u c.1 in let P : Joining → Type 0 = λ v. IsSound v.read_faces v.seen in subst P s h)
    (λ (c : (signatures.is_face_read j x ≡ false) × (signatures.join_type x type (record j.parts { types = types }) j ≡ Ok u)).
    type_sound x type (record j.parts { types = types }) j u small index hf hx (not_known j.read_faces x c.0) h c.1)
    (if_left (signatures.is_face_read j x) (Ok j) (signatures.join_type x type (record j.parts { types = types }) j) u e)
  where
    types_are : m.parts.types ≡ type ∷ types
    types_are = ap (λ (p : signatures.Parts). p.types) same ∙ t

    small : type < 3
    small = let P : List ℕ → Type 0 = λ ys. All (λ k. k < 3) ys in subst P types_are fit.small 0 0 (omega arith)

    index : type ≡ 2 → (signatures.first_pair j.parts.gluings).0 < 24
    index two =
        let P : signatures.Parts → Type 0 = λ p. (signatures.first_pair p.gluings).0 < 24 in
        subst P same (fit.indices 0 (0, 0) some)
      where
        some : 0 < length m.parts.gluings
        some =
            let e = ap (λ ys. times_in ys 2) types_are in
            let f = ap (λ k. times_in (k ∷ types) 2) two in
            let g = times-same 2 types in
            let d = fit.gluings in
            omega (arith, d, e, f, g)

pub face_sound : (n : ℕ) (x : Face) (s : Slots) (j u : Joining) → s.parts ≡ j.parts → IsSlots n s → x.face < 4 → IsSound j.read_faces j.seen → signatures.join_face x j ≡ Ok u → IsSound u.read_faces u.seen
face_sound n x s j u same fit hf h e =
    let first = unless_ok (nat_le j.seen x.tet) sig_faults.Unreached (signatures.join_next x j.parts.types j) u e in
    next_sound n x j.parts.types j u refl s same fit hf (not_le j.seen x.tet first.0) h first.1
