-- Faces, the test whether two are equal, and the way across a face and back.
use Rattle.std.proofs.Common.{◌≡◌, ℕ, ◌<◌, true, List, ◌⊎◌, inl, inr, refl, ap, ◌∙◌, ◌+◌, ◌*◌, ◌/◌, ◌%◌, arith}
use Rattle.std.specs.Prelude.{◌==◌, ◌&&◌, nat_lt}
use Rattle.std.proofs.lemmas.Bool.{and_parts, eqb-true, or_cases, ltb-true}
use Rattle.table_definitions.specs.Permutation.{IsPermutationOfFour}
use Rattle.table_definitions.specs.Table.{Gluing, Face, other_side, inverse_gluing, same_face, is_face_before, face_number}
use Rattle.table_definitions.proofs.PermutationLaws.{image-of_inverse}
use Rattle.table_definitions.proofs.Permutations.{inverse-inverse}
use Rattle.table_definitions.proofs.Carried.{same_from, same_to}
use Rattle.table_definitions.specs.Places.{face_of}

-- a face, and a gluing, by their parts; the face that x is glued to by g, and the inverse of g
abbrev pub face_at : ℕ → ℕ → Face
face_at t f = record { tet = t; face = f }

abbrev pub gluing_to : ℕ → List ℕ → Gluing
gluing_to t p = record { tet = t; perm = p }

abbrev pub tet_of : Gluing → ℕ
tet_of g = g.tet

abbrev pub perm_of : Gluing → List ℕ
perm_of g = g.perm

pub same_face-true : (x y : Face) → same_face x y ≡ true → x ≡ y
same_face-true x y h =
    let p = same_from x.tet y.tet x.face y.face h in
    ap (λ a. face_at a x.face) p.0 ∙ ap (face_at y.tet) p.1

pub same_face-itself : (x : Face) → same_face x x ≡ true
same_face-itself x = same_to x.tet x.tet x.face x.face refl refl

-- the way across a gluing and back
pub there_and_back : (x : Face) (g : Gluing) → IsPermutationOfFour g.perm → x.face < 4 → other_side (other_side x g) (inverse_gluing x g) ≡ x
there_and_back x g h l = ap (face_at x.tet) (image-of_inverse g.perm x.face h l)

pub back_again : (x : Face) (g : Gluing) → IsPermutationOfFour g.perm → inverse_gluing (other_side x g) (inverse_gluing x g) ≡ g
back_again x g h = ap (gluing_to g.tet) (inverse-inverse g.perm h)

-- a face by its number
pub number-face_of : (k : ℕ) → face_number (face_of k) ≡ k
number-face_of k = omega arith

pub face_of-number : (x : Face) → x.face < 4 → face_of (face_number x) ≡ x
face_of-number x l =
    let d : (4 * x.tet + x.face) / 4 ≡ x.tet = omega arith in
    let m : (4 * x.tet + x.face) % 4 ≡ x.face = omega arith in
    λ i. record { tet = d i; face = m i }

-- one face is before another
before_means : (x y : Face) → is_face_before x y ≡ true → (x.tet < y.tet) ⊎ ((x.tet ≡ y.tet) × (x.face < y.face))
before_means x y h = elim (or_cases (nat_lt x.tet y.tet) ((x.tet == y.tet) && nat_lt x.face y.face) h) [
  | inl l ↦ inl (ltb-true x.tet y.tet l)
  | inr r ↦ (let a : ((x.tet == y.tet) ≡ true) × (nat_lt x.face y.face ≡ true) = and_parts (x.tet == y.tet) (nat_lt x.face y.face) r in inr (eqb-true x.tet y.tet a.0, ltb-true x.face y.face a.1))
]

pub not_both_before : (x y : Face) → is_face_before x y ≡ true → is_face_before y x ≡ true → ⊥
not_both_before x y a b = let p = before_means x y a in let q = before_means y x b in omega arith
