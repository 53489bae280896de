-- The least faces of the classes of a skeleton.
use Rattle.std.proofs.Common.{◌≡◌, ℕ, ◌+◌, ◌*◌, ◌/◌, ◌%◌, ◌<◌, ◌≤◌, inl, inr, Bool, true, false, List, length, Option, Some, None, slice_index, rules, subst, sym, ap, refl, ◌∙◌, arith}
use Rattle.std.specs.Prelude.{◌↔◌, IsTrue, IsSome, is_some}
use Rattle.std.proofs.lemmas.Bool.{cases_lt}
use Rattle.table_definitions.specs.Table.{Gluing, Face, glue, face_number}
use Rattle.table_definitions.specs.Classes.{least, degree}
use Rattle.table_definitions.specs.Places.{face_of}
use Rattle.table_definitions.proofs.Faces.{number-face_of}
use Rattle.skeleton_definitions.specs.Skeleton.{Skeleton, IsSkeleton}
use Rattle.skeleton_class_laws.specs.Numberings.{IsOrdered, AreFirstsUpTo}
use Rattle.skeleton_class_laws.proofs.FirstPlaces.{FirstPlace, first_place}
use Rattle.presentation_laws.proofs.FaceClasses.{count_one, class_of, degree_two}
use Rattle.std.proofs.lemmas.List.Elements.{Contains-get_or}
use Rattle.presentation_definitions.specs.Presentations.{HoldsTreeFace, AreGenerators}
use Rattle.presentation_laws.specs.Classes.{AreLeastFaces, IsGenerator}

module _ (s : Skeleton) (h : IsSkeleton s) where
  pub faces_ordered : IsOrdered s.faces.classes
  faces_ordered x c l m = h.faces.ascending x c (subst (λ k. x < k) h.faces.one_each l) m

  -- the least member of a class
  pub least_at : (c : ℕ) → c < s.faces.count → FirstPlace s.faces.classes c
  least_at c l = let some = h.faces.none_empty c l in first_place s.faces.classes some.0 c (subst (λ k. some.0 < k) (sym h.faces.one_each) some.1) some.2

  pub least_faces : (i : ℕ) (firsts : List ℕ) → i ≡ 4 * length s.rows → AreFirstsUpTo i s.faces.classes firsts → AreLeastFaces s firsts
  least_faces i firsts e a = record {
    one_each = let l : length firsts ≤ s.faces.count = none_more in let m : s.faces.count ≤ length firsts = none_less in omega arith;
    least_member = λ c l. a.least_member c (omega (arith, none_less));
    in_range = λ c l. subst (λ k. slice_index firsts c < k) e (a.in_range c (omega (arith, none_less)));
  }
    where
      none_less : s.faces.count ≤ length firsts
      none_less = elim (cases_lt (length firsts) s.faces.count) [
        | inr le ↦ le
        | inl exceeded ↦ let some = h.faces.none_empty (length firsts) exceeded in
            let b : slice_index s.faces.classes some.0 < length firsts = a.below some.0 (subst (λ k. some.0 < k) (sym e) some.1) in
            let c : slice_index s.faces.classes some.0 ≡ length firsts = some.2 in absurd (omega arith)
      ]

      none_more : length firsts ≤ s.faces.count
      none_more = elim (cases_lt s.faces.count (length firsts)) [
        | inr le ↦ le
        | inl exceeded ↦
            let b : slice_index s.faces.classes (slice_index firsts s.faces.count) < s.faces.count = h.faces.in_range (slice_index firsts s.faces.count) (subst (λ k. slice_index firsts s.faces.count < k) e (a.in_range s.faces.count exceeded)) in
            let c : slice_index s.faces.classes (slice_index firsts s.faces.count) ≡ s.faces.count = a.member s.faces.count exceeded in absurd (omega arith)
      ]

  -- a class has two members if and only if its least one is glued
  module _ (c : ℕ) (l : c < s.faces.count) where
    abbrev first : ℕ
    first = least s.faces.classes c

    class_of_first : slice_index s.faces.classes (face_number (face_of first)) ≡ c
    class_of_first = ap (slice_index s.faces.classes) (number-face_of first) ∙ (least_at c l).is

    pub glued_two : (g : Gluing) → glue s.rows (face_of first) ≡ Some g → degree s.faces.classes c ≡ 2
    unfolding class_of
    glued_two g e = ap (degree s.faces.classes) (sym class_of_first) ∙ degree_two s.rows h.table s.faces.classes s.faces.count h.faces (face_of first) g e

    pub first_below : first < 4 * length s.rows
    first_below = subst (λ k. first < k) h.faces.one_each (least_at c l).in_range

    pub unglued_one : glue s.rows (face_of first) ≡ None → degree s.faces.classes c ≡ 1
    unglued_one e = count_one c s.faces.classes first (least_at c l).in_range (least_at c l).is other
      where
        other : (k : ℕ) → k < length s.faces.classes → (k ≡ first → ⊥) → slice_index s.faces.classes k ≡ c → ⊥
        other k m separate same = elim ((h.faces.together first k first_below (subst (λ n. k < n) h.faces.one_each m)).0 ((least_at c l).is ∙ sym same)) [
          | inl i ↦ separate (sym i)
          | inr w ↦ let z : None ≡ Some w.0 = sym e ∙ w.1 in cc
        ]

-- the number of a face that was read from a number
pub face_number_of : (x : Face) (t f n : ℕ) → t ≡ x.tet → f ≡ x.face → x ≡ face_of n → 4 * t + f ≡ n
face_number_of x t f n a b e = let c : x.tet ≡ n / 4 = ap (λ (y : Face). y.tet) e in let d : x.face ≡ n % 4 = ap (λ (y : Face). y.face) e in omega arith

-- a class without a tree face is a generator if and only if its least face is glued
pub generator_is : (s : Skeleton) (h : IsSkeleton s) (c : ℕ) (l : c < s.faces.count) (o : Option Gluing) (b : Bool) → o ≡ glue s.rows (face_of (least s.faces.classes c)) → b ≡ is_some o → ¬ HoldsTreeFace s c
    → IsTrue b ↔ IsGenerator s c
generator_is s h c l None b e f never = (λ t. absurd (let z : false ≡ true = sym f ∙ t in cc), λ g. absurd (let one : degree s.faces.classes c ≡ 1 = unglued_one s h c l (sym e) in let two : degree s.faces.classes c ≡ 2 = g.0 in omega arith))
generator_is s h c l (Some g) b e f never = (λ t. (glued_two s h c l g (sym e), never), λ k. f)

-- the least face of a generator is glued
pub generator_glued : (s : Skeleton) (h : IsSkeleton s) (c : ℕ) (l : c < s.faces.count) → degree s.faces.classes c ≡ 2 → IsSome (glue s.rows (face_of (least s.faces.classes c)))
generator_glued s h c l two = cases (glue s.rows (face_of (least s.faces.classes c))) refl
  where
    cases : (o : Option Gluing) → glue s.rows (face_of (least s.faces.classes c)) ≡ o → IsSome o
    cases None e = absurd (let one : degree s.faces.classes c ≡ 1 = unglued_one s h c l e in omega arith)
    cases (Some g) e = search rules

-- the class at an index of the list of generators is a generator
pub generator_at : (s : Skeleton) (generators : List ℕ) (i : ℕ) → AreGenerators s generators → i < length generators → (slice_index generators i < s.faces.count) × IsGenerator s (slice_index generators i)
generator_at s generators i a l = let m = (a.members (slice_index generators i)).0 (Contains-get_or generators i 0 l) in (m.0, (m.1, m.2))
