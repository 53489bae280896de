-- The sides of a link as halves of its edges: a first side, and the side across its gluing or one in a boundary face.
use Rattle.std.proofs.Common.{◌≡◌, ◌≢◌, ℕ, ◌+◌, ◌*◌, ◌/◌, ◌%◌, ◌<◌, true, false, List, [], ◌∷◌, length, Option, Some, None, ◌⊎◌, inl, inr, refl, sym, ap, ◌∙◌, arith}
use Rattle.std.specs.Prelude.{◌==◌, ◌||◌, is_none, slice_index}
use Rattle.std.proofs.lemmas.Bool.{and_parts, and_from, ne_eqb, false≢true}
use Rattle.basic_lemmas.proofs.Truths.{by_bool}
use Rattle.table_definitions.specs.Lists.{has}
use Rattle.table_definitions.specs.Permutation.{image, inverse}
use Rattle.table_definitions.specs.Table.{Gluing, Row, glue, other_side, inverse_gluing, is_face_before, IsTable}
use Rattle.table_definitions.specs.Classes.{IsNumbering}
use Rattle.table_definitions.specs.Places.{SameVertex, vertex, is_boundary}
use Rattle.table_definitions.proofs.ChainLaws.{joined_step, across_by}
use Rattle.table_definitions.proofs.Faces.{face_at}
use Rattle.table_definitions.proofs.PermutationLaws.{images_apart, image-of_inverse}
use Rattle.table_definitions.proofs.Permutations.{image_below}
use Rattle.table_definitions.proofs.TableLaws.{Among}
use Rattle.skeleton_definitions.specs.Links.{is_first_side}
use Rattle.surface_laws.proofs.Glued.{IsGlued, glued_is}
use Rattle.surface_laws.proofs.Matched.{before_or_after}
use Rattle.skeleton_class_laws.proofs.VertexTies.{vertex_is}
use Rattle.skeleton_laws.proofs.Matchings.{passing, passing_is, is_passing, both, first_kind, second_kind, is_first_kind, is_second_kind}
use Rattle.skeleton_laws.proofs.SideParts.{IsSideAt, side_is, is_side_from, side_number, HasParts, has_parts, number_again}
use Rattle.skeleton_laws.proofs.Sides.{side_face, is_side, first_side, free_side}
use Rattle.surface_laws.proofs.LinkingLemmas.{free_is as none_from}

module _ (rows : List Row) (table : IsTable rows) (classes : List ℕ) (count : ℕ) (numbered : IsNumbering (4 * length rows) (SameVertex rows) classes count) (c : ℕ) where
  -- the side across a gluing
  abbrev other : ℕ → Gluing → ℕ
  other k g = side_number g.tet (image g.perm (k / 4 % 4)) (image g.perm (k % 4))

  low_v : (k : ℕ) → k / 4 % 4 < 4
  low_v k = omega arith

  low_f : (k : ℕ) → k % 4 < 4
  low_f k = omega arith

  pub record Crosses (k : ℕ) (g : Gluing) : Type 0 where
    pub below : other k g < 4 * (4 * length rows)
    pub side : is_side classes c (other k g) ≡ true
    pub face : side_face (other k g) ≡ other_side (side_face k) g
    pub back : glue rows (side_face (other k g)) ≡ Some (inverse_gluing (side_face k) g)
    pub again : other (other k g) (inverse_gluing (side_face k) g) ≡ k

  pub crosses : (k : ℕ) (g : Gluing) → k < 4 * (4 * length rows) → is_side classes c k ≡ true → glue rows (side_face k) ≡ Some g → Crosses k g
  crosses k g l h e = record { below = (let t = a.other_tet in let b : image g.perm (k / 4 % 4) < 4 = lv' in let d : image g.perm (k % 4) < 4 = a.other_face in omega arith); side = is_side_from classes c (other k g) (λ q. separate (sym parts.vertex ∙ q ∙ parts.face)) same; face = face; back = ap (glue rows) face ∙ a.back; again = again }
    where
      s : IsSideAt classes c k
      s = side_is classes c k h

      a : IsGlued rows (side_face k) g
      a = glued_is rows (side_face k) g table e

      v' : ℕ
      v' = image g.perm (k / 4 % 4)

      lv' : v' < 4
      lv' = image_below g.perm a.permutes (k / 4 % 4) (low_v k)

      parts : HasParts g.tet v' (image g.perm (k % 4))
      parts = has_parts g.tet v' (image g.perm (k % 4)) lv' a.other_face

      separate : v' ≢ image g.perm (k % 4)
      separate = images_apart g.perm (k / 4 % 4) (k % 4) a.permutes (low_v k) (low_f k) s.off

      face : side_face (other k g) ≡ other_side (side_face k) g
      face = λ i. face_at (parts.tet i) (parts.face i)

      off : has (k / 4 % 4 ∷ []) (k % 4) ≡ false
      off = (let z : ((k / 4 % 4 == k % 4) || false) ≡ false = (λ i. ne_eqb (k / 4 % 4) (k % 4) s.off i || false) in z)

      joined : SameVertex rows (k / 4) (4 * g.tet + v')
      joined = joined_step rows (vertex (k / 4)) (k % 4) (vertex (4 * g.tet + v')) (across_by rows (vertex (k / 4)) (k % 4) g e off ∙ ap (λ p. Some p) (sym (vertex_is g.tet v' lv')))

      same : slice_index classes (other k g / 4) ≡ c
      same = ap (slice_index classes) parts.place ∙ sym ((numbered.together (k / 4) (4 * g.tet + v') (omega arith) (let t = a.other_tet in let b : image g.perm (k / 4 % 4) < 4 = lv' in omega arith)).1 joined) ∙ s.at

      again : other (other k g) (inverse_gluing (side_face k) g) ≡ k
      again =
          (λ i. side_number (k / 4 / 4) (image (inverse g.perm) (parts.vertex i)) (image (inverse g.perm) (parts.face i)))
          ∙ (λ i. side_number (k / 4 / 4) (image-of_inverse g.perm (k / 4 % 4) a.permutes (low_v k) i) (image-of_inverse g.perm (k % 4) a.permutes (low_f k) i))
          ∙ number_again k

  abbrev firsts : List ℕ
  firsts = passing (first_side rows classes c) (4 * (4 * length rows))

  abbrev all_sides : List ℕ
  all_sides = passing (is_side classes c) (4 * (4 * length rows))

  abbrev pub frees : List ℕ
  frees = passing (free_side rows classes c) (4 * (4 * length rows))

  pub record IsFirst (k : ℕ) : Type 0 where
    pub below : k < 4 * (4 * length rows)
    pub side : is_side classes c k ≡ true
    pub first : is_first_side (side_face k) (glue rows (side_face k)) ≡ true

  pub first_is : (k : ℕ) → Among k firsts → IsFirst k
  unfolding first_side
  first_is k a =
      let p = passing_is (first_side rows classes c) (4 * (4 * length rows)) k a in
      let q = and_parts (is_side classes c k) (is_first_side (side_face k) (glue rows (side_face k))) p.1 in
      record { below = p.0; side = q.0; first = q.1 }

  is_first : (k : ℕ) → k < 4 * (4 * length rows) → is_side classes c k ≡ true → is_first_side (side_face k) (glue rows (side_face k)) ≡ true → Among k firsts
  unfolding first_side
  is_first k l s f = is_passing (first_side rows classes c) (4 * (4 * length rows)) k l (and_from (is_side classes c k) (is_first_side (side_face k) (glue rows (side_face k))) s f)

  pub free_is : (k : ℕ) → Among k frees → (k < 4 * (4 * length rows)) × (is_side classes c k ≡ true) × (glue rows (side_face k) ≡ None)
  unfolding free_side
  free_is k a =
      let p = passing_is (free_side rows classes c) (4 * (4 * length rows)) k a in
      let q = and_parts (is_side classes c k) (is_boundary rows (side_face k)) p.1 in
      (p.0, q.0, none_from (glue rows (side_face k)) q.1)

  pub is_free : (k : ℕ) → k < 4 * (4 * length rows) → is_side classes c k ≡ true → glue rows (side_face k) ≡ None → Among k frees
  unfolding free_side
  is_free k l s n = is_passing (free_side rows classes c) (4 * (4 * length rows)) k l (and_from (is_side classes c k) (is_boundary rows (side_face k)) s (ap is_none n))

  -- a first side corresponds to itself, and also to the other side of its edge; a boundary side to itself
  abbrev Halves : ℕ ⊎ ℕ → ℕ ⊎ ℕ → Type 0
  Halves (inl k) (inl l) = k ≡ l
  Halves (inl k) (inr l) = ⊥
  Halves (inr k) (inl l) = (g : Gluing) × (glue rows (side_face k) ≡ Some g) × (other k g ≡ l)
  Halves (inr k) (inr l) = (glue rows (side_face k) ≡ None) × (k ≡ l)

  -- the first of two sides that are glued is before the other
  pub before : (k : ℕ) (g : Gluing) → IsFirst k → glue rows (side_face k) ≡ Some g → is_face_before (side_face k) (other_side (side_face k) g) ≡ true
  before k g f e = ap (is_first_side (side_face k)) (sym e) ∙ f.first

  pub forth : (x : ℕ ⊎ ℕ) → Among x (both firsts firsts) → (y : ℕ ⊎ ℕ) × Among y (both all_sides frees) × Halves x y
  forth (inl k) a =
      let f = first_is k (is_first_kind firsts firsts k a) in
      (inl k, first_kind all_sides frees k (is_passing (is_side classes c) (4 * (4 * length rows)) k f.below f.side), refl)
  forth (inr k) a = go (glue rows (side_face k)) refl
    where
      f : IsFirst k
      f = first_is k (is_second_kind firsts firsts k a)

      go : (o : Option Gluing) → glue rows (side_face k) ≡ o → (y : ℕ ⊎ ℕ) × Among y (both all_sides frees) × Halves (inr k) y
      go None e = (inr k, second_kind all_sides frees k (is_free k f.below f.side e), (e, refl))
      go (Some g) e = let x = crosses k g f.below f.side e in (inl (other k g), first_kind all_sides frees (other k g) (is_passing (is_side classes c) (4 * (4 * length rows)) (other k g) x.below x.side), (g, e, refl))

  pub back : (y : ℕ ⊎ ℕ) → Among y (both all_sides frees) → (x : ℕ ⊎ ℕ) × Among x (both firsts firsts) × Halves x y
  back (inr k) a =
      let f = free_is k (is_second_kind all_sides frees k a) in
      (inr k, second_kind firsts firsts k (is_first k f.0 f.1 (ap (is_first_side (side_face k)) f.2)), (f.2, refl))
  back (inl k) a = by_bool (is_first_side (side_face k) (glue rows (side_face k))) (λ t. (inl k, first_kind firsts firsts k (is_first k p.0 p.1 t), refl)) (λ t. go (glue rows (side_face k)) refl t)
    where
      p : (k < 4 * (4 * length rows)) × (is_side classes c k ≡ true)
      p = passing_is (is_side classes c) (4 * (4 * length rows)) k (is_first_kind all_sides frees k a)

      go : (o : Option Gluing) → glue rows (side_face k) ≡ o → is_first_side (side_face k) (glue rows (side_face k)) ≡ false → (x : ℕ ⊎ ℕ) × Among x (both firsts firsts) × Halves x (inl k)
      go None e t = absurd (false≢true (sym t ∙ ap (is_first_side (side_face k)) e))
      go (Some g) e t =
          let x = crosses k g p.0 p.1 e in
          let i = glued_is rows (side_face k) g table e in
          let after : is_face_before (side_face k) (other_side (side_face k) g) ≡ false = ap (is_first_side (side_face k)) (sym e) ∙ t in
          let first : is_face_before (other_side (side_face k) g) (side_face k) ≡ true = elim (before_or_after (side_face k) (other_side (side_face k) g) (table.separate (side_face k) g e)) [
            | inl b ↦ absurd (false≢true (sym after ∙ b))
            | inr b ↦ b
          ] in
          let reported : is_first_side (side_face (other k g)) (glue rows (side_face (other k g))) ≡ true =
          ap (is_first_side (side_face (other k g))) x.back ∙ ap (λ y. is_face_before y (other_side y (inverse_gluing (side_face k) g))) x.face ∙ ap (is_face_before (other_side (side_face k) g)) i.returns ∙ first in
          (inr (other k g), second_kind firsts firsts (other k g) (is_first (other k g) x.below x.side reported), (inverse_gluing (side_face k) g, x.back, x.again))
