-- The tour around an edge, and the tour around its reverse, which goes the other way: no tour reaches the reverse of
-- the corner that it started from.
use Rattle.std.proofs.Common.{◌≡◌, ℕ, zero, suc, ◌<◌, List, [], ◌∷◌, length, Option, Some, None, true, refl, sym, ap, ◌∙◌, subst, arith}
use Rattle.std.specs.Prelude.{option_map, option_and_then, not}
use Rattle.std.proofs.lemmas.Bool.{and_from, eq-eqb, false≢true}
use Rattle.table_definitions.specs.Permutation.{IsPermutationOfFour, is_permutation, image, compose}
use Rattle.table_definitions.specs.Table.{Gluing, Row, Face, glue, same_face, other_side, inverse_gluing, IsTable}
use Rattle.table_definitions.proofs.PermutationLaws.{image_below, image-of_inverse, images_apart}
use Rattle.table_definitions.proofs.Permutations.{compose_permutes}
use Rattle.skeleton_definitions.specs.Corners.{Corner, left_through, corner_across, step, steps}
use Rattle.skeleton_class_laws.specs.CornersIn.{IsCornerIn}
use Rattle.skeleton_class_laws.specs.Rounds.{corner_by, corner_word}
use Rattle.skeleton_class_laws.proofs.Rounds.{first_step, is_step}
use Rattle.skeleton_class_laws.proofs.RoundLemmas.{corner_behind_permutes}

-- a corner of one of n tetrahedra, with four different vertices
pub record IsCorner (n : ℕ) (k : Corner) : Type 0 where
  pub tet : k.tet < n
  pub four : IsPermutationOfFour (corner_word k)

pub vertices_of : (n : ℕ) (k : Corner) → IsCorner n k → IsCornerIn n k
vertices_of n k h = record {
  tet = h.tet;
  a = image_below (corner_word k) 0 h.four (omega arith);
  b = image_below (corner_word k) 1 h.four (omega arith);
  c = image_below (corner_word k) 2 h.four (omega arith);
  d = image_below (corner_word k) 3 h.four (omega arith);
  ac = images_apart (corner_word k) 0 2 h.four (omega arith) (omega arith) (omega arith);
  ad = images_apart (corner_word k) 0 3 h.four (omega arith) (omega arith) (omega arith);
}

-- the corner of the reversed edge, at which the tour goes the other way
abbrev pub reversed : Corner → Corner
reversed k = corner_by k.tet (k.b ∷ k.a ∷ k.d ∷ k.c ∷ [])

exchanges : List ℕ
exchanges = 1 ∷ 0 ∷ 3 ∷ 2 ∷ []

pub reversed_corner : (n : ℕ) (k : Corner) → IsCorner n k → IsCorner n (reversed k)
unfolding compose exchanges is_permutation
reversed_corner n k h = record { tet = h.tet; four = compose_permutes (corner_word k) exchanges h.four refl }

module _ (rows : List Row) (table : IsTable rows) where
  -- a step comes across a gluing
  pub record IsAcross (k l : Corner) : Type 0 where
    pub g : Gluing
    pub glued : glue rows (left_through k) ≡ Some g
    pub is : corner_across k g ≡ l

  pub across_of : (k l : Corner) → step rows k ≡ Some l → IsAcross k l
  across_of k l e = go (glue rows (left_through k)) refl e
    where
      go : (o : Option Gluing) → glue rows (left_through k) ≡ o → option_map (corner_across k) o ≡ Some l → IsAcross k l
      go None s h = absurd cc
      go (Some g) s h = record { g = g; glued = s; is = cc }

  pub across_corner : (k : Corner) (g : Gluing) (x : Face) → IsCorner (length rows) k → glue rows x ≡ Some g → IsCorner (length rows) (corner_across k g)
  across_corner k g x h e = record { tet = table.in_range x g e; four = corner_behind_permutes k g (table.permutes x g e) h.four }

  pub step_corner : (k l : Corner) → IsCorner (length rows) k → step rows k ≡ Some l → IsCorner (length rows) l
  step_corner k l h e = let w = across_of k l e in subst (IsCorner (length rows)) w.is (across_corner k w.g (left_through k) h w.glued)

  pub steps_corner : (n : ℕ) (k l : Corner) → IsCorner (length rows) k → steps rows n k ≡ Some l → IsCorner (length rows) l
  steps_corner zero k l h e = let same : k ≡ l = cc in subst (IsCorner (length rows)) same h
  steps_corner (suc n) k l h e = let f = first_step rows n l (step rows k) e in steps_corner n f.0 l (step_corner k f.0 h f.1) f.2

  -- across a gluing and back
  pub across_back : (k : Corner) (g : Gluing) → IsCorner (length rows) k → IsPermutationOfFour g.perm → corner_across (corner_across k g) (inverse_gluing (left_through k) g) ≡ k
  across_back k g h p =
      let i = vertices_of (length rows) k h in
      λ z. record {
        tet = k.tet;
        a = image-of_inverse g.perm k.a p i.a z;
        b = image-of_inverse g.perm k.b p i.b z;
        c = image-of_inverse g.perm k.c p i.c z;
        d = image-of_inverse g.perm k.d p i.d z;
      }

  -- a step back is a step of the reversed corners
  pub step_reversed : (k l : Corner) → IsCorner (length rows) k → step rows k ≡ Some l → step rows (reversed l) ≡ Some (reversed k)
  step_reversed k l h e =
      let w = across_of k l e in
      let p = table.permutes (left_through k) w.g w.glued in
      subst (λ (m : Corner). step rows (reversed m) ≡ Some (reversed k)) w.is
      (ap (option_map (corner_across (reversed (corner_across k w.g)))) (table.leads_back (left_through k) w.g w.glued)
      ∙ ap (λ (m : Corner). Some (reversed m)) (across_back k w.g h p))

  pub one_before : (j k m : Corner) → IsCorner (length rows) j → IsCorner (length rows) k → step rows j ≡ Some m → step rows k ≡ Some m → j ≡ k
  one_before j k m hj hk ej ek =
      (is_step rows table j m (vertices_of (length rows) j hj) ej).back ∙ sym (is_step rows table k m (vertices_of (length rows) k hk) ek).back

  pub last_step : (n : ℕ) (k l : Corner) → steps rows (suc n) k ≡ Some l → (j : Corner) × (steps rows n k ≡ Some j) × (step rows j ≡ Some l)
  last_step zero k l e = let f = first_step rows 0 l (step rows k) e in (k, refl, f.1 ∙ f.2)
  last_step (suc n) k l e =
      let f = first_step rows (suc n) l (step rows k) e in
      let r = last_step n f.0 l f.2 in
      (r.0, ap (option_and_then (λ m. steps rows n m)) f.1 ∙ r.1, r.2)

  -- no gluing glues a face to itself
  never_next : (k : Corner) → step rows k ≡ Some (reversed k) → ⊥
  never_next k e =
      let w = across_of k (reversed k) e in
      let tet : w.g.tet ≡ k.tet = ap (λ (m : Corner). m.tet) w.is in
      let face : image w.g.perm k.c ≡ k.c = ap (λ (m : Corner). m.d) w.is in
      let same : same_face (other_side (left_through k) w.g) (left_through k) ≡ true = and_from _ _ (eq-eqb w.g.tet k.tet tet) (eq-eqb (image w.g.perm k.c) k.c face) in
      let separate : not (same_face (other_side (left_through k) w.g) (left_through k)) ≡ true = table.separate (left_through k) w.g w.glued in
      false≢true (sym (ap not same) ∙ separate)

  -- the tour around an edge never reaches the corner that it started from with the edge and the direction reversed:
  -- half way it would reach one corner and its reverse
  pub never_reversed : (n : ℕ) (k : Corner) → IsCorner (length rows) k → steps rows n k ≡ Some (reversed k) → ⊥
  never_reversed zero k h e =
      let same : k ≡ reversed k = cc in
      images_apart (corner_word k) 0 1 h.four (omega arith) (omega arith) (omega arith) (ap (λ (m : Corner). m.a) same)
  never_reversed (suc zero) k h e = let f = first_step rows 0 (reversed k) (step rows k) e in never_next k (f.1 ∙ f.2)
  never_reversed (suc (suc n)) k h e =
      let f = first_step rows (suc n) (reversed k) (step rows k) e in
      let g = last_step n f.0 (reversed k) f.2 in
      let hf = step_corner k f.0 h f.1 in
      let same : g.0 ≡ reversed f.0 = one_before g.0 (reversed f.0) (reversed k) (steps_corner n f.0 g.0 hf g.1) (reversed_corner (length rows) f.0 hf) g.2 (step_reversed k f.0 h f.1) in
      never_reversed n f.0 hf (g.1 ∙ ap Some same)
