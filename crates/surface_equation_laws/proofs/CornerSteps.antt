-- Steps around an edge: no walk visits a corner in both directions of its edge.
use Rattle.std.proofs.Common.{◌≡◌, ℕ, zero, suc, ◌+◌, ◌-◌, ◌<◌, true, not, List, [], ◌∷◌, length, Option, Some, None, option_map, option_and_then, inl, inr, refl, sym, ap, ◌∙◌, subst, arith}
use Rattle.std.specs.Prelude.{◌==◌, ◌&&◌}
use Rattle.std.proofs.lemmas.Bool.{and_parts, not-true, eqb-false, eq-eqb, and_from, both_ways, cases_lt}
use Rattle.table_definitions.specs.Permutation.{IsPermutationOfFour, is_permutation, image, inverse}
use Rattle.table_definitions.specs.Table.{Gluing, Row, Face, glue, other_side, inverse_gluing, same_face, IsTable}
use Rattle.table_definitions.proofs.Permutations.{by_words}
use Rattle.table_definitions.proofs.PermutationLaws.{image_below, image-of_inverse}
use Rattle.table_definitions.proofs.Faces.{face_at}
use Rattle.skeleton_definitions.specs.Corners.{Corner, corner_across, step, steps, Reaches}
use Rattle.surface_laws.proofs.CornerSteps.{IsStep, step_is}
use Rattle.surface_laws.proofs.Glued.{IsGlued, glued_is}
use Rattle.skeleton_class_laws.specs.Rounds.{corner_word}
use Rattle.skeleton_class_laws.proofs.RoundLemmas.{corner_behind_permutes}

pub record IsCorner (rows : List Row) (k : Corner) : Type 0 where
  pub tet : k.tet < length rows
  pub permutes : IsPermutationOfFour (corner_word k)

-- the corner with its edge reversed and its faces exchanged
abbrev pub turned_round : Corner → Corner
turned_round k = record { tet = k.tet; a = k.b; b = k.a; c = k.d; d = k.c }

abbrev pub corner_at : ℕ → ℕ → ℕ → ℕ → ℕ → Corner
corner_at t a b c d = record { tet = t; a = a; b = b; c = c; d = d }

turned_permutes : (w : List ℕ) → IsPermutationOfFour w → is_permutation (image w 1 ∷ image w 0 ∷ image w 3 ∷ image w 2 ∷ []) ≡ true
unfolding is_permutation
turned_permutes w h = by_words (λ w. is_permutation (image w 1 ∷ image w 0 ∷ image w 3 ∷ image w 2 ∷ [])) refl w h

pub turned_is : {rows : List Row} (k : Corner) → IsCorner rows k → IsCorner rows (turned_round k)
turned_is k h = record { tet = h.tet; permutes = turned_permutes (corner_word k) h.permutes }

pub step_by : (rows : List Row) (k : Corner) (g : Gluing) → glue rows (face_at k.tet k.c) ≡ Some g → step rows k ≡ Some (corner_across k g)
step_by rows k g h = ap (option_map (corner_across k)) h

vertices_apart : (w : List ℕ) → IsPermutationOfFour w → not (image w 0 == image w 1) && (not (image w 0 == image w 2) && not (image w 1 == image w 2)) ≡ true
vertices_apart w h = by_words (λ w. not (image w 0 == image w 1) && (not (image w 0 == image w 2) && not (image w 1 == image w 2))) refl w h

-- the edge's ends are different, and its first face is opposite neither of them
pub record IsApart (k : Corner) : Type 0 where
  pub ends : k.a ≡ k.b → ⊥
  pub first : k.a ≡ k.c → ⊥
  pub second : k.b ≡ k.c → ⊥

pub apart_in : (k : Corner) → IsPermutationOfFour (corner_word k) → IsApart k
apart_in k h =
    let t : (not (k.a == k.b) && (not (k.a == k.c) && not (k.b == k.c))) ≡ true = vertices_apart (corner_word k) h in
    let p : (not (k.a == k.b) ≡ true) × ((not (k.a == k.c) && not (k.b == k.c)) ≡ true) = and_parts (not (k.a == k.b)) (not (k.a == k.c) && not (k.b == k.c)) t in
    let q : (not (k.a == k.c) ≡ true) × (not (k.b == k.c) ≡ true) = and_parts (not (k.a == k.c)) (not (k.b == k.c)) p.1 in
    record {
      ends = eqb-false k.a k.b (not-true (k.a == k.b) p.0);
      first = eqb-false k.a k.c (not-true (k.a == k.c) q.0);
      second = eqb-false k.b k.c (not-true (k.b == k.c) q.1);
    }

module _ (rows : List Row) (table : IsTable rows) where
  pub step_keeps : (k l : Corner) → IsCorner rows k → step rows k ≡ Some l → IsCorner rows l
  step_keeps k l h e =
      let s : IsStep rows k l = step_is rows k l e in
      let g : IsGlued rows (face_at k.tet k.c) s.on.g = glued_is rows (face_at k.tet k.c) s.on.g table s.on.glued in
      subst (IsCorner rows) s.is (record { tet = g.other_tet; permutes = corner_behind_permutes k s.on.g g.permutes h.permutes })

  -- a step of reversed corners is the inverse of the step
  pub step_back : (k l : Corner) → IsCorner rows k → step rows k ≡ Some l → step rows (turned_round l) ≡ Some (turned_round k)
  step_back k l h e =
      let s : IsStep rows k l = step_is rows k l e in
      let g : IsGlued rows (face_at k.tet k.c) s.on.g = glued_is rows (face_at k.tet k.c) s.on.g table s.on.glued in
      let p : List ℕ = s.on.g.perm in
      let there : step rows (turned_round (corner_across k s.on.g)) ≡ Some (corner_across (turned_round (corner_across k s.on.g)) (inverse_gluing (face_at k.tet k.c) s.on.g)) =
      step_by rows (turned_round (corner_across k s.on.g)) (inverse_gluing (face_at k.tet k.c) s.on.g) g.back in
      let a : image (inverse p) (image p k.a) ≡ k.a = image-of_inverse p k.a g.permutes (image_below (corner_word k) 0 h.permutes (omega arith)) in
      let b : image (inverse p) (image p k.b) ≡ k.b = image-of_inverse p k.b g.permutes (image_below (corner_word k) 1 h.permutes (omega arith)) in
      let c : image (inverse p) (image p k.c) ≡ k.c = image-of_inverse p k.c g.permutes (image_below (corner_word k) 2 h.permutes (omega arith)) in
      let d : image (inverse p) (image p k.d) ≡ k.d = image-of_inverse p k.d g.permutes (image_below (corner_word k) 3 h.permutes (omega arith)) in
      subst (λ (l : Corner). step rows (turned_round l) ≡ Some (turned_round k)) s.is (there ∙ (λ i. Some (corner_at k.tet (b i) (a i) (d i) (c i))))

  -- the last of some steps
  pub last_step : (n : ℕ) (k l : Corner) → steps rows (suc n) k ≡ Some l → (m : Corner) × (steps rows n k ≡ Some m) × (step rows m ≡ Some l)
  last_step zero k l e = go (step rows k) refl e
    where
      go : (o : Option Corner) → step rows k ≡ o → option_and_then (λ m. steps rows zero m) o ≡ Some l → (m : Corner) × (Some k ≡ Some m) × (step rows m ≡ Some l)
      go None h f = absurd cc
      go (Some m) h f = (k, refl, h ∙ f)
  last_step (suc n) k l e = go (step rows k) refl e (λ m f. last_step n m l f)
    where
      go : (o : Option Corner) → step rows k ≡ o → option_and_then (λ m. steps rows (suc n) m) o ≡ Some l
          → ((m : Corner) → steps rows (suc n) m ≡ Some l → (x : Corner) × (steps rows n m ≡ Some x) × (step rows x ≡ Some l))
          → (x : Corner) × (steps rows (suc n) k ≡ Some x) × (step rows x ≡ Some l)
      go None h f more = absurd cc
      go (Some m) h f more = let r = more m f in (r.0, ap (option_and_then (λ m. steps rows n m)) h ∙ r.1, r.2)

  pub steps_keep : (n : ℕ) (k l : Corner) → IsCorner rows k → steps rows n k ≡ Some l → IsCorner rows l
  steps_keep zero k l h e = let s : k ≡ l = cc in subst (IsCorner rows) s h
  steps_keep (suc n) k l h e = go (step rows k) refl e (λ m c f. steps_keep n m l c f)
    where
      go : (o : Option Corner) → step rows k ≡ o → option_and_then (λ m. steps rows n m) o ≡ Some l → ((m : Corner) → IsCorner rows m → steps rows n m ≡ Some l → IsCorner rows l) → IsCorner rows l
      go None g f more = absurd cc
      go (Some m) g f more = more m (step_keeps k m h g) f

  -- no steps from a corner reach the reversed corner
  turn_at_once : (k : Corner) → IsCorner rows k → step rows k ≡ Some (turned_round k) → ⊥
  turn_at_once k h e =
      let s : IsStep rows k (turned_round k) = step_is rows k (turned_round k) e in
      let x : Face = face_at k.tet k.c in
      let same : other_side x s.on.g ≡ x = ap (λ (l : Corner). face_at l.tet l.d) s.is in
      let t : same_face (other_side x s.on.g) x ≡ true = and_from (s.on.g.tet == k.tet) (image s.on.g.perm k.c == k.c)
      (eq-eqb s.on.g.tet k.tet (ap (λ (y : Face). y.tet) same)) (eq-eqb (image s.on.g.perm k.c) k.c (ap (λ (y : Face). y.face) same)) in
      both_ways (same_face (other_side x s.on.g) x) (not-true (same_face (other_side x s.on.g) x) (table.separate x s.on.g s.on.glued)) t

  no_turn_at : (n : ℕ) (k : Corner) → IsCorner rows k → steps rows n k ≡ Some (turned_round k) → ⊥
  no_turn_at zero k h e = let s : k ≡ turned_round k = cc in (apart_in k h.permutes).ends (ap (λ (l : Corner). l.a) s)
  no_turn_at (suc zero) k h e =
      let r : (m : Corner) × (steps rows zero k ≡ Some m) × (step rows m ≡ Some (turned_round k)) = last_step zero k (turned_round k) e in
      let s : r.0 ≡ k = (let t : Some k ≡ Some r.0 = r.1 in cc) in
      turn_at_once k h (subst (λ (m : Corner). step rows m ≡ Some (turned_round k)) s r.2)
  no_turn_at (suc (suc n)) k h e = go (step rows k) refl e (λ l c f. no_turn_at n l c f)
    where
      go : (o : Option Corner) → step rows k ≡ o → option_and_then (λ l. steps rows (suc n) l) o ≡ Some (turned_round k) → ((l : Corner) → IsCorner rows l → steps rows n l ≡ Some (turned_round l) → ⊥) → ⊥
      go None g f more = absurd cc
      go (Some l) g f more =
          let lc : IsCorner rows l = step_keeps k l h g in
          let r : (m : Corner) × (steps rows n l ≡ Some m) × (step rows m ≡ Some (turned_round k)) = last_step n l (turned_round k) f in
          let b : step rows k ≡ Some (turned_round r.0) = step_back r.0 (turned_round k) (steps_keep n l r.0 lc r.1) r.2 in
          let t : Some l ≡ Some (turned_round r.0) = sym g ∙ b in
          let s : l ≡ turned_round r.0 = cc in
          more l lc (r.1 ∙ ap (λ (m : Corner). Some (turned_round m)) (sym s))

  -- the steps from one corner of a walk to another
  rest : (n d m : ℕ) (first k l : Corner) → m ≡ n + d → steps rows n first ≡ Some k → steps rows m first ≡ Some l → steps rows d k ≡ Some l
  rest zero d m first k l e f g =
      let s : first ≡ k = cc in
      let t : m ≡ d = omega arith in
      subst (λ (x : Corner). steps rows d x ≡ Some l) s (subst (λ i. steps rows i first ≡ Some l) t g)
  rest (suc n) d zero first k l e f g = absurd (omega arith)
  rest (suc n) d (suc m) first k l e f g = go (step rows first) f g (λ x p q. rest n d m x k l (omega arith) p q)
    where
      go : (o : Option Corner) → option_and_then (λ x. steps rows n x) o ≡ Some k → option_and_then (λ x. steps rows m x) o ≡ Some l
          → ((x : Corner) → steps rows n x ≡ Some k → steps rows m x ≡ Some l → steps rows d k ≡ Some l) → steps rows d k ≡ Some l
      go None p q more = absurd cc
      go (Some x) p q more = more x p q

  pub no_turn : (first k : Corner) → IsCorner rows k → Reaches rows first k → Reaches rows first (turned_round k) → ⊥
  no_turn first k h a b = elim (cases_lt a.0 b.0) [
    | inl less ↦ no_turn_at (b.0 - a.0) k h (rest a.0 (b.0 - a.0) b.0 first k (turned_round k) (omega arith) a.1 b.1)
    | inr more ↦ no_turn_at (a.0 - b.0) (turned_round k) (turned_is k h) (rest b.0 (a.0 - b.0) a.0 first (turned_round k) k (omega arith) b.1 a.1)
  ]
