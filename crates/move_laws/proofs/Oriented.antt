-- A move keeps a table orientable: the signs of retained tetrahedra stay, and those of new facets follow from the sign
-- of the move's tetrahedron.
use Rattle.std.proofs.Common.{◌≡◌, ◌≢◌, ℕ, ◌+◌, ◌-◌, ◌<◌, ◌≤◌, Bool, false, List, [], ◌∷◌, length, map, Option, Some, None, refl, sym, ap, ◌∙◌, subst, arith, inl, inr}
use Rattle.std.specs.Prelude.{◌⊎◌, option_map, option_and_then}
use Rattle.std.proofs.lemmas.Bool.{cases_lt}
use Rattle.std.proofs.lemmas.List.{length-map}
use Rattle.std.proofs.lemmas.List.FromFn.{length-range_with_len, get_or-map-range_with_len}
use Rattle.table_definitions.specs.Lists.{below}
use Rattle.table_definitions.specs.Permutation.{IsPermutationOfFour, image, inverse, compose, identity, inversions, is_odd}
use Rattle.table_definitions.specs.Table.{Gluing, Row, Face, glue, other_side, IsTable}
use Rattle.table_definitions.specs.Relabelling.{face_under, gluing_under}
use Rattle.table_definitions.proofs.TableLaws.{glued_tet, glued_face}
use Rattle.table_definitions.proofs.Permutations.{image_below}
use Rattle.table_definitions.proofs.Faces.{face_at}
use Rattle.skeleton_definitions.specs.Orientation.{sign_of, AreSigns, IsOrientable}
use Rattle.move_definitions.specs.Moves.{Move, Facet, IsMoved, own_facet, opposite, facet, kept, new_length, new_facet, place_after, kept_place_after, moved_gluing}
use Rattle.move_definitions.proofs.CoreTests.{core_size, own_permutes}
use Rattle.move_laws.proofs.ListedFacets.{same_some}
use Rattle.move_laws.proofs.Legal.{IsFacet, facet-four, HasNoFault, no_fault}
use Rattle.move_laws.proofs.Matched.{AreGlued, old_glued}
use Rattle.move_laws.proofs.Covered.{StandsForOld, IsInner, covered, kept_covered}
use Rattle.move_laws.proofs.Shapes.{shape, IsKeptFace, IsFacetFace, stands_for_one, stand_permutes, stand_in_range}
use Rattle.move_laws.proofs.Renamed.{across}
use Rattle.move_laws.proofs.SecondStand.{crossing, other_stands}
use Rattle.move_laws.specs.Orientable.{MovesKeepOrientable, PlaysKeepOrientable}
use Rattle.move_laws.proofs.Parities.{flip, behind, across_sign, inner_sign, old_sign}

module _ (old : List Row) (m : Move) (new : List Row) (table : IsTable old) (h : IsMoved old m new) (signs : List Bool) (are : AreSigns old signs) where
  fine : HasNoFault old m
  fine = no_fault old m h.legal

  limited : length m.core < 5
  limited = (core_size m.core h.core).1

  abbrev own : List ℕ
  own = (own_facet m).labels

  own_is : IsPermutationOfFour own
  own_is = own_permutes m.core h.core

  -- the sign of the new facet for label j
  put_in : ℕ → Bool
  put_in j = flip (is_odd (crossing 4 j own)) (sign_of signs m.tet)

  -- the face 0 of the old tetrahedron that is retained as t
  kept_as : (t : ℕ) → t < kept old m → StandsForOld old m (face_at t 0)
  kept_as t l = kept_covered old m (face_at t 0) table fine h.core l (omega arith)

  sign_by : (t : ℕ) → (t < kept old m) ⊎ (kept old m ≤ t) → Bool
  sign_by t (inl l) = sign_of signs (kept_as t l).old.tet
  sign_by t (inr l) = put_in (t - kept old m)

  new_sign : ℕ → Bool
  new_sign t = sign_by t (cases_lt t (kept old m))

  put_value : (j : ℕ) → new_sign (kept old m + j) ≡ put_in j
  unfolding new_sign
  put_value j = at (cases_lt (kept old m + j) (kept old m))
    where
      at : (c : (kept old m + j < kept old m) ⊎ (kept old m ≤ kept old m + j)) → sign_by (kept old m + j) c ≡ put_in j
      at (inl l) = absurd (omega arith)
      at (inr l) = unfold sign_by in ap put_in (let e : kept old m + j - kept old m ≡ j = omega arith in e)

  kept_value : (x : Face) (s : Gluing) → x.tet < length old → IsKeptFace old m x (face_under s x) s → new_sign s.tet ≡ sign_of signs x.tet
  unfolding new_sign
  kept_value x s lt k = at (cases_lt s.tet (kept old m))
    where
      here : IsKeptFace old m (face_at x.tet 0) (face_at s.tet 0) (kept_place_after old m x.tet)
      here = record { stays = k.stays; by = refl; tet = k.tet; face = refl; small = k.small }

      same : (o : StandsForOld old m (face_at s.tet 0)) → o.old ≡ face_at x.tet 0
      same o = stands_for_one old m table fine h.core o.old (face_at x.tet 0) (face_at s.tet 0) o.by (kept_place_after old m x.tet) o.tet lt
          (subst (λ (y : Face). IsKeptFace old m o.old y o.by ⊎ IsFacetFace old m o.old y o.by) o.is (shape old m table fine h.core o.old o.by o.tet o.face o.occurs)) (inl here)

      at : (c : (s.tet < kept old m) ⊎ (kept old m ≤ s.tet)) → sign_by s.tet c ≡ sign_of signs x.tet
      at (inl l) = unfold sign_by in ap (λ (y : Face). sign_of signs y.tet) (same (kept_as s.tet l))
      at (inr l) = (let small = k.small in absurd (omega arith))

  -- the sign of a new facet is the same, whichever old facet it is computed from
  facet_sign : (i j : ℕ) (f : Facet) → length m.core ≤ i → i < 5 → j < length m.core → facet old m i ≡ Some f → IsFacet old i f →
      put_in j ≡ flip (is_odd (crossing i j f.labels)) (sign_of signs f.tet)
  unfolding put_in
  facet_sign i j f low high less e is = by_case (cases_lt i 4)
    where
      by_case : (i < 4) ⊎ (4 ≤ i) → flip (is_odd (crossing 4 j own)) (sign_of signs m.tet) ≡ flip (is_odd (crossing i j f.labels)) (sign_of signs f.tet)
      by_case (inl small) =
          let a : AreGlued old 4 i (own_facet m) f = old_glued old m 4 i (own_facet m) f table fine h.core (omega arith) (omega arith) low high (λ z. absurd (omega arith)) (facet-four old m) e in
          let hp : IsPermutationOfFour a.by.perm = table.permutes (opposite (own_facet m) i) a.by a.glued in
          let sign : sign_of signs a.by.tet ≡ behind (is_odd a.by.perm) (sign_of signs m.tet) = are.agree (opposite (own_facet m) i) a.by a.glued in
          old_sign own a.by.perm f.labels i j own_is hp is.labels small (omega (arith, limited)) (λ z. absurd (omega arith)) a.labels (sign_of signs m.tet)
          ∙ ap (flip (is_odd (crossing i j f.labels))) (sym sign ∙ ap (sign_of signs) a.tet)
      by_case (inr more) =
          let at : i ≡ 4 = omega arith in
          let same : own_facet m ≡ f = same_some (facet old m i) (own_facet m) f (ap (facet old m) at ∙ facet-four old m) e in
          ap (λ (k : Facet). flip (is_odd (crossing 4 j k.labels)) (sign_of signs k.tet)) same ∙ ap (λ n. flip (is_odd (crossing n j f.labels)) (sign_of signs f.tet)) (sym at)

  even : is_odd identity ≡ false
  even = unfold is_odd inversions in refl

  standing : (x : Face) (s : Gluing) → x.tet < length old → x.face < 4 → place_after old m x ≡ Some s → new_sign s.tet ≡ flip (is_odd s.perm) (sign_of signs x.tet)
  standing x s lt lf occurs = elim (shape old m table fine h.core x s lt lf occurs) [
    | inl k ↦ kept_value x s lt k ∙ sym (ap (λ (g : Gluing). flip (is_odd g.perm) (sign_of signs x.tet)) k.by ∙ ap (λ o. flip o (sign_of signs x.tet)) even)
    | inr f ↦ ap (λ (g : Gluing). new_sign g.tet) f.by ∙ put_value f.j ∙ facet_sign f.i f.j f.facet_of f.low f.high f.less f.found f.facet_is
        ∙ ap (λ n. flip (is_odd (crossing n f.j f.facet_of.labels)) (sign_of signs f.facet_of.tet)) (sym f.facet_is.missing)
        ∙ ap (λ (g : Gluing). flip (is_odd g.perm) (sign_of signs f.facet_of.tet)) (sym f.by)
        ∙ ap (λ (y : Face). flip (is_odd s.perm) (sign_of signs y.tet)) f.old_is
  ]

  -- the gluing g of the face y is to a tetrahedron of the new table, whose sign is the one across the gluing
  abbrev Agrees : Face → Gluing → Type 0
  Agrees y g = (g.tet < new_length old m) × (new_sign g.tet ≡ behind (is_odd g.perm) (new_sign y.tet))

  both_put_in : (j l : ℕ) → j < length m.core → l < length m.core → j ≢ l → put_in l ≡ behind (is_odd (across j l)) (put_in j)
  unfolding put_in
  both_put_in j l lj ll d = inner_sign own own_is j l (omega (arith, limited)) (omega (arith, limited)) d (sign_of signs m.tet)

  inner_agrees : (j l : ℕ) → j < length m.core → l < length m.core → j ≢ l → Agrees (opposite (new_facet old m j) l) (record { tet = kept old m + l; perm = across j l })
  inner_agrees j l lj ll d = (
    omega arith,
    put_value l ∙ both_put_in j l lj ll d ∙ ap (behind (is_odd (across j l))) (sym (put_value j)),
  )

  outer_agrees : (x : Face) (s g r : Gluing) → x.tet < length old → x.face < 4 → place_after old m x ≡ Some s → glue old x ≡ Some g → place_after old m (other_side x g) ≡ Some r
      → Agrees (face_under s x) (gluing_under s r g)
  outer_agrees x s g r lt lf occurs glued occurs' =
      let hg : IsPermutationOfFour g.perm = table.permutes x g glued in
      let yt : g.tet < length old = table.in_range x g glued in
      let yf : image g.perm x.face < 4 = image_below g.perm hg x.face lf in
      let hs = stand_permutes old m table fine h.core x s lt lf occurs in
      let hr = stand_permutes old m table fine h.core (other_side x g) r yt yf occurs' in (
        (stand_in_range old m table fine h.core (other_side x g) r yt yf occurs').0,
        standing (other_side x g) r yt yf occurs' ∙ ap (flip (is_odd r.perm)) (are.agree x g glued) ∙ across_sign r.perm g.perm s.perm hr hg hs (sign_of signs x.tet)
            ∙ ap (behind (is_odd (compose r.perm (compose g.perm (inverse s.perm))))) (sym (standing x s lt lf occurs)),
      )

  agrees_at : (y : Face) (g' : Gluing) → glue new y ≡ Some g' → StandsForOld old m y ⊎ IsInner old m y → Agrees y g'
  agrees_at y g' e (inr n) =
      let inner : Some (record { tet = kept old m + n.l; perm = across n.j n.l }) ≡ Some g' = sym (h.inner n.j n.l n.j_small n.l_small n.separate) ∙ ap (glue new) n.is ∙ e in
      let is : record { tet = kept old m + n.l; perm = across n.j n.l } ≡ g' = cc in
      subst (λ (z : Face). Agrees z g') n.is (subst (λ (g : Gluing). Agrees (opposite (new_facet old m n.j) n.l) g) is (inner_agrees n.j n.l n.j_small n.l_small n.separate))
  agrees_at y g' e (inl o) = subst (λ (z : Face). Agrees z g') o.is (by_gluing (glue old o.old) refl)
    where
      moved : option_and_then (moved_gluing old m o.old o.by) (glue old o.old) ≡ Some g'
      moved = sym (h.outer o.old o.by o.tet o.face o.occurs) ∙ ap (glue new) o.is ∙ e

      by_gluing : (q : Option Gluing) → glue old o.old ≡ q → Agrees (face_under o.by o.old) g'
      by_gluing None f = absurd (let none : None ≡ Some g' = sym (ap (option_and_then (moved_gluing old m o.old o.by)) f) ∙ moved in cc)
      by_gluing (Some g) f =
          let there : (r : Gluing) × (place_after old m (other_side o.old g) ≡ Some r) = other_stands old m table fine h.core o.old o.by g o.face o.occurs f in
          let made : Some (gluing_under o.by there.0 g) ≡ Some g' = sym (ap (option_map (λ r. gluing_under o.by r g)) there.1) ∙ sym (ap (option_and_then (moved_gluing old m o.old o.by)) f) ∙ moved in
          let is : gluing_under o.by there.0 g ≡ g' = cc in
          subst (λ (k : Gluing). Agrees (face_under o.by o.old) k) is (outer_agrees o.old o.by g there.0 o.tet o.face o.occurs f there.1)

  abbrev new_signs : List Bool
  new_signs = map new_sign (below (new_length old m))

  sign_at : (t : ℕ) → t < new_length old m → sign_of new_signs t ≡ new_sign t
  sign_at t l = get_or-map-range_with_len new_sign 0 (new_length old m) t t false l (omega arith)

  new_are : AreSigns new new_signs
  new_are = record {
    one_each = length-map (below (new_length old m)) new_sign ∙ length-range_with_len 0 (new_length old m) ∙ sym h.length_is;
    agree = λ y g e. (let lt : y.tet < new_length old m = (let n = h.length_is in let l : y.tet < length new = glued_tet new y g e in omega arith) in
        let lf : y.face < 4 = glued_face new y g h.four_faces e in
        let a = agrees_at y g e (covered old m y table fine h.core lt lf) in
        sign_at g.tet a.0 ∙ a.1 ∙ ap (behind (is_odd g.perm)) (sym (sign_at y.tet lt)));
  }

pub moves_keep_orientable_lem : MovesKeepOrientable
moves_keep_orientable_lem old m new table h (signs, are) = (new_signs old m new table h signs are, new_are old m new table h signs are)

pub plays_keep_orientable_lem : PlaysKeepOrientable
plays_keep_orientable_lem old [] new p o = subst (λ (rows : List Row). IsOrientable rows) p o
plays_keep_orientable_lem old (m ∷ ms) new (next, p, rest) o = plays_keep_orientable_lem next ms new rest (moves_keep_orientable_lem old m next p.table p.moved o)
