-- The replacements of the faces of a table on which a legal move is played, and the images of gluings.
use Rattle.std.proofs.Common.{◌≡◌, ℕ, ◌+◌, ◌<◌, ◌≤◌, Bool, true, false, List, length, Some, None, refl, sym, ap, ◌∙◌, arith, inl, inr}
use Rattle.std.specs.Prelude.{◌⊎◌, ◌≢◌, not}
use Rattle.std.proofs.lemmas.Bool.{cases_lt}
use Rattle.table_definitions.specs.Lists.{has, rank_without}
use Rattle.table_definitions.specs.Permutation.{image, inverse, compose, identity, IsPermutationOfFour}
use Rattle.table_definitions.specs.Table.{Gluing, Row, Face, glue, other_side, inverse_gluing}
use Rattle.table_definitions.specs.Relabelling.{face_under, gluing_under}
use Rattle.table_definitions.proofs.Permutations.{inverse_permutes, compose_permutes, identity-compose, compose-identity, inverse-identity}
use Rattle.table_definitions.proofs.Ranks.{rank, stays, closed_up-rank, at_rank, ranks_apart, stays-count}
use Rattle.std.proofs.lemmas.List.Kept.{AllPairs-from_increasing}
use Rattle.move_definitions.specs.Moves.{Move, Facet, vertex_of, opposite, kept, new_facet, label_by_label, facet_place_after, kept_place_after, place_after, facet_gluing, old_tets}
use Rattle.move_definitions.specs.Undos.{taken_numbers}
use Rattle.move_definitions.proofs.StandIns.{facet_image_after-new, facet_image_after-old, image_after-kept}
use Rattle.move_laws.specs.Facets.{IsFacet, IsOldFacet}
use Rattle.move_laws.proofs.LabelLaws.{by_permutes, vertex_by}
use Rattle.move_laws.proofs.FacetLaws.{new_is_facet, core_few}
use Rattle.move_laws.proofs.LegalLaws.{IsLegal}
use Rattle.move_laws.proofs.NumberLaws.{picked-up, picked-within}
use Rattle.move_laws.proofs.ListedLaws.{tet_of_old, old_of_tet, stand_old, taken-has, length-taken, closed-taken}
use Rattle.table_definitions.proofs.Carried.{carried_image as image_under, carried_back as back_under}
use Rattle.table_definitions.proofs.InPlace.{in_place-same}

-- the image of a gluing

pub under_permutes : (s r g : Gluing) → IsPermutationOfFour s.perm → IsPermutationOfFour r.perm → IsPermutationOfFour g.perm → IsPermutationOfFour (gluing_under s r g).perm
under_permutes s r g hs hr hg = compose_permutes r.perm (compose g.perm (inverse s.perm)) hr (compose_permutes g.perm (inverse s.perm) hg (inverse_permutes s.perm hs))

-- the other side of the image of a gluing is the image of the other side
pub side_under : (s r g : Gluing) (x : Face) → IsPermutationOfFour s.perm → IsPermutationOfFour r.perm → IsPermutationOfFour g.perm → x.face < 4
    → other_side (face_under s x) (gluing_under s r g) ≡ face_under r (other_side x g)
side_under s r g x hs hr hg l = ap (λ v. record { tet = r.tet; face = v }) (image_under s.perm r.perm g.perm x.face hs hr hg l)

-- the inverse of the image of a gluing is the image of its inverse
pub way_under : (s r g : Gluing) (x : Face) → IsPermutationOfFour s.perm → IsPermutationOfFour r.perm → IsPermutationOfFour g.perm → inverse_gluing (face_under s x) (gluing_under s r g) ≡ gluing_under r s (inverse_gluing x g)
way_under s r g x hs hr hg = ap (λ (p : List ℕ). record { tet = s.tet; perm = p }) (sym (back_under s.perm r.perm g.perm hs hr hg))

-- between retained tetrahedra permutations stay
pub under_kept : (t u : ℕ) (g : Gluing) → IsPermutationOfFour g.perm → gluing_under (record { tet = t; perm = identity }) (record { tet = u; perm = identity }) g ≡ record { tet = u; perm = g.perm }
under_kept t u g h =
    ap (λ (p : List ℕ). record { tet = u; perm = p })
    (ap (λ (q : List ℕ). compose identity (compose g.perm q)) inverse-identity ∙ ap (compose identity) (compose-identity g.perm h) ∙ identity-compose g.perm h)

-- the new numbers of retained tetrahedra

pub record ClosedUp (rows : List Row) (m : Move) (t : ℕ) : Type 0 where
  pub rank_is : rank (stays (taken_numbers rows m)) t ≡ rank_without (old_tets rows m) t
  pub fewer : rank_without (old_tets rows m) t < kept rows m

pub stays_on : (rows : List Row) (m : Move) (t : ℕ) → t < length rows → has (old_tets rows m) t ≡ false → stays (taken_numbers rows m) t ≡ true
stays_on rows m t l free = ap not (taken-has rows m t l ∙ free)

pub closes : (rows : List Row) (m : Move) (t : ℕ) → IsLegal rows m → t < length rows → has (old_tets rows m) t ≡ false → ClosedUp rows m t
closes rows m t legal l free =
    let up = picked-up (has (old_tets rows m)) (length rows) in
    let ascends = AllPairs-from_increasing (taken_numbers rows m) up in
    let r : rank (stays (taken_numbers rows m)) t ≡ rank_without (old_tets rows m) t = sym (closed_up-rank (taken_numbers rows m) t ascends) ∙ closed-taken rows m t legal l in
    let a = (at_rank (stays (taken_numbers rows m)) (length rows) t l (stays_on rows m t l free)).fewer in
    let b : rank (stays (taken_numbers rows m)) (length rows) + length (taken_numbers rows m) ≡ length rows =
    stays-count (taken_numbers rows m) (length rows) ascends (λ k q. picked-within (has (old_tets rows m)) (length rows) (length rows) (omega arith) k 0 q) in
    let c = length-taken rows m legal in
    record { rank_is = r; fewer = omega arith }

pub closed-separate : (rows : List Row) (m : Move) (t u : ℕ) → IsLegal rows m → t < length rows → u < length rows → has (old_tets rows m) t ≡ false → has (old_tets rows m) u ≡ false
    → rank_without (old_tets rows m) t ≡ rank_without (old_tets rows m) u → t ≡ u
closed-separate rows m t u legal lt lu ft fu e =
    ranks_apart (stays (taken_numbers rows m)) (length rows) t u lt lu (stays_on rows m t lt ft) (stays_on rows m u lu fu)
    ((closes rows m t legal lt ft).rank_is ∙ e ∙ sym (closes rows m u legal lu fu).rank_is)

-- the replacement of a face: of a retained tetrahedron, or of an old facet

pub record StandsKept (rows : List Row) (m : Move) (x : Face) (s : Gluing) : Type 0 where
  pub free : has (old_tets rows m) x.tet ≡ false
  pub is : s ≡ kept_place_after rows m x.tet

pub record StandsPut (rows : List Row) (m : Move) (x : Face) (s : Gluing) : Type 0 where
  pub i : ℕ
  pub j : ℕ
  pub f : Facet
  pub old : IsOldFacet rows m i f
  pub new : j < length m.core
  pub at : x ≡ opposite f j
  pub is : s ≡ facet_gluing rows m f j

pub face_at : (f : Facet) (x : Face) → IsFacet f → x.tet ≡ f.tet → x.face < 4 → x ≡ opposite f (image f.labels x.face)
face_at f x F e l =
    let mk : ℕ → ℕ → Face = λ t v. record { tet = t; face = v } in
    ap (λ t. mk t x.face) e ∙ ap (mk f.tet) (sym (F.vertex_back x.face l))

pub occurs : (rows : List Row) (m : Move) (x : Face) (s : Gluing) → IsLegal rows m → x.face < 4 → place_after rows m x ≡ Some s → StandsKept rows m x s ⊎ StandsPut rows m x s
occurs rows m x s legal l e = by_test (has (old_tets rows m) x.tet) refl
  where
    by_label : (i : ℕ) (f : Facet) → IsOldFacet rows m i f → f.tet ≡ x.tet → (image f.labels x.face < length m.core) ⊎ (length m.core ≤ image f.labels x.face) → StandsPut rows m x s
    by_label i f F t (inl b) =
        let z : Some (facet_gluing rows m f (image f.labels x.face)) ≡ Some s = sym (facet_image_after-new rows m f (image f.labels x.face) b) ∙ sym (stand_old rows m i f x legal F (sym t)) ∙ e in
        record { i = i; j = image f.labels x.face; f = f; old = F; new = b; at = face_at f x F.labelled (sym t) l; is = cc }
    by_label i f F t (inr b) =
        let z : None ≡ Some s = sym (facet_image_after-old rows m f (image f.labels x.face) b) ∙ sym (stand_old rows m i f x legal F (sym t)) ∙ e in
        absurd cc

    by_test : (b : Bool) → has (old_tets rows m) x.tet ≡ b → StandsKept rows m x s ⊎ StandsPut rows m x s
    by_test true h =
        let o = old_of_tet rows m x.tet legal h in
        let f : Facet = o.1 in
        inr (by_label o.0 f o.2 o.3 (cases_lt (image f.labels x.face) (length m.core)))
    by_test false h = let z : Some (kept_place_after rows m x.tet) ≡ Some s = sym (image_after-kept rows m x h) ∙ e in inl (record { free = h; is = cc })

-- an old face opposite a new label

pub vertex_small : (rows : List Row) (m : Move) (i j : ℕ) (f : Facet) → IsLegal rows m → IsOldFacet rows m i f → j < length m.core → vertex_of f j < 4
vertex_small rows m i j f legal F l =
    let limited = core_few m.core legal.core in
    let a = F.missing_is in
    let b = F.old_label in
    F.labelled.vertex_below j (omega arith) (λ e. absurd (omega arith))

pub label_again : (rows : List Row) (m : Move) (i j : ℕ) (f : Facet) → IsLegal rows m → IsOldFacet rows m i f → j < length m.core → image f.labels (vertex_of f j) ≡ j
label_again rows m i j f legal F l =
    let limited = core_few m.core legal.core in
    let a = F.missing_is in
    let b = F.old_label in
    F.labelled.label_back j (omega arith) (λ e. absurd (omega arith))

pub stand_put : (rows : List Row) (m : Move) (i j : ℕ) (f : Facet) → IsLegal rows m → IsOldFacet rows m i f → j < length m.core → place_after rows m (opposite f j) ≡ Some (facet_gluing rows m f j)
stand_put rows m i j f legal F l =
    stand_old rows m i f (opposite f j) legal F refl ∙ ap (facet_place_after rows m f) (label_again rows m i j f legal F l) ∙ facet_image_after-new rows m f j l

pub put_permutes : (rows : List Row) (m : Move) (i j : ℕ) (f : Facet) → IsLegal rows m → IsOldFacet rows m i f → j < length m.core → IsPermutationOfFour (facet_gluing rows m f j).perm
put_permutes rows m i j f legal F l =
    let limited = core_few m.core legal.core in
    let a = F.missing_is in
    let b = F.old_label in
    by_permutes f (new_facet rows m j) F.labelled (new_is_facet rows m j (omega arith)) (λ e. absurd (omega arith))

-- an old face is replaced by the face of the new facet opposite the old label
pub put_face : (rows : List Row) (m : Move) (i j : ℕ) (f : Facet) → IsLegal rows m → IsOldFacet rows m i f → j < length m.core → face_under (facet_gluing rows m f j) (opposite f j) ≡ opposite (new_facet rows m j) i
put_face rows m i j f legal F l =
    let limited = core_few m.core legal.core in
    let a = F.missing_is in
    let b = F.old_label in
    let at : image (label_by_label f (new_facet rows m j)) (vertex_of f j) ≡ vertex_of (new_facet rows m j) i =
    vertex_by f (new_facet rows m j) j F.labelled (omega arith) (λ e. absurd (omega arith)) ∙ ap (vertex_of (new_facet rows m j)) (in_place-same j f.missing j refl ∙ a) in
    ap (λ v. record { tet = (new_facet rows m j).tet; face = v }) at

-- a face of an old facet that is glued to a retained tetrahedron lies opposite a new label
pub outer_label : (rows : List Row) (m : Move) (i : ℕ) (f : Facet) (x : Face) (g : Gluing) → IsLegal rows m → IsOldFacet rows m i f → x.tet ≡ f.tet → x.face < 4 → glue rows x ≡ Some g → has (old_tets rows m) g.tet ≡ false
    → image f.labels x.face < length m.core
outer_label rows m i f x g legal F e l glued free = by_size (cases_lt (image f.labels x.face) (length m.core))
  where
    by_size : (image f.labels x.face < length m.core) ⊎ (length m.core ≤ image f.labels x.face) → image f.labels x.face < length m.core
    by_size (inl b) = b
    by_size (inr b) =
        let k : ℕ = image f.labels x.face in
        let a = F.missing_is in
        let o = legal.facet_at k b (F.labelled.label_below x.face l) in
        let h : Facet = o.0 in
        let other : i ≢ k = λ q. F.labelled.label_other x.face l (sym q ∙ sym a) in
        let inner = legal.inner i k f h F o.1 other in
        let z : Some (record { tet = h.tet; perm = label_by_label f h }) ≡ Some g = sym inner ∙ ap (glue rows) (sym (face_at f x F.labelled e l)) ∙ glued in
        let t : h.tet ≡ g.tet = cc in
        let y : true ≡ false = sym (tet_of_old rows m k h legal o.1) ∙ ap (has (old_tets rows m)) t ∙ free in
        absurd cc
