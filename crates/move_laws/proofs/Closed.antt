-- The table that results from a move is closed if and only if the old table is.
use Rattle.std.proofs.Common.{◌≡◌, ℕ, ◌<◌, ◌≤◌, Bool, true, false, List, [], ◌∷◌, length, Option, Some, None, refl, sym, ap, ◌∙◌, subst, arith, inl, inr}
use Rattle.std.specs.Prelude.{◌⊎◌, not, is_none, option_map, option_and_then}
use Rattle.std.specs.List.{slice_index_or}
use Rattle.std.proofs.lemmas.List.Elements.{Contains-get_or}
use Rattle.std.proofs.lemmas.List.Sums.{list_all-from_AllPass}
use Rattle.std.proofs.lemmas.Bool.{cases_lt}
use Rattle.table_definitions.specs.Lists.{has}
use Rattle.table_definitions.specs.Permutation.{image, preimage}
use Rattle.table_definitions.specs.Table.{Gluing, Row, Face, glue, faces, IsTable}
use Rattle.table_definitions.specs.Places.{is_boundary, is_closed}
use Rattle.table_definitions.specs.Relabelling.{face_under, gluing_under}
use Rattle.table_definitions.proofs.Tests.{each_face}
use Rattle.table_definitions.proofs.Listed.{faces-among, among_contains}
use Rattle.table_definitions.proofs.Faces.{face_at}
use Rattle.move_definitions.specs.Moves.{Move, Facet, IsMoved, place_after, kept_place_after, moved_gluing, facet_gluing, old_tets}
use Rattle.move_definitions.proofs.StandIns.{facet_image_after-new, image_after-kept}
use Rattle.move_laws.proofs.Labels.{HasLabel, label_at}
use Rattle.move_laws.proofs.Legal.{IsFacet, facet_is, HasNoFault, no_fault, old_tet_facet, OldFacet, old_facet}
use Rattle.move_laws.proofs.Matched.{AreGlued, old_glued}
use Rattle.move_laws.proofs.Covered.{covered, image_after-old}
use Rattle.move_laws.proofs.Shapes.{stand_in_range}
use Rattle.move_laws.proofs.SecondStand.{other_stands}
use Rattle.move_laws.specs.Closed.{MovesKeepClosed, MovesKeepBoundary, PlaysKeepClosed, PlaysKeepBoundary}

abbrev pub IsGlued : List Row → Face → Type 0
IsGlued rows x = (g : Gluing) × (glue rows x ≡ Some g)

-- each face in range is glued
abbrev pub AreGluedAll : List Row → Type 0
AreGluedAll rows = (x : Face) → x.tet < length rows → x.face < 4 → IsGlued rows x

some_of : (o : Option Gluing) → not (is_none o) ≡ true → (g : Gluing) × (o ≡ Some g)
some_of None e = absurd cc
some_of (Some g) e = (g, refl)

pub all_glued : (rows : List Row) → is_closed rows ≡ true → AreGluedAll rows
all_glued rows e x lt lf = some_of (glue rows x) (each_face (λ y. not (is_boundary rows y)) (length rows) e x lt lf)

pub is_closed-from : (rows : List Row) → AreGluedAll rows → is_closed rows ≡ true
is_closed-from rows h = list_all-from_AllPass (λ x. not (is_boundary rows x)) (faces (length rows)) (λ k d l.
    let x : Face = slice_index_or (faces (length rows)) k d in
    let r = faces-among x (length rows) (among_contains x (faces (length rows)) (Contains-get_or (faces (length rows)) k d l)) in
    let g = h x r.0 r.1 in ap (λ (o : Option Gluing). not (is_none o)) g.1)

module _ (old : List Row) (m : Move) (new : List Row) (table : IsTable old) (h : IsMoved old m new) where
  fine : HasNoFault old m
  fine = no_fault old m h.legal

  new_glued : AreGluedAll old → AreGluedAll new
  new_glued all y lt lf = elim (covered old m y table fine h.core (let e = h.length_is in omega arith) lf) [
    | inl o ↦ (let g = all o.old o.tet o.face in let r = other_stands old m table fine h.core o.old o.by g.0 o.face o.occurs g.1 in (
      gluing_under o.by r.0 g.0,
      ap (glue new) (sym o.is) ∙ h.outer o.old o.by o.tet o.face o.occurs ∙ ap (option_and_then (moved_gluing old m o.old o.by)) g.1
          ∙ ap (option_map (λ q. gluing_under o.by q g.0)) r.1,
    ))
    | inr n ↦ (_, ap (glue new) (sym n.is) ∙ h.inner n.j n.l n.j_small n.l_small n.separate)
  ]

  module _ (all : AreGluedAll new) (x : Face) (lt : x.tet < length old) (lf : x.face < 4) where
    -- a face that is replaced in the new table
    where_stands : (s : Gluing) → place_after old m x ≡ Some s → IsGlued old x
    where_stands s e = by_glue (glue old x) refl
      where
        by_glue : (o : Option Gluing) → glue old x ≡ o → IsGlued old x
        by_glue (Some g) f = (g, f)
        by_glue None f =
            let r = stand_in_range old m table fine h.core x s lt lf e in
            let there : IsGlued new (face_under s x) = all (face_under s x) (let l = h.length_is in let k = r.0 in omega arith) r.1 in
            let none : glue new (face_under s x) ≡ None = h.outer x s lt lf e ∙ ap (option_and_then (moved_gluing old m x s)) f in
            let some : glue new (face_under s x) ≡ Some there.0 = there.1 in absurd cc

    -- a face of an old facet
    of_facet : OldFacet old m x.tet → IsGlued old x
    of_facet o = by_label (cases_lt j (length m.core))
      where
        f : Facet
        f = o.facet_of

        is : IsFacet old o.label f
        is = facet_is old m o.label f table h.core fine.in_range o.high o.is

        j : ℕ
        j = image f.labels x.face

        at : HasLabel o.label f.labels x.face
        at = label_at o.label f.labels is.labels x.face lf

        same : face_at f.tet x.face ≡ x
        same = ap (λ t. face_at t x.face) o.tet

        by_label : (j < length m.core) ⊎ (length m.core ≤ j) → IsGlued old x
        by_label (inl new_label) = where_stands (facet_gluing old m f j) (subst (λ (y : Face). place_after old m y ≡ Some (facet_gluing old m f j)) same
            (image_after-old old m o.label f x.face fine h.core o.low o.high o.is ∙ facet_image_after-new old m f j new_label))
        by_label (inr old_label) =
            let g = old_facet old m j fine h.core old_label at.small in
            let a : AreGlued old o.label j f g.0 = old_glued old m o.label j f g.0 table fine h.core o.low o.high old_label at.small (λ e. at.present (sym e)) o.is g.1 in
            let face : face_at f.tet (preimage f.labels j) ≡ x = ap (face_at f.tet) at.vertex ∙ same in
            (a.by, ap (glue old) (sym face) ∙ a.glued)

    old_glued_at : IsGlued old x
    old_glued_at = by_test (has (old_tets old m) x.tet) refl
      where
        by_test : (b : Bool) → has (old_tets old m) x.tet ≡ b → IsGlued old x
        by_test false e = where_stands (kept_place_after old m x.tet) (image_after-kept old m x e)
        by_test true e = of_facet (old_tet_facet old m x.tet h.core e)

pub moves_keep_closed_lem : MovesKeepClosed
moves_keep_closed_lem old m new table h e = is_closed-from new (new_glued old m new table h (all_glued old e))

pub moves_keep_boundary_lem : MovesKeepBoundary
moves_keep_boundary_lem old m new table h e = is_closed-from old (old_glued_at old m new table h (all_glued new e))

pub plays_keep_closed_lem : PlaysKeepClosed
plays_keep_closed_lem old [] new p e = subst (λ (rows : List Row). is_closed rows ≡ true) p e
plays_keep_closed_lem old (m ∷ ms) new (next, p, rest) e = plays_keep_closed_lem next ms new rest (moves_keep_closed_lem old m next p.table p.moved e)

pub plays_keep_boundary_lem : PlaysKeepBoundary
plays_keep_boundary_lem old [] new p e = subst (λ (rows : List Row). is_closed rows ≡ true) (sym p) e
plays_keep_boundary_lem old (m ∷ ms) new (next, p, rest) e = moves_keep_boundary_lem old m next p.table p.moved (plays_keep_boundary_lem next ms new rest e)
