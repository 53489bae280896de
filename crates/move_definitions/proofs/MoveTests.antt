-- Tests that decide whether a table is the result of a move on another, so that this can be computed for the tables of
-- the examples.
use Rattle.std.proofs.Common.{◌≡◌, ℕ, Bool, true, List, length, Option, Some, None, ◌⊎◌, inl, inr, subst}
use Rattle.std.specs.Prelude.{◌||◌, ◌==◌, ◌≢◌, option_and_then}
use Rattle.std.specs.List.{list_all}
use Rattle.std.proofs.lemmas.Bool.{eqb-true, or_cases}
use Rattle.table_definitions.specs.Lists.{below, pairs_of}
use Rattle.table_definitions.specs.Table.{Gluing, Row, Face, glue, faces}
use Rattle.table_definitions.specs.Relabelling.{face_under}
use Rattle.move_definitions.specs.Moves.{Move, IsCore, move_fault, new_length, new_facet, opposite, label_by_label, place_after, moved_gluing, IsMoved}
use Rattle.table_definitions.proofs.TableLaws.{Among-below, Among-pairs}
use Rattle.table_definitions.proofs.Tests.{list_all-among, each_face, same_glue, same_glue-true, has_fours, fours_from}

-- whether a face of the old table that is replaced is glued in the new one as it should be
abbrev pub is_outer_moved : List Row → Move → List Row → Face → Option Gluing → Bool
is_outer_moved old m new x None = true
is_outer_moved old m new x (Some s) = same_glue (glue new (face_under s x)) (option_and_then (moved_gluing old m x s) (glue old x))

abbrev pub is_inner_moved : List Row → Move → List Row → ℕ × ℕ → Bool
is_inner_moved old m new p =
    (p.0 == p.1) || same_glue (glue new (opposite (new_facet old m p.0) p.1)) (Some (record { tet = (new_facet old m p.1).tet; perm = label_by_label (new_facet old m p.0) (new_facet old m p.1) }))

pub record PassesMove (old : List Row) (m : Move) (new : List Row) : Type 0 where
  pub core : IsCore m.core
  pub legal : move_fault old m ≡ None
  pub length_is : length new ≡ new_length old m
  pub fours : has_fours new ≡ true
  pub inner : list_all (is_inner_moved old m new) (pairs_of (below (length m.core)) (below (length m.core))) ≡ true
  pub outer : list_all (λ x. is_outer_moved old m new x (place_after old m x)) (faces (length old)) ≡ true

pub IsMoved-passed : (old : List Row) (m : Move) (new : List Row) → PassesMove old m new → IsMoved old m new
IsMoved-passed old m new p = record {
  core = p.core;
  legal = p.legal;
  length_is = p.length_is;
  four_faces = fours_from new p.fours;
  inner = λ j l hj hl separate. inner_at j l separate (list_all-among (is_inner_moved old m new) (j, l) (pairs_of (below (length m.core)) (below (length m.core))) p.inner
      (Among-pairs j l (below (length m.core)) (below (length m.core)) (Among-below j (length m.core) hj) (Among-below l (length m.core) hl)));
  outer = λ x s ht hf is. outer_at x s is (each_face (λ y. is_outer_moved old m new y (place_after old m y)) (length old) p.outer x ht hf);
}
  where
    inner_at : (j l : ℕ) → j ≢ l → is_inner_moved old m new (j, l) ≡ true
        → glue new (opposite (new_facet old m j) l) ≡ Some (record { tet = (new_facet old m l).tet; perm = label_by_label (new_facet old m j) (new_facet old m l) })
    inner_at j l separate e =
        let target : Option Gluing = Some (record { tet = (new_facet old m l).tet; perm = label_by_label (new_facet old m j) (new_facet old m l) }) in
        pick (or_cases (j == l) (same_glue (glue new (opposite (new_facet old m j) l)) target) e)
      where
        pick : ((j == l) ≡ true) ⊎ (same_glue (glue new (opposite (new_facet old m j) l)) (Some (record { tet = (new_facet old m l).tet; perm = label_by_label (new_facet old m j) (new_facet old m l) })) ≡ true)
            → glue new (opposite (new_facet old m j) l) ≡ Some (record { tet = (new_facet old m l).tet; perm = label_by_label (new_facet old m j) (new_facet old m l) })
        pick (inl same) = absurd (separate (eqb-true j l same))
        pick (inr s) = same_glue-true (glue new (opposite (new_facet old m j) l)) (Some (record { tet = (new_facet old m l).tet; perm = label_by_label (new_facet old m j) (new_facet old m l) })) s

    outer_at : (x : Face) (s : Gluing) → place_after old m x ≡ Some s → is_outer_moved old m new x (place_after old m x) ≡ true
        → glue new (face_under s x) ≡ option_and_then (moved_gluing old m x s) (glue old x)
    outer_at x s is e =
        same_glue-true (glue new (face_under s x)) (option_and_then (moved_gluing old m x s) (glue old x)) (subst (λ (o : Option Gluing). is_outer_moved old m new x o ≡ true) is e)
