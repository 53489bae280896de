-- If a table has an orientable relabelling, or a move on it results in an orientable table, it is orientable.
use Rattle.std.proofs.Common.{◌≡◌, ℕ, ◌<◌, Bool, false, List, [], ◌∷◌, length, map, Some, sym, ap, ◌∙◌, subst, arith}
use Rattle.std.specs.Prelude.{option_map}
use Rattle.std.proofs.lemmas.List.{length-map}
use Rattle.std.proofs.lemmas.List.FromFn.{length-range_with_len, get_or-map-range_with_len}
use Rattle.table_definitions.specs.Lists.{below}
use Rattle.table_definitions.specs.Permutation.{is_odd}
use Rattle.table_definitions.specs.Table.{Gluing, Row, Face, glue, IsTable}
use Rattle.table_definitions.specs.Relabelling.{Relabelling, IsRelabelling, relabelled_place, face_under, gluing_under, Carries}
use Rattle.table_definitions.proofs.TableLaws.{glued_tet, glued_face}
use Rattle.table_definitions.proofs.Carried.{perm_permutes}
use Rattle.skeleton_definitions.specs.Orientation.{sign_of, AreSigns, IsOrientable}
use Rattle.move_definitions.specs.Moves.{inverse_move}
use Rattle.move_laws.proofs.LedBack.{inverses_lead_back_lem}
use Rattle.move_laws.proofs.MadeTables.{moves_make_tables_lem}
use Rattle.move_laws.proofs.Played.{played_table}
use Rattle.move_laws.specs.Orientable.{RelabelledFromOrientable, MovesComeFromOrientable, PlaysComeFromOrientable}
use Rattle.move_laws.proofs.Parities.{flip, behind, back_sign}
use Rattle.move_laws.proofs.Oriented.{moves_keep_orientable_lem}

module _ (old new : List Row) (table : IsTable old) (by : Relabelling) (is : IsRelabelling (length old) by) (c : Carries by old new) (signs : List Bool) (are : AreSigns new signs) where
  -- the sign of the image of a tetrahedron, the other one if the permutation of its vertices is odd
  old_sign_of : ℕ → Bool
  old_sign_of t = flip (is_odd (relabelled_place by t).perm) (sign_of signs (relabelled_place by t).tet)

  abbrev old_signs : List Bool
  old_signs = map old_sign_of (below (length old))

  sign_at : (t : ℕ) → t < length old → sign_of old_signs t ≡ old_sign_of t
  sign_at t l = get_or-map-range_with_len old_sign_of 0 (length old) t t false l (omega arith)

  agrees : (x : Face) (g : Gluing) → glue old x ≡ Some g → old_sign_of g.tet ≡ behind (is_odd g.perm) (old_sign_of x.tet)
  unfolding old_sign_of
  agrees x g e =
      let lt : x.tet < length old = glued_tet old x g e in
      let lf : x.face < 4 = glued_face old x g table.four_faces e in
      let s : Gluing = relabelled_place by x.tet in
      let r : Gluing = relabelled_place by g.tet in
      let there : glue new (face_under s x) ≡ Some (gluing_under s r g) = c.glued x lt lf ∙ ap (option_map (λ (k : Gluing). gluing_under (relabelled_place by x.tet) (relabelled_place by k.tet) k)) e in
      ap (flip (is_odd r.perm)) (are.agree (face_under s x) (gluing_under s r g) there)
      ∙ back_sign r.perm g.perm s.perm (perm_permutes (length old) by is g.tet (table.in_range x g e)) (table.permutes x g e) (perm_permutes (length old) by is x.tet lt) (sign_of signs s.tet)

  old_are : AreSigns old old_signs
  old_are = record {
    one_each = length-map (below (length old)) old_sign_of ∙ length-range_with_len 0 (length old);
    agree = λ x g e. sign_at g.tet (table.in_range x g e) ∙ agrees x g e ∙ ap (behind (is_odd g.perm)) (sym (sign_at x.tet (glued_tet old x g e)));
  }

pub relabelled_from_orientable : RelabelledFromOrientable
relabelled_from_orientable old new table (by, is, c) (signs, are) = (old_signs old new table by is c signs are, old_are old new table by is c signs are)

pub moves_come_from_orientable : MovesComeFromOrientable
moves_come_from_orientable old m new table limited h o =
    let led = inverses_lead_back_lem old m new table h in
    relabelled_from_orientable old led.0 table led.2 (moves_keep_orientable_lem new (inverse_move (length old) m) led.0 (moves_make_tables_lem old m new table limited h) led.1 o)

pub plays_come_from_orientable : PlaysComeFromOrientable
plays_come_from_orientable old [] new p o = subst (λ (rows : List Row). IsOrientable rows) (sym p) o
plays_come_from_orientable old (m ∷ ms) new (next, p, rest) o =
    moves_come_from_orientable old m next p.table (played_table old m next p).limited p.moved (plays_come_from_orientable next ms new rest o)
