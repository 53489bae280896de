-- Crushing keeps closed tables closed and orientable ones orientable.
use Rattle.std.proofs.Common.{◌≡◌, ℕ, ◌<◌, Bool, true, false, List, length, map, Option, Some, None, sym, ap, ◌∙◌, subst, arith, option_map}
use Rattle.std.proofs.lemmas.List.{get_or-map, length-map}
use Rattle.table_definitions.specs.Table.{Gluing, Row, Face, glue, IsTable}
use Rattle.table_definitions.specs.Permutation.{is_odd}
use Rattle.table_definitions.proofs.Ranks.{rank, picked, length-picked, StandsAt, at_rank, of_rank}
use Rattle.table_definitions.proofs.TableLaws.{glued_tet, glued_face}
use Rattle.table_definitions.proofs.Faces.{face_at, gluing_to}
use Rattle.skeleton_definitions.specs.Orientation.{sign_of, AreSigns}
use Rattle.surface_definitions.specs.Crushing.{number_kept, CrushesTo, IsCrushed, renumbered}
use Rattle.surface_laws.specs.CrushingLaws.{IsKeptFace, HasOneEnd}
use Rattle.surface_laws.proofs.Chains.{has_one_end}
use Rattle.surface_laws.proofs.ChainsBack.{IsReadBack, chain_back}
use Rattle.surface_laws.proofs.CrushedRows.{stays}
use Rattle.surface_crushing_laws.specs.Invariants.{CrushingKeepsClosed, CrushingKeepsOrientable}
use Rattle.move_laws.proofs.Closed.{IsGlued, all_glued, is_closed-from}
use Rattle.move_laws.proofs.Parities.{behind}
use Rattle.surface_crushing_laws.proofs.RetainedEnds.{chain_somewhere, chain_signed}

module _ (rows : List Row) (xs : List ℕ) (new : List Row) (table : IsTable rows) (c : IsCrushed rows xs new) where
  -- a face of the crushed table, and the kept face of which it is the image
  record Was (y : Face) : Type 0 where
    tet : ℕ
    kept : IsKeptFace rows xs (face_at tet y.face)
    number : number_kept xs tet ≡ y.tet
    end : Option Gluing
    chain : CrushesTo rows xs (face_at tet y.face) end
    glued : glue new y ≡ option_map (renumbered xs) end

  was : (y : Face) → y.tet < length new → y.face < 4 → Was y
  was y lt lf =
      let r : (u : ℕ) × (u < length rows) × (stays xs u ≡ true) × (rank (stays xs) u ≡ y.tet) = of_rank (stays xs) (length rows) y.tet (omega (arith, c.length_is)) in
      let k : IsKeptFace rows xs (face_at r.0 y.face) = record { in_range = r.1; face = lf; kept = r.2 } in
      let e : HasOneEnd rows xs (face_at r.0 y.face) = has_one_end rows xs table (face_at r.0 y.face) k in
      record {
        tet = r.0;
        kept = k;
        number = r.3;
        end = e.end;
        chain = e.there;
        glued = ap (λ t. glue new (face_at t y.face)) (sym r.3) ∙ c.glued (face_at r.0 y.face) e.end r.1 lf r.2 e.there;
      }

  closed_too : ((x : Face) → x.tet < length rows → x.face < 4 → IsGlued rows x) → (y : Face) → y.tet < length new → y.face < 4 → IsGlued new y
  closed_too all y lt lf =
      let w = was y lt lf in
      let e = chain_somewhere rows xs table (face_at w.tet y.face) lf all w.chain.0 w.end (w.kept).in_range w.chain.1 in
      (gluing_to (number_kept xs (e.0).tet) (e.0).perm, w.glued ∙ ap (option_map (renumbered xs)) e.1)

  module _ (signs : List Bool) (are : AreSigns rows signs) where
    abbrev kept_signs : List Bool
    kept_signs = map (sign_of signs) (picked (stays xs) (length rows))

    sign_at : (t : ℕ) → t < length rows → stays xs t ≡ true → sign_of kept_signs (number_kept xs t) ≡ sign_of signs t
    sign_at t l k =
        let s : StandsAt (stays xs) (length rows) t = at_rank (stays xs) (length rows) t l k in
        get_or-map (sign_of signs) (picked (stays xs) (length rows)) (number_kept xs t) 0 false (omega (arith, length-picked (stays xs) (length rows), s.fewer)) ∙ ap (sign_of signs) s.is

    signs_agree : (y : Face) (g : Gluing) → glue new y ≡ Some g → sign_of kept_signs g.tet ≡ behind (is_odd g.perm) (sign_of kept_signs y.tet)
    signs_agree y g e =
        let w = was y (glued_tet new y g e) (glued_face new y g c.four_faces e) in
        by_end w w.end w.chain (sym w.glued ∙ e)
      where
        by_end : (w : Was y) (o : Option Gluing) → CrushesTo rows xs (face_at w.tet y.face) o → option_map (renumbered xs) o ≡ Some g → sign_of kept_signs g.tet ≡ behind (is_odd g.perm) (sign_of kept_signs y.tet)
        by_end w None d s = absurd cc
        by_end w (Some k) d s =
            let same : gluing_to (number_kept xs k.tet) k.perm ≡ g = cc in
            let b : IsReadBack rows xs (face_at w.tet y.face) k = chain_back rows xs (face_at w.tet y.face) k table w.kept d in
            subst (λ (q : Gluing). sign_of kept_signs q.tet ≡ behind (is_odd q.perm) (sign_of kept_signs y.tet)) same
            (sign_at k.tet (b.kept_there).in_range (b.kept_there).kept
            ∙ chain_signed rows xs table (face_at w.tet y.face) (w.kept).face (sign_of signs) are.agree d.0 k d.1
            ∙ ap (behind (is_odd k.perm)) (sym (sign_at w.tet (w.kept).in_range (w.kept).kept) ∙ ap (sign_of kept_signs) w.number))

    oriented : AreSigns new kept_signs
    oriented = record { one_each = length-map (picked (stays xs) (length rows)) (sign_of signs) ∙ length-picked (stays xs) (length rows) ∙ sym c.length_is; agree = signs_agree }

pub crushing_keeps_closed_lem : CrushingKeepsClosed
crushing_keeps_closed_lem rows xs new table c e = is_closed-from new (closed_too rows xs new table c (all_glued rows e))

pub crushing_keeps_orientable_lem : CrushingKeepsOrientable
crushing_keeps_orientable_lem rows xs new table c (signs, are) = (kept_signs rows xs new table c signs are, oriented rows xs new table c signs are)
