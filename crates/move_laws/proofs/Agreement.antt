-- A move, played on a table, results in at most one table.
use Rattle.std.proofs.Common.{◌≡◌, ℕ, ◌<◌, List, [], length, get_or, None, sym, ap, ◌∙◌, arith, inl, inr}
use Rattle.std.specs.Prelude.{◌⊎◌, All}
use Rattle.std.proofs.lemmas.List.{ext_get_or}
use Rattle.table_definitions.specs.Table.{Row, Face, glue}
use Rattle.table_definitions.proofs.Faces.{face_at}
use Rattle.move_definitions.specs.Moves.{Move, new_length, IsMoved}
use Rattle.move_definitions.specs.Laws.{MovesAgree}
use Rattle.move_laws.proofs.Legal.{no_fault}
use Rattle.move_laws.proofs.Covered.{StandsForOld, IsInner, covered}

same_at : (old : List Row) (m : Move) (new new' : List Row) → IsMoved old m new → IsMoved old m new' → (y : Face) → StandsForOld old m y ⊎ IsInner old m y → glue new y ≡ glue new' y
same_at old m new new' h h' y (inl s) =
    let here : glue new y ≡ _ = ap (glue new) (sym s.is) ∙ h.outer s.old s.by s.tet s.face s.occurs in
    here ∙ sym (ap (glue new') (sym s.is) ∙ h'.outer s.old s.by s.tet s.face s.occurs)
same_at old m new new' h h' y (inr s) =
    ap (glue new) (sym s.is) ∙ h.inner s.j s.l s.j_small s.l_small s.separate ∙ sym (h'.inner s.j s.l s.j_small s.l_small s.separate) ∙ ap (glue new') s.is

-- tables with the same gluings are equal
pub same_tables : (rows rows' : List Row) → length rows ≡ length rows' → All (λ (row : Row). length row ≡ 4) rows → All (λ (row : Row). length row ≡ 4) rows'
    → ((t v : ℕ) → t < length rows → v < 4 → glue rows (face_at t v) ≡ glue rows' (face_at t v)) → rows ≡ rows'
same_tables rows rows' e fours fours' same =
    ext_get_or [] rows rows' e (λ t l. (let l' : t < length rows' = omega arith in same_rows (get_or rows t []) (get_or rows' t []) (fours t [] l) (fours' t [] l') (λ v. same t v l)))
  where
    same_rows : (row row' : Row) → length row ≡ 4 → length row' ≡ 4 → ((v : ℕ) → v < 4 → get_or row v None ≡ get_or row' v None) → row ≡ row'
    same_rows row row' a b s = ext_get_or None row row' (a ∙ sym b) (λ v l. s v (omega arith))

pub moves_agree_lem : MovesAgree
moves_agree_lem old m new new' table h h' =
    same_tables new new' (h.length_is ∙ sym h'.length_is) h.four_faces h'.four_faces
    (λ t v l lv. (let l' : t < new_length old m = omega (arith, h.length_is) in same_at old m new new' h h' (face_at t v) (covered old m (face_at t v) table (no_fault old m h.legal) h.core l' lv)))
