-- A table in which rows are replaced is a table.
use Rattle.std.proofs.Common.{◌≡◌, ℕ, ◌<◌, Bool, true, false, cond, List, [], length, get_or, Option, Some, None, refl, sym, ap, ◌∙◌, subst, inl, inr}
use Rattle.std.specs.Prelude.{◌⊎◌, All}
use Rattle.std.proofs.lemmas.List.Elements.{All-from_get_or, All-get_or}
use Rattle.table_definitions.specs.Lists.{has}
use Rattle.table_definitions.specs.Permutation.{IsPermutationOfFour, image, inverse}
use Rattle.table_definitions.specs.Table.{Gluing, Row, Face, glue, other_side, inverse_gluing, same_face, IsTable}
use Rattle.table_definitions.specs.Replacing.{Replacement, replaced_length, number_of_kept, back_to_fresh, kept_gluing, replaced}
use Rattle.table_definitions.proofs.Permutations.{image_below, preimage-image, image-inverse, inverse_permutes, inverse-inverse}
use Rattle.table_definitions.specs.Replaceable.{fresh_numbers, fresh_glue, CanReplace}
use Rattle.table_definitions.proofs.TableLaws.{glued_tet, glued_face}
use Rattle.table_definitions.proofs.Bijections.{there}
use Rattle.table_definitions.proofs.Carried.{IsGood, not_from, same_from, same_to}
use Rattle.table_definitions.proofs.Retained.{IsKeptAs, kept_at, kept_as, keeps, length-replaced, fresh_row_at, kept_row_at, glue-fresh, glue-kept}
use Rattle.table_definitions.proofs.FreshRows.{ComesBack, back_comes, back_is, fresh_tet, fresh_face, length-fresh_row}
use Rattle.table_definitions.proofs.Faces.{face_at}

-- a number in a list of numbers below n is below n
pub has_below : (xs : List ℕ) (n u : ℕ) → All (λ v. v < n) xs → has xs u ≡ true → u < n
has_below xs n u all h = let t = there xs u h in let P : ℕ → Type 0 = λ v. v < n in subst P (sym t.2) (All-get_or P xs t.0 u t.1 all)

-- the gluing of a face of a retained row: back to a new row, or to a retained one
kept_cases : (rows : List Row) (r : Replacement) (y : Face) (o : Option Gluing) (v : Gluing) → kept_gluing rows r y o ≡ Some v
    → (g : Gluing) × (o ≡ Some g) × (((has r.removed g.tet ≡ true) × (back_to_fresh r y ≡ Some v)) ⊎ ((has r.removed g.tet ≡ false) × (record { tet = number_of_kept rows r g.tet; perm = g.perm } ≡ v)))
kept_cases rows r y None v e = absurd cc
kept_cases rows r y (Some g) v e = (g, refl, by_test (has r.removed g.tet) refl e)
  where
    moved : Gluing
    moved = record { tet = number_of_kept rows r g.tet; perm = g.perm }

    by_test : (b : Bool) → has r.removed g.tet ≡ b → cond b (back_to_fresh r y) (Some moved) ≡ Some v
        → ((has r.removed g.tet ≡ true) × (back_to_fresh r y ≡ Some v)) ⊎ ((has r.removed g.tet ≡ false) × (moved ≡ v))
    by_test true t s = inl (t, s)
    by_test false t s = inr (t, cc)

kept_gone : (rows : List Row) (r : Replacement) (y : Face) (g : Gluing) → has r.removed g.tet ≡ true → kept_gluing rows r y (Some g) ≡ back_to_fresh r y
kept_gone rows r y g h = ap (λ b. cond b (back_to_fresh r y) (Some (record { tet = number_of_kept rows r g.tet; perm = g.perm }))) h

kept_stays : (rows : List Row) (r : Replacement) (y : Face) (g : Gluing) → has r.removed g.tet ≡ false → kept_gluing rows r y (Some g) ≡ Some (record { tet = number_of_kept rows r g.tet; perm = g.perm })
kept_stays rows r y g h = ap (λ b. cond b (back_to_fresh r y) (Some (record { tet = number_of_kept rows r g.tet; perm = g.perm }))) h

-- the conditions on a table hold for a gluing of a new row
good_fresh : (rows : List Row) (r : Replacement) → IsTable rows → CanReplace rows r → (y : Face) (g : Gluing) → fresh_glue r y ≡ Some g → IsGood (replaced_length rows r) (replaced rows r) y g
good_fresh rows r table can y g e = record {
  permutes = can.permutes y g e;
  in_range = can.in_range y g e;
  separate = can.separate y g e;
  leads_back = by_test (has (fresh_numbers r) g.tet) refl;
}
  where
    by_test : (b : Bool) → has (fresh_numbers r) g.tet ≡ b → glue (replaced rows r) (other_side y g) ≡ Some (inverse_gluing y g)
    by_test true h = glue-fresh rows r (other_side y g) (can.in_range y g e) h ∙ can.leads_back y g e h
    by_test false h =
        let freed = can.freed y g e h in
        let l : image g.perm y.face < 4 = image_below g.perm (can.permutes y g e) y.face (fresh_face rows r can y g e) in
        let k : IsKeptAs rows r freed.old g.tet = subst (λ u. IsKeptAs rows r freed.old u) freed.number (kept_as rows r can freed.old freed.in_range freed.is_kept) in
        glue-kept rows r freed.old g.tet (image g.perm y.face) k l
        ∙ ap (kept_gluing rows r (other_side y g)) freed.glued
        ∙ kept_gone rows r (other_side y g) freed.gluing freed.led_to_removed
        ∙ back_is rows r can y g e h

-- they hold for a gluing of a retained row to a new one
good_back : (rows : List Row) (r : Replacement) → IsTable rows → CanReplace rows r → (y : Face) (v : Gluing) → y.face < 4 → has (fresh_numbers r) y.tet ≡ false → ComesBack r y v
    → IsGood (replaced_length rows r) (replaced rows r) y v
good_back rows r table can y v lf kept c = subst (λ (w : Gluing). IsGood (replaced_length rows r) (replaced rows r) y w) c.back
    (subst (λ (z : Face). IsGood (replaced_length rows r) (replaced rows r) z (inverse_gluing x g)) c.leads good)
  where
    x : Face
    x = c.from

    g : Gluing
    g = c.gluing

    hp : IsPermutationOfFour g.perm
    hp = can.permutes x g c.glued

    xf : x.face < 4
    xf = fresh_face rows r can x g c.glued

    xt : has (fresh_numbers r) x.tet ≡ true
    xt = fresh_tet r x g c.glued

    in_range : x.tet < replaced_length rows r
    in_range = has_below (fresh_numbers r) (replaced_length rows r) x.tet can.fresh_in_range xt

    goes : image (inverse g.perm) (image g.perm x.face) ≡ x.face
    goes = image-inverse g.perm (image g.perm x.face) (image_below g.perm hp x.face xf) ∙ preimage-image g.perm hp x.face xf

    over : other_side (other_side x g) (inverse_gluing x g) ≡ x
    over = ap (face_at x.tet) goes

    separate : same_face (other_side (other_side x g) (inverse_gluing x g)) (other_side x g) ≡ true → ⊥
    separate t =
        let p = same_from x.tet g.tet (image (inverse g.perm) (image g.perm x.face)) (image g.perm x.face) t in
        let there : g.tet ≡ y.tet = ap (λ (z : Face). z.tet) c.leads in
        let clash : true ≡ false = sym xt ∙ ap (has (fresh_numbers r)) (p.0 ∙ there) ∙ kept in
        cc

    good : IsGood (replaced_length rows r) (replaced rows r) (other_side x g) (inverse_gluing x g)
    good = record {
      permutes = inverse_permutes g.perm hp;
      in_range = in_range;
      separate = not_from _ separate;
      leads_back = ap (glue (replaced rows r)) over ∙ glue-fresh rows r x in_range xt ∙ c.glued ∙ ap (λ q. Some (record { tet = g.tet; perm = q })) (sym (inverse-inverse g.perm hp));
    }

-- they hold for a gluing between retained rows
good_kept : (rows : List Row) (r : Replacement) → IsTable rows → CanReplace rows r → (t u f : ℕ) (g : Gluing) → IsKeptAs rows r t u → f < 4 → glue rows (face_at t f) ≡ Some g → has r.removed g.tet ≡ false
    → IsGood (replaced_length rows r) (replaced rows r) (face_at u f) (record { tet = number_of_kept rows r g.tet; perm = g.perm })
good_kept rows r table can t u f g k lf e h = record {
  permutes = hp;
  in_range = to.in_range;
  separate = not_from _ separate;
  leads_back = glue-kept rows r g.tet to_number (image g.perm f) to (image_below g.perm hp f lf)
      ∙ ap (kept_gluing rows r (face_at to_number (image g.perm f))) (table.leads_back x g e)
      ∙ kept_stays rows r (face_at to_number (image g.perm f)) (inverse_gluing x g) k.stays
      ∙ ap (λ n. Some (record { tet = n; perm = inverse g.perm })) k.number;
}
  where
    x : Face
    x = face_at t f

    hp : IsPermutationOfFour g.perm
    hp = table.permutes x g e

    to_number : ℕ
    to_number = number_of_kept rows r g.tet

    to : IsKeptAs rows r g.tet to_number
    to = kept_as rows r can g.tet (table.in_range x g e) h

    separate : same_face (other_side (face_at u f) (record { tet = number_of_kept rows r g.tet; perm = g.perm })) (face_at u f) ≡ true → ⊥
    separate s =
        let p = same_from to_number u (image g.perm f) f s in
        let tets : g.tet ≡ t = sym to.back ∙ ap (kept_at rows r) p.0 ∙ k.back in
        let same : same_face (other_side x g) x ≡ true = same_to g.tet t (image g.perm f) f tets p.1 in
        let never = table.separate x g e in
        cc

pub replaced_is_table : (rows : List Row) (r : Replacement) → IsTable rows → CanReplace rows r → IsTable (replaced rows r)
replaced_is_table rows r table can = record {
  limited = rw (length-replaced rows r) can.limited;
  four_faces = fours;
  permutes = λ y g e. (good y g e).permutes;
  in_range = λ y g e. rw (length-replaced rows r) (good y g e).in_range;
  separate = λ y g e. (good y g e).separate;
  leads_back = λ y g e. (good y g e).leads_back;
}
  where
    four_long : (u : ℕ) → u < replaced_length rows r → length (get_or (replaced rows r) u []) ≡ 4
    four_long u l = by_test (has (fresh_numbers r) u) refl
      where
        by_test : (b : Bool) → has (fresh_numbers r) u ≡ b → length (get_or (replaced rows r) u []) ≡ 4
        by_test true h = ap length (fresh_row_at rows r u l h) ∙ length-fresh_row rows r can u h
        by_test false h = ap length (kept_row_at rows r u l h)

    fours : All (λ (row : Row). length row ≡ 4) (replaced rows r)
    fours = All-from_get_or (λ (row : Row). length row ≡ 4) (replaced rows r) [] (λ u l. four_long u (rw (← length-replaced rows r) l))

    good : (y : Face) (v : Gluing) → glue (replaced rows r) y ≡ Some v → IsGood (replaced_length rows r) (replaced rows r) y v
    good y v e = by_test (has (fresh_numbers r) y.tet) refl
      where
        lt : y.tet < replaced_length rows r
        lt = rw (← length-replaced rows r) (glued_tet (replaced rows r) y v e)

        lf : y.face < 4
        lf = glued_face (replaced rows r) y v fours e

        by_test : (b : Bool) → has (fresh_numbers r) y.tet ≡ b → IsGood (replaced_length rows r) (replaced rows r) y v
        by_test true h = good_fresh rows r table can y v (sym (glue-fresh rows r y lt h) ∙ e)
        by_test false h =
            let t : ℕ = kept_at rows r y.tet in
            let k : IsKeptAs rows r t y.tet = keeps rows r can y.tet lt h in
            let parts = kept_cases rows r y (glue rows (face_at t y.face)) v (sym (glue-kept rows r t y.tet y.face k lf) ∙ e) in
            elim parts.2 [
              | inl gone ↦ good_back rows r table can y v lf h (back_comes r y v gone.1)
              | inr stays ↦ subst (λ (w : Gluing). IsGood (replaced_length rows r) (replaced rows r) y w) stays.1 (good_kept rows r table can t y.tet y.face parts.0 k lf parts.1 stays.0)
            ]
