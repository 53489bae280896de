-- Rows that are relabelled one by one are those of the relabelled table.
use Rattle.std.proofs.Common.{◌≡◌, ℕ, zero, suc, ◌+◌, ◌<◌, List, [], length, get_or, None, Some, Option, refl, sym, ap, ◌∙◌, subst, arith, inl, inr, below_more}
use Rattle.std.proofs.lemmas.Bool.{cases_eq}
use Rattle.std.specs.Prelude.{IfSome}
use Rattle.std.specs.Prelude.{slice_index, IsPermutation, ◌⊎◌}
use Rattle.std.specs.List.{slice_index_or, slice_set}
use Rattle.std.proofs.lemmas.List.{get_or-set_same, get_or-set_other}
use Rattle.std.proofs.lemmas.List.Elements.{All-from_get_or}
use Rattle.table_definitions.specs.Lists.{below}
use Rattle.table_definitions.specs.Permutation.{IsPermutationOfFour, image}
use Rattle.table_definitions.specs.Table.{Gluing, Row, Face, glue, IsTable}
use Rattle.table_definitions.specs.Relabelling.{Relabelling, IsRelabelling, Carries, relabelled_place, face_under}
use Rattle.table_definitions.proofs.Permutations.{image_below, preimage-image}
use Rattle.table_definitions.specs.Moved.{moved, moved_face, moved_row}
use Rattle.table_definitions.proofs.Carried.{image_in_range, perm_permutes, permutation_below, permutation_apart}

moved_row-at : (rows : List Row) (by : Relabelling) (t k : ℕ) → k < 4 → get_or (moved_row rows by t) k None ≡ moved_face rows by t k
unfolding moved_row
moved_row-at rows by t zero l = refl
moved_row-at rows by t (suc zero) l = refl
moved_row-at rows by t (suc (suc zero)) l = refl
moved_row-at rows by t (suc (suc (suc zero))) l = refl
moved_row-at rows by t (suc (suc (suc (suc k)))) l = absurd (omega arith)

length-moved_row : (rows : List Row) (by : Relabelling) (t : ℕ) → length (moved_row rows by t) ≡ 4
unfolding moved_row
length-moved_row rows by t = refl

moved_face-image : (rows : List Row) (by : Relabelling) (t f : ℕ) → IsPermutationOfFour (slice_index_or by.perms t []) → f < 4
    → moved_face rows by t (image (slice_index_or by.perms t []) f) ≡ moved by t (glue rows (record { tet = t; face = f }))
unfolding moved_face
moved_face-image rows by t f h l =
    let at : ℕ → Face = λ k. record { tet = t; face = k } in
    ap (λ k. moved by t (glue rows (at k))) (preimage-image (slice_index_or by.perms t []) h f l)

pub carries_from : (rows new : List Row) (by : Relabelling) (olds : List ℕ) → IsRelabelling (length rows) by → length new ≡ length rows
    → ((k : ℕ) → k < length rows → get_or new k [] ≡ moved_row rows by (get_or olds k 0))
    → ((t : ℕ) → t < length rows → slice_index olds (slice_index by.images t) ≡ t) → Carries by rows new
carries_from rows new by olds h same each back = record {
  same_length = same;
  four_faces = All-from_get_or (λ (row : Row). length row ≡ 4) new [] (λ k l. ap length (each k (rw (← same) l)) ∙ length-moved_row rows by (get_or olds k 0));
  glued = λ x lt lf. glued_at x lt lf;
}
  where
    glued_at : (x : Face) → x.tet < length rows → x.face < 4 → glue new (face_under (relabelled_place by x.tet) x) ≡ moved by x.tet (glue rows x)
    glued_at x lt lf =
        let s : List ℕ = slice_index_or by.perms x.tet [] in
        let hs : IsPermutationOfFour s = perm_permutes (length rows) by h x.tet lt in
        let u : ℕ = slice_index by.images x.tet in
        let lu : u < length rows = image_in_range (length rows) by h x.tet lt in
        let row : get_or new u [] ≡ moved_row rows by x.tet = each u lu ∙ ap (moved_row rows by) (back x.tet lt) in
        ap (λ (r : Row). get_or r (image s x.face) None) row
        ∙ moved_row-at rows by x.tet (image s x.face) (image_below s hs x.face lf)
        ∙ moved_face-image rows by x.tet x.face hs lf

pub glued_in_range : (rows : List Row) (x : Face) (o : Option Gluing) (n : ℕ) → IsTable rows → n ≡ length rows → o ≡ glue rows x → IfSome o (λ g. g.tet < n)
glued_in_range rows x None n table e is = tt
glued_in_range rows x (Some g) n table e is = rw e (table.in_range x g (sym is))

-- the list of the old number of each new tetrahedron

pub placed : (n : ℕ) (images olds : List ℕ) (i : ℕ) → IsPermutation images (below n) → length images ≡ n → length olds ≡ n → i < n
    → ((t : ℕ) → t < i → get_or olds (get_or images t 0) 0 ≡ t) → (t : ℕ) → t < i + 1 → get_or (slice_set olds (get_or images i 0) i) (get_or images t 0) 0 ≡ t
placed n images olds i h e f l before =
    below_more (λ t. get_or (slice_set olds (get_or images i 0) i) (get_or images t 0) 0 ≡ t) i
    (λ t m. get_or-set_other olds (get_or images i 0) (get_or images t 0) i 0 (permutation_apart n images h t i m (omega arith)) ∙ before t m)
    (get_or-set_same olds (get_or images i 0) i 0 (let b = permutation_below n images h i (omega arith) in omega arith))

pub placed_range : (n : ℕ) (olds : List ℕ) (image i : ℕ) → length olds ≡ n → image < n → i < n → ((u : ℕ) → u < n → get_or olds u 0 < n) → (u : ℕ) → u < n → get_or (slice_set olds image i) u 0 < n
placed_range n olds image i f m l before u lu = by_case (cases_eq u image)
  where
    by_case : (u ≡ image) ⊎ (u ≡ image → ⊥) → get_or (slice_set olds image i) u 0 < n
    by_case (inl e) = rw (e, get_or-set_same olds image i 0 (rw f m)) l
    by_case (inr d) = rw (get_or-set_other olds image u i 0 d) (before u lu)

-- the relabelled table, by what the functions return
pub carries_by : (rows new : List Row) (by : Relabelling) (olds items : List ℕ) → IsRelabelling (length by.images) by → length by.images ≡ length rows → olds ≡ items → length items ≡ length by.images → length new ≡ length olds
    → ((k : ℕ) → k < length olds → get_or new k [] ≡ moved_row rows by (slice_index olds k))
    → ((t : ℕ) → t < length by.images → slice_index items (slice_index by.images t) ≡ t) → Carries by rows new
carries_by rows new by olds items h e same m l each back =
    carries_from rows new by olds (subst (λ n. IsRelabelling n by) e h) (l ∙ size) (λ k q. each k (rw size q))
    (λ t q. ap (λ (w : List ℕ). slice_index w (slice_index by.images t)) same ∙ back t (rw e q))
  where
    size : length olds ≡ length rows
    size = ap length same ∙ m ∙ e
