-- Lifts of the identity and of compositions.
use Rattle.std.proofs.Common.{◌≡◌, ℕ, ◌*◌, ◌<◌, ◌≤◌, Bool, true, false, List, [], slice_index_or, refl, sym, ap, ◌∙◌}
use Rattle.std.specs.Prelude.{not, slice_index, if◌then◌else◌}
use Rattle.table_definitions.specs.Permutation.{IsPermutationOfFour, compose, identity, inversions, is_odd}
use Rattle.table_definitions.specs.Relabelling.{relabelled_place}
use Rattle.table_definitions.specs.Table.{Gluing}
use Rattle.table_definitions.proofs.Carried.{image_in_range, perm_permutes}
use Rattle.table_definitions.proofs.PermutationLaws.{is_odd-compose}
use Rattle.cover_definitions.specs.Cover.{over, sheet, above, other_sheet}
use Rattle.cover_laws.proofs.Sheets.{over_below, sheet_small, above_over, over_above, sheet_above, other_other}
use Rattle.signature_laws.specs.Between.{unchanged, after}
use Rattle.signature_laws.proofs.Back.{after_stands, after_relabelling}
use Rattle.signature_laws.proofs.Standing.{same_relabelling}
use Rattle.signature_laws.proofs.Unchanged.{itself, unchanged_stands, unchanged_relabelling}
use Rattle.cover_relabelling_laws.specs.Laws.{sheet_under, lift, IdentityIsLifted, CompositionsAreLifted}
use Rattle.cover_relabelling_laws.proofs.Lifted.{under_small, in_range, lift_is, place_is}

identity_even : is_odd identity ≡ false
unfolding is_odd inversions
identity_even = refl

pub identity_is_lifted_lem : IdentityIsLifted
identity_is_lifted_lem n = same_relabelling (2 * n) (lift n (unchanged n)) (unchanged (2 * n)) (lift_is n (unchanged n) (unchanged_relabelling n)) (unchanged_relabelling (2 * n)) at
  where
    at : (u : ℕ) → u < 2 * n → relabelled_place (lift n (unchanged n)) u ≡ relabelled_place (unchanged (2 * n)) u
    at u l =
        place_is n (unchanged n) (unchanged_relabelling n) u l
        ∙ ap (λ (g : Gluing). record { tet = above n g.tet (sheet_under g.perm (sheet n u)); perm = g.perm }) (unchanged_stands n (over n u) (over_below n u l))
        ∙ ap (λ b. record { tet = above n (over n u) (if b then other_sheet (sheet n u) else sheet n u); perm = identity }) identity_even
        ∙ ap itself (above_over n u) ∙ sym (unchanged_stands (2 * n) u l)

-- the sheet under a composition is the sheet under the second permutation of that under the first
by_parities : (p q : Bool) (s : ℕ) → s ≤ 1
    → (if (if p then not q else q) then other_sheet s else s) ≡ (if p then other_sheet (if q then other_sheet s else s) else (if q then other_sheet s else s))
by_parities true true s l = sym (other_other s l)
by_parities true false s l = refl
by_parities false true s l = refl
by_parities false false s l = refl

sheet_under-compose : (p q : List ℕ) (s : ℕ) → IsPermutationOfFour p → IsPermutationOfFour q → s ≤ 1 → sheet_under (compose p q) s ≡ sheet_under p (sheet_under q s)
sheet_under-compose p q s hp hq l = ap (λ b. if b then other_sheet s else s) (is_odd-compose p q hp hq) ∙ by_parities (is_odd p) (is_odd q) s l

pub compositions_are_lifted_lem : CompositionsAreLifted
compositions_are_lifted_lem n second first h k =
    same_relabelling (2 * n) (lift n (after n second first)) (after (2 * n) (lift n second) (lift n first)) (lift_is n (after n second first) (after_relabelling n second first h k))
    (after_relabelling (2 * n) (lift n second) (lift n first) (lift_is n second h) (lift_is n first k)) at
  where
    at : (u : ℕ) → u < 2 * n → relabelled_place (lift n (after n second first)) u ≡ relabelled_place (after (2 * n) (lift n second) (lift n first)) u
    at u l =
        let t : ℕ = over n u in
        let lt : t < n = over_below n u l in
        let v : ℕ = slice_index first.images t in
        let lv : v < n = image_in_range n first k t lt in
        let q : List ℕ = slice_index_or first.perms t [] in
        let p : List ℕ = slice_index_or second.perms v [] in
        let s : ℕ = sheet_under q (sheet n u) in
        let small : s ≤ 1 = under_small q (sheet n u) (sheet_small n u) in
        let w : ℕ = above n v s in
        let sheets = sheet_under-compose p q (sheet n u) (perm_permutes n second h v lv) (perm_permutes n first k t lt) (sheet_small n u) in
        let below : over n w ≡ v = over_above n v s lv small in
        let side : sheet n w ≡ s = sheet_above n v s lv small in
        place_is n (after n second first) (after_relabelling n second first h k) u l
        ∙ ap (λ (g : Gluing). record { tet = above n g.tet (sheet_under g.perm (sheet n u)); perm = g.perm }) (after_stands n second first t lt)
        ∙ (λ i. record { tet = above n (slice_index second.images v) (sheets i); perm = compose p q })
        ∙ (λ i. record { tet = above n (slice_index second.images (sym below i)) (sheet_under (slice_index_or second.perms (sym below i) []) (sym side i)); perm = compose (slice_index_or second.perms (sym below i) []) q })
        ∙ ap (λ (g : Gluing). record { tet = g.tet; perm = compose g.perm q }) (sym (place_is n second h w (in_range n first k u l)))
        ∙ ap (λ (g : Gluing). record { tet = slice_index (lift n second).images g.tet; perm = compose (slice_index_or (lift n second).perms g.tet []) g.perm }) (sym (place_is n first k u l))
        ∙ sym (after_stands (2 * n) (lift n second) (lift n first) u l)
