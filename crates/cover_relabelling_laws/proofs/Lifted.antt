-- The lift of a relabelling carries cover to cover.
use Rattle.std.proofs.Common.{◌≡◌, ℕ, ◌*◌, ◌<◌, ◌≤◌, Bool, true, false, List, [], length, Option, Some, None, option_map, slice_index_or, refl, sym, ap, ap₂, ◌∙◌, subst, arith}
use Rattle.std.specs.Prelude.{not, All, slice_index, if◌then◌else◌}
use Rattle.std.proofs.lemmas.List.{length-map}
use Rattle.std.proofs.lemmas.List.Elements.{All-from_get_or, All-get_or}
use Rattle.std.proofs.lemmas.List.FromFn.{get_or-map-range_with_len}
use Rattle.table_definitions.specs.Permutation.{IsPermutationOfFour, image, inverse, compose, is_odd}
use Rattle.table_definitions.specs.Relabelling.{Relabelling, IsRelabelling, Carries, relabelled_place, face_under, gluing_under}
use Rattle.table_definitions.specs.Table.{Gluing, Row, Face, IsTable, glue}
use Rattle.table_definitions.proofs.Carried.{image_in_range, images_apart, perm_permutes}
use Rattle.table_definitions.proofs.Faces.{face_at, gluing_to}
use Rattle.table_definitions.proofs.PermutationLaws.{is_odd-compose}
use Rattle.table_definitions.proofs.Permutations.{compose_permutes, inverse_permutes, is_odd-inverse}
use Rattle.cover_definitions.specs.Cover.{over, sheet, above, other_sheet, sheet_across, lifted, cover, exchange}
use Rattle.cover_laws.proofs.Sheets.{over_below, sheet_small, above_over, over_above, sheet_above, above_below, above_apart, other_small, other_other, behind_small, length-cover, row-cover, glue-cover}
use Rattle.signature_laws.proofs.Standing.{made_stands, made_relabelling}
use Rattle.cover_relabelling_laws.specs.Laws.{sheet_under, lifted_place, lift, LiftCarriesCover, LiftLiesOver, LiftCommutes, CoversAreIsomorphic}

order_small : (odd : Bool) (s : ℕ) → s ≤ 1 → (if odd then other_sheet s else s) ≤ 1
order_small true s l = other_small s
order_small false s l = l

pub under_small : (p : List ℕ) (s : ℕ) → s ≤ 1 → sheet_under p s ≤ 1
under_small p s l = order_small (is_odd p) s l

order_told : (odd : Bool) (s r : ℕ) → s ≤ 1 → r ≤ 1 → (if odd then other_sheet s else s) ≡ (if odd then other_sheet r else r) → s ≡ r
order_told true s r ls lr e = sym (other_other s ls) ∙ ap other_sheet e ∙ other_other r lr
order_told false s r ls lr e = e

order_other : (odd : Bool) (s : ℕ) → (if odd then other_sheet (other_sheet s) else other_sheet s) ≡ other_sheet (if odd then other_sheet s else s)
order_other true s = refl
order_other false s = refl

-- the sheet across the image of a gluing, from the image of a sheet, is the image of the sheet across the gluing
across_order : (q g p : Bool) (s : ℕ) → s ≤ 1
    → (if (if q then not (if g then not p else p) else (if g then not p else p)) then (if p then other_sheet s else s) else other_sheet (if p then other_sheet s else s))
    ≡ (if q then other_sheet (if g then s else other_sheet s) else (if g then s else other_sheet s))
across_order true true true s l = refl
across_order true true false s l = refl
across_order true false true s l = refl
across_order true false false s l = sym (other_other s l)
across_order false true true s l = other_other s l
across_order false true false s l = refl
across_order false false true s l = refl
across_order false false false s l = refl

across_under : (q p : List ℕ) (g : Gluing) (t s : ℕ) → IsPermutationOfFour q → IsPermutationOfFour p → IsPermutationOfFour g.perm → s ≤ 1
    → sheet_across (gluing_to t (compose q (compose g.perm (inverse p)))) (sheet_under p s) ≡ sheet_under q (sheet_across g s)
across_under q p g t s hq hp hg l =
    let i = inverse_permutes p hp in
    let inner : is_odd (compose g.perm (inverse p)) ≡ (if is_odd g.perm then not (is_odd p) else is_odd p) =
    is_odd-compose g.perm (inverse p) hg i ∙ ap (λ b. if is_odd g.perm then not b else b) (is_odd-inverse p hp) in
    let whole : is_odd (compose q (compose g.perm (inverse p))) ≡ (if is_odd q then not (if is_odd g.perm then not (is_odd p) else is_odd p) else (if is_odd g.perm then not (is_odd p) else is_odd p)) =
    is_odd-compose q (compose g.perm (inverse p)) hq (compose_permutes g.perm (inverse p) hg i) ∙ ap (λ b. if is_odd q then not b else b) inner in
    ap (λ b. if b then sheet_under p s else other_sheet (sheet_under p s)) whole ∙ across_order (is_odd q) (is_odd g.perm) (is_odd p) s l

-- the deck transformation, number by number
pub exchange_at : (n u : ℕ) → u < 2 * n → slice_index (exchange n).images u ≡ above n (over n u) (other_sheet (sheet n u))
unfolding exchange
exchange_at n u l = get_or-map-range_with_len (λ v. above n (over n v) (other_sheet (sheet n v))) 0 (2 * n) u u 0 l (omega arith)

-- the lift of a relabelling of n tetrahedra
module _ (n : ℕ) (by : Relabelling) (is : IsRelabelling n by) where
  abbrev perm : ℕ → List ℕ
  perm t = slice_index_or by.perms t []

  abbrev to : ℕ → ℕ
  to t = slice_index by.images t

  abbrev pub sheet_to : ℕ → ℕ
  sheet_to u = sheet_under (perm (over n u)) (sheet n u)

  pub sheet_to_small : (u : ℕ) → sheet_to u ≤ 1
  sheet_to_small u = under_small (perm (over n u)) (sheet n u) (sheet_small n u)

  fine : (t : ℕ) → t < n → IsPermutationOfFour (perm t)
  fine t l = perm_permutes n by is t l

  pub in_range : (u : ℕ) → u < 2 * n → (lifted_place n by u).tet < 2 * n
  in_range u l = above_below n (to (over n u)) (sheet_to u) (image_in_range n by is (over n u) (over_below n u l)) (sheet_to_small u)

  separate : (u v : ℕ) → u < 2 * n → v < 2 * n → (lifted_place n by u).tet ≡ (lifted_place n by v).tet → u ≡ v
  separate u v lu lv e =
      let ou = over_below n u lu in
      let ov = over_below n v lv in
      let both = above_apart n (to (over n u)) (to (over n v)) (sheet_to u) (sheet_to v) (image_in_range n by is (over n u) ou) (image_in_range n by is (over n v) ov) (sheet_to_small u) (sheet_to_small v) e in
      let tets : over n u ≡ over n v = images_apart n by is (over n u) (over n v) ou ov both.0 in
      let sheets : sheet n u ≡ sheet n v =
      order_told (is_odd (perm (over n v))) (sheet n u) (sheet n v) (sheet_small n u) (sheet_small n v) (ap (λ t. sheet_under (perm t) (sheet n u)) (sym tets) ∙ both.1) in
      sym (above_over n u) ∙ ap₂ (above n) tets sheets ∙ above_over n v

  pub lift_is : IsRelabelling (2 * n) (lift n by)
  lift_is = made_relabelling (2 * n) (lifted_place n by) (record { in_range = in_range; separate = separate; permutes = λ u l. fine (over n u) (over_below n u l) })

  pub place_is : (u : ℕ) → u < 2 * n → relabelled_place (lift n by) u ≡ lifted_place n by u
  place_is u l = made_stands (2 * n) (lifted_place n by) u l

  pub lies_over : (u : ℕ) → u < 2 * n → (over n (relabelled_place (lift n by) u).tet ≡ to (over n u)) × ((relabelled_place (lift n by) u).perm ≡ perm (over n u))
  lies_over u l = (
    ap (λ (g : Gluing). over n g.tet) (place_is u l) ∙ over_above n (to (over n u)) (sheet_to u) (image_in_range n by is (over n u) (over_below n u l)) (sheet_to_small u),
    ap (λ (g : Gluing). g.perm) (place_is u l),
  )

  image_at : (u : ℕ) → u < 2 * n → slice_index (lift n by).images u ≡ above n (to (over n u)) (sheet_to u)
  image_at u l = ap (λ (g : Gluing). g.tet) (place_is u l)

  pub commutes : (u : ℕ) → u < 2 * n → slice_index (lift n by).images (slice_index (exchange n).images u) ≡ slice_index (exchange n).images (slice_index (lift n by).images u)
  commutes u l =
      let lo = over_below n u l in
      let li = image_in_range n by is (over n u) lo in
      let ls = other_small (sheet n u) in
      let v : ℕ = above n (over n u) (other_sheet (sheet n u)) in
      let lv : above n (over n u) (other_sheet (sheet n u)) < 2 * n = above_below n (over n u) (other_sheet (sheet n u)) lo ls in
      let below = over_above n (over n u) (other_sheet (sheet n u)) lo ls in
      let side = sheet_above n (over n u) (other_sheet (sheet n u)) lo ls in
      ap (slice_index (lift n by).images) (exchange_at n u l)
      ∙ image_at (above n (over n u) (other_sheet (sheet n u))) lv
      ∙ (λ i. above n (to (below i)) (sheet_under (perm (below i)) (side i)))
      ∙ ap (above n (to (over n u))) (order_other (is_odd (perm (over n u))) (sheet n u))
      ∙ (λ i. above n (sym (over_above n (to (over n u)) (sheet_to u) li (sheet_to_small u)) i) (other_sheet (sym (sheet_above n (to (over n u)) (sheet_to u) li (sheet_to_small u)) i)))
      ∙ sym (exchange_at n (above n (to (over n u)) (sheet_to u)) (in_range u l))
      ∙ ap (slice_index (exchange n).images) (sym (image_at u l))

-- the lift of a relabelling that carries one table to another
module _ (rows new : List Row) (by : Relabelling) (table : IsTable rows) (is : IsRelabelling (length rows) by) (carries : Carries by rows new) where
  abbrev n : ℕ
  n = length rows

  abbrev perm_at : ℕ → List ℕ
  perm_at t = slice_index_or by.perms t []

  abbrev to_at : ℕ → ℕ
  to_at t = slice_index by.images t

  -- the cover of the other table has as many tetrahedra
  other_cover : length (cover new) ≡ 2 * n
  other_cover = length-cover new ∙ ap (λ m. 2 * m) carries.same_length

  fours : All (λ (row : Row). length row ≡ 4) (cover new)
  fours = All-from_get_or (λ (row : Row). length row ≡ 4) (cover new) [] (λ u k.
      let m : u < 2 * length new = subst (λ a. u < a) (length-cover new) k in
      ap length (row-cover new u m) ∙ length-map (slice_index_or new (over (length new) u) []) (option_map (lifted (length new) (sheet (length new) u)))
      ∙ All-get_or (λ (row : Row). length row ≡ 4) new (over (length new) u) [] (over_below (length new) u m) carries.four_faces)

  abbrev image_of : ℕ → Gluing → Gluing
  image_of t g = gluing_under (relabelled_place by t) (relabelled_place by g.tet) g

  -- the gluing of the image of a face of the cover, by the gluing below
  glued_there : (u f : ℕ) → u < 2 * n → glue (cover new) (face_at (lifted_place n by u).tet (image (perm_at (over n u)) f)) ≡ option_map (lifted n (sheet_to n by is u)) (glue new (face_at (to_at (over n u)) (image (perm_at (over n u)) f)))
  glued_there u f l =
      let lt = image_in_range n by is (over n u) (over_below n u l) in
      let same = carries.same_length in
      let inside : (lifted_place n by u).tet < 2 * length new = subst (λ m. (lifted_place n by u).tet < 2 * m) (sym same) (in_range n by is u l) in
      glue-cover new (face_at (lifted_place n by u).tet (image (perm_at (over n u)) f)) inside
      ∙ (λ i. option_map (lifted (same i) (sheet (same i) (lifted_place n by u).tet)) (glue new (face_at (over (same i) (lifted_place n by u).tet) (image (perm_at (over n u)) f))))
      ∙ (λ i. option_map (lifted n (sheet_above n (to_at (over n u)) (sheet_to n by is u) lt (sheet_to_small n by is u) i)) (glue new (face_at (over_above n (to_at (over n u)) (sheet_to n by is u) lt (sheet_to_small n by is u) i) (image (perm_at (over n u)) f))))

  -- the image of the gluing over a gluing lies over the image of the gluing
  lifted_image : (u f : ℕ) (g : Gluing) → u < 2 * n → glue rows (face_at (over n u) f) ≡ Some g
      → lifted n (sheet_to n by is u) (image_of (over n u) g) ≡ gluing_under (relabelled_place (lift n by) u) (relabelled_place (lift n by) (lifted n (sheet n u) g).tet) (lifted n (sheet n u) g)
  lifted_image u f g l e =
      let t : ℕ = over n u in
      let a : ℕ = sheet_across g (sheet n u) in
      let w : ℕ = above n g.tet (sheet_across g (sheet n u)) in
      let lg : g.tet < n = table.in_range (face_at (over n u) f) g e in
      let la : sheet_across g (sheet n u) ≤ 1 = behind_small g (sheet n u) (sheet_small n u) in
      let lw : above n g.tet (sheet_across g (sheet n u)) < 2 * n = above_below n g.tet (sheet_across g (sheet n u)) lg la in
      let below : over n (above n g.tet (sheet_across g (sheet n u))) ≡ g.tet = over_above n g.tet (sheet_across g (sheet n u)) lg la in
      let side : sheet n (above n g.tet (sheet_across g (sheet n u))) ≡ sheet_across g (sheet n u) = sheet_above n g.tet (sheet_across g (sheet n u)) lg la in
      let across : sheet_across (image_of (over n u) g) (sheet_to n by is u) ≡ sheet_under (perm_at g.tet) (sheet_across g (sheet n u)) =
      across_under (perm_at g.tet) (perm_at (over n u)) g (to_at g.tet) (sheet n u) (fine n by is g.tet lg) (fine n by is (over n u) (over_below n u l)) (table.permutes (face_at (over n u) f) g e) (sheet_small n u) in
      (λ i. gluing_to (above n (to_at g.tet) (across i)) (compose (perm_at g.tet) (compose g.perm (inverse (perm_at (over n u))))))
      ∙ (λ i. gluing_to (above n (to_at (sym below i)) (sheet_under (perm_at (sym below i)) (sym side i))) (compose (perm_at (sym below i)) (compose g.perm (inverse (perm_at (over n u))))))
      ∙ (λ i. gluing_under (sym (place_is n by is u l) i) (sym (place_is n by is (above n g.tet (sheet_across g (sheet n u))) lw) i) (lifted n (sheet n u) g))

  glued_lift : (x : Face) → x.tet < length (cover rows) → x.face < 4
      → glue (cover new) (face_under (relabelled_place (lift n by) x.tet) x) ≡ option_map (λ g. gluing_under (relabelled_place (lift n by) x.tet) (relabelled_place (lift n by) g.tet) g) (glue (cover rows) x)
  glued_lift x lt lf =
      let l : x.tet < 2 * n = subst (λ m. x.tet < m) (length-cover rows) lt in
      (λ i. glue (cover new) (face_under (place_is n by is x.tet l i) x))
      ∙ glued_there x.tet x.face l
      ∙ ap (option_map (lifted n (sheet_to n by is x.tet))) (carries.glued (face_at (over n x.tet) x.face) (over_below n x.tet l) lf)
      ∙ go l (glue rows (face_at (over n x.tet) x.face)) refl
      ∙ ap (option_map (λ g. gluing_under (relabelled_place (lift n by) x.tet) (relabelled_place (lift n by) g.tet) g)) (sym (glue-cover rows x l))
    where
      go : x.tet < 2 * n → (o : Option Gluing) → glue rows (face_at (over n x.tet) x.face) ≡ o
          → option_map (lifted n (sheet_to n by is x.tet)) (option_map (image_of (over n x.tet)) o)
          ≡ option_map (λ g. gluing_under (relabelled_place (lift n by) x.tet) (relabelled_place (lift n by) g.tet) g) (option_map (lifted n (sheet n x.tet)) o)
      go l None e = refl
      go l (Some g) e = ap Some (lifted_image x.tet x.face g l e)

  pub lift_carries : Carries (lift n by) (cover rows) (cover new)
  lift_carries = record { same_length = other_cover ∙ sym (length-cover rows); four_faces = fours; glued = glued_lift }

  pub lift_relabels : IsRelabelling (2 * n) (lift n by) × Carries (lift n by) (cover rows) (cover new)
  lift_relabels = (lift_is n by is, lift_carries)

pub lift_carries_lem : LiftCarriesCover
lift_carries_lem rows new by table (is, carries) = lift_relabels rows new by table is carries

pub lift_lies_over_lem : LiftLiesOver
lift_lies_over_lem rows new by u table (is, carries) l = lies_over (length rows) by is u l

pub lift_commutes_lem : LiftCommutes
lift_commutes_lem rows new by u table (is, carries) l = commutes (length rows) by is u l

pub covers_are_isomorphic_lem : CoversAreIsomorphic
covers_are_isomorphic_lem rows new table (by, is, carries) =
    let r = lift_relabels rows new by table is carries in
    (lift (length rows) by, subst (λ m. IsRelabelling m (lift (length rows) by)) (sym (length-cover rows)) r.0, r.1)
