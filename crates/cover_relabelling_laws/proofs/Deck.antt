-- The deck transformation, and that no other relabelling of the cover but the identity lies over the identity.
use Rattle.std.proofs.Common.{◌≡◌, ℕ, ◌*◌, ◌<◌, ◌≤◌, ◌⊎◌, inl, inr, Bool, true, false, List, [], length, Option, Some, None, option_map, slice_index_or, refl, sym, ap, ap₂, ◌∙◌, subst, arith}
use Rattle.std.specs.Prelude.{slice_index, if◌then◌else◌}
use Rattle.std.proofs.lemmas.Bool.{cases_eq}
use Rattle.std.proofs.lemmas.List.{get_or-replicate}
use Rattle.table_definitions.specs.Permutation.{compose, identity, is_odd}
use Rattle.table_definitions.specs.Places.{Place, whole, across, IsConnected}
use Rattle.table_definitions.specs.Relabelling.{Relabelling, IsRelabelling, Carries, relabelled_place, face_under, gluing_under}
use Rattle.table_definitions.specs.Table.{Gluing, Row, IsTable, glue}
use Rattle.table_definitions.proofs.Carried.{images_apart}
use Rattle.table_definitions.proofs.ChainLaws.{kept_along, crossed}
use Rattle.table_definitions.proofs.Faces.{face_at}
use Rattle.table_definitions.proofs.Permutations.{identity_permutes, compose-identity, image-identity}
use Rattle.table_definitions.proofs.TableLaws.{glued_tet, glued_face}
use Rattle.cover_definitions.specs.Cover.{over, sheet, above, other_sheet, sheet_across, lifted, cover, exchange}
use Rattle.cover_laws.proofs.Sheets.{behind_other, over_below, sheet_small, above_over, over_above, sheet_above, above_below, above_apart, other_small, other_other, behind_small, cases_sheet, length-cover, glue-cover}
use Rattle.signature_laws.specs.Between.{unchanged, after}
use Rattle.signature_laws.proofs.Back.{after_stands, after_relabelling}
use Rattle.signature_laws.proofs.Standing.{same_relabelling}
use Rattle.signature_laws.proofs.Unchanged.{itself, unchanged_stands, unchanged_relabelling}
use Rattle.cover_relabelling_laws.specs.Laws.{LiesOverIdentity, ExchangeLiesOver, ExchangeFixesNone, ExchangeIsInvolution, DeckTransformationsAreTwo}
use Rattle.cover_laws.proofs.Moved.{exchange_carries}
use Rattle.cover_relabelling_laws.proofs.Lifted.{exchange_at}

exchange_perm : (n u : ℕ) → u < 2 * n → slice_index_or (exchange n).perms u [] ≡ identity
unfolding exchange
exchange_perm n u l = get_or-replicate (2 * n) u identity [] l

exchange_stands : (n u : ℕ) → u < 2 * n → relabelled_place (exchange n) u ≡ record { tet = above n (over n u) (other_sheet (sheet n u)); perm = identity }
exchange_stands n u l = let e = exchange_at n u l in let p = exchange_perm n u l in λ i. record { tet = e i; perm = p i }

pub exchange_lies_over_lem : ExchangeLiesOver
exchange_lies_over_lem n u l =
    (ap (over n) (exchange_at n u l) ∙ over_above n (over n u) (other_sheet (sheet n u)) (over_below n u l) (other_small (sheet n u)), exchange_perm n u l)

other_differs : (s : ℕ) → s ≤ 1 → other_sheet s ≡ s → ⊥
other_differs s l e = absurd (omega (arith, e))

pub exchange_fixes_none_lem : ExchangeFixesNone
exchange_fixes_none_lem n u l e =
    let lo = over_below n u l in
    let both = above_apart n (over n u) (over n u) (other_sheet (sheet n u)) (sheet n u) lo lo (other_small (sheet n u)) (sheet_small n u) (sym (exchange_at n u l) ∙ e ∙ sym (above_over n u)) in
    other_differs (sheet n u) (sheet_small n u) both.1

pub exchange_is_involution_lem : ExchangeIsInvolution
exchange_is_involution_lem rows table =
    same_relabelling (2 * n) (after (2 * n) (exchange n) (exchange n)) (unchanged (2 * n)) (after_relabelling (2 * n) (exchange n) (exchange n) is is) (unchanged_relabelling (2 * n)) at
  where
    n : ℕ
    n = length rows

    is : IsRelabelling (2 * n) (exchange n)
    is = (exchange_carries rows table).0

    at : (u : ℕ) → u < 2 * n → relabelled_place (after (2 * n) (exchange n) (exchange n)) u ≡ relabelled_place (unchanged (2 * n)) u
    at u l =
        let lo = over_below n u l in
        let ls = other_small (sheet n u) in
        let v : ℕ = above n (over n u) (other_sheet (sheet n u)) in
        let lv : v < 2 * n = above_below n (over n u) (other_sheet (sheet n u)) lo ls in
        let back : above n (over n v) (other_sheet (sheet n v)) ≡ u =
        ap₂ (λ t s. above n t (other_sheet s)) (over_above n (over n u) (other_sheet (sheet n u)) lo ls) (sheet_above n (over n u) (other_sheet (sheet n u)) lo ls)
        ∙ ap (above n (over n u)) (other_other (sheet n u) (sheet_small n u)) ∙ above_over n u in
        after_stands (2 * n) (exchange n) (exchange n) u l
        ∙ ap (λ (g : Gluing). record { tet = slice_index (exchange n).images g.tet; perm = compose (slice_index_or (exchange n).perms g.tet []) g.perm }) (exchange_stands n u l)
        ∙ ap (λ (g : Gluing). record { tet = g.tet; perm = compose g.perm identity }) (exchange_stands n v lv)
        ∙ ap (λ p. record { tet = above n (over n v) (other_sheet (sheet n v)); perm = p }) (compose-identity identity identity_permutes)
        ∙ ap itself back ∙ sym (unchanged_stands (2 * n) u l)

-- the sheet, or the other one
abbrev flipped : Bool → ℕ → ℕ
flipped b s = if b then other_sheet s else s

across_flipped : (b : Bool) (g : Gluing) (s : ℕ) → s ≤ 1 → sheet_across g (flipped b s) ≡ flipped b (sheet_across g s)
across_flipped true g s l = behind_other g s l
across_flipped false g s l = refl

by_odd : (odd : Bool) (s : ℕ) → s ≤ 1 → (if odd then (if odd then s else other_sheet s) else other_sheet (if odd then s else other_sheet s)) ≡ s
by_odd true s l = refl
by_odd false s l = other_other s l

across_twice : (g : Gluing) (s : ℕ) → s ≤ 1 → sheet_across g (sheet_across g s) ≡ s
across_twice g s l = by_odd (is_odd g.perm) s l

tet_of : Option Gluing → ℕ
tet_of None = 0
tet_of (Some g) = g.tet

module _ (rows : List Row) (by : Relabelling) (table : IsTable rows) (is : IsRelabelling (2 * length rows) by) (carries : Carries by (cover rows) (cover rows)) (lies : LiesOverIdentity (length rows) by) where
  abbrev n : ℕ
  n = length rows

  abbrev to : ℕ → ℕ
  to u = slice_index by.images u

  -- over tetrahedron t, the sheets are exchanged or not
  abbrev ActsAt : ℕ → Bool → Type 0
  ActsAt t b = (a : ℕ) → a ≤ 1 → to (above n t a) ≡ above n t (flipped b a)

  image_is : (t a : ℕ) → t < n → a ≤ 1 → to (above n t a) ≡ above n t (sheet n (to (above n t a)))
  image_is t a l small =
      sym (above_over n (to (above n t a))) ∙ ap (λ k. above n k (sheet n (to (above n t a)))) ((lies (above n t a) (above_below n t a l small)).0 ∙ over_above n t a l small)

  sheets_differ : (t : ℕ) → t < n → sheet n (to (above n t 0)) ≡ sheet n (to (above n t 1)) → ⊥
  sheets_differ t l e =
      let same : to (above n t 0) ≡ to (above n t 1) = image_is t 0 l (omega arith) ∙ ap (above n t) e ∙ sym (image_is t 1 l (omega arith)) in
      let tets = images_apart (2 * n) by is (above n t 0) (above n t 1) (above_below n t 0 l (omega arith)) (above_below n t 1 l (omega arith)) same in
      let both = above_apart n t t 0 1 l l (omega arith) (omega arith) tets in
      absurd (let z = both.1 in omega (arith, z))

  acts_by : (t : ℕ) (b : Bool) → t < n → sheet n (to (above n t 0)) ≡ flipped b 0 → sheet n (to (above n t 1)) ≡ flipped b 1 → ActsAt t b
  acts_by t b l e f a small = elim (cases_sheet a small) [
    | inl z ↦ subst (λ c. to (above n t c) ≡ above n t (flipped b c)) (sym z) (image_is t 0 l (omega arith) ∙ ap (above n t) e)
    | inr o ↦ subst (λ c. to (above n t c) ≡ above n t (flipped b c)) (sym o) (image_is t 1 l (omega arith) ∙ ap (above n t) f)
  ]

  acts : (t : ℕ) → t < n → (b : Bool) × ActsAt t b
  acts t l = elim (cases_sheet (sheet n (to (above n t 0))) (sheet_small n (to (above n t 0)))) [
    | inl z ↦ elim (cases_sheet (sheet n (to (above n t 1))) (sheet_small n (to (above n t 1)))) [
      | inl y ↦ absurd (sheets_differ t l (z ∙ sym y))
      | inr o ↦ (false, acts_by t false l z o)
    ]
    | inr o ↦ elim (cases_sheet (sheet n (to (above n t 1))) (sheet_small n (to (above n t 1)))) [
      | inl z ↦ (true, acts_by t true l o z)
      | inr y ↦ absurd (sheets_differ t l (o ∙ sym y))
    ]
  ]

  glued_above : (t f a : ℕ) (g : Gluing) → a ≤ 1 → glue rows (face_at t f) ≡ Some g → glue (cover rows) (face_at (above n t a) f) ≡ Some (lifted n a g)
  glued_above t f a g small e = let l : t < n = glued_tet rows (face_at t f) g e in
      glue-cover rows (face_at (above n t a) f) (above_below n t a l small)
      ∙ ap₂ (λ s u. option_map (lifted n s) (glue rows (face_at u f))) (sheet_above n t a l small) (over_above n t a l small) ∙ ap (option_map (lifted n a)) e

  -- across a gluing, the sheets are exchanged likewise
  acts_across : (t f : ℕ) (g : Gluing) (b : Bool) → glue rows (face_at t f) ≡ Some g → ActsAt t b → ActsAt g.tet b
  unfolding tet_of
  acts_across t f g b e acts_here c small =
      let l : t < n = glued_tet rows (face_at t f) g e in
      let lf : f < 4 = glued_face rows (face_at t f) g table.four_faces e in
      let a : ℕ = sheet_across g c in
      let small_a : a ≤ 1 = behind_small g c small in
      let u : ℕ = above n t a in
      let lu : u < 2 * n = above_below n t a l small_a in
      let flipped_small : flipped b a ≤ 1 = flip_small b a small_a in
      let face : face_under (relabelled_place by u) (face_at u f) ≡ face_at (above n t (flipped b a)) f =
      ap₂ (λ v p. face_under (record { tet = v; perm = p }) (face_at u f)) (acts_here a small_a) (lies u lu).1 ∙ ap (face_at (above n t (flipped b a))) (image-identity f lf) in
      let carried : above n g.tet (sheet_across g (flipped b a)) ≡ to (above n g.tet (sheet_across g a)) =
      ap tet_of (sym (glued_above t f (flipped b a) g flipped_small e) ∙ ap (glue (cover rows)) (sym face) ∙ carries.glued (face_at u f) (subst (λ m. u < m) (sym (length-cover rows)) lu) lf
      ∙ ap (option_map (λ k. gluing_under (relabelled_place by u) (relabelled_place by k.tet) k)) (glued_above t f a g small_a e)) in
      ap (λ k. to (above n g.tet k)) (sym (across_twice g c small)) ∙ sym carried ∙ ap (above n g.tet) (across_flipped b g a small_a) ∙ ap (λ k. above n g.tet (flipped b k)) (across_twice g c small)
    where
      flip_small : (b : Bool) (s : ℕ) → s ≤ 1 → flipped b s ≤ 1
      flip_small true s l = other_small s
      flip_small false s l = l

  acts_on : (b : Bool) (p : Place) (f : ℕ) (q : Place) → (p.vertices ≡ []) × ActsAt p.tet b → across rows p f ≡ Some q → (q.vertices ≡ []) × ActsAt q.tet b
  acts_on b p f q k e = let s = crossed rows p f q k.0 e in (s.bare, subst (λ t. ActsAt t b) s.to (acts_across p.tet f s.g b s.glued k.1))

  module _ (connected : IsConnected rows) where
    acts_everywhere : (b : Bool) (some : 0 < n) → ActsAt 0 b → (t : ℕ) → t < n → ActsAt t b
    acts_everywhere b some h t l = let j = connected 0 t some l in (kept_along rows (λ p. (p.vertices ≡ []) × ActsAt p.tet b) (acts_on b) j.0 (whole 0) (whole t) (refl, h) j.1).1

    place_at : (b : Bool) → ((t : ℕ) → t < n → ActsAt t b) → (u : ℕ) → u < 2 * n → relabelled_place by u ≡ record { tet = above n (over n u) (flipped b (sheet n u)); perm = identity }
    place_at b h u l =
        let e : to u ≡ above n (over n u) (flipped b (sheet n u)) = ap to (sym (above_over n u)) ∙ h (over n u) (over_below n u l) (sheet n u) (sheet_small n u) in
        let p = (lies u l).1 in
        λ i. record { tet = e i; perm = p i }

    by_sign : (b : Bool) → ((t : ℕ) → t < n → ActsAt t b) → (by ≡ unchanged (2 * n)) ⊎ (by ≡ exchange n)
    by_sign true h = inr (same_relabelling (2 * n) by (exchange n) is (exchange_carries rows table).0 (λ u l. place_at true h u l ∙ sym (exchange_stands n u l)))
    by_sign false h = inl (same_relabelling (2 * n) by (unchanged (2 * n)) is (unchanged_relabelling (2 * n)) (λ u l. place_at false h u l ∙ ap itself (above_over n u) ∙ sym (unchanged_stands (2 * n) u l)))

    pub one_of_two : (by ≡ unchanged (2 * n)) ⊎ (by ≡ exchange n)
    one_of_two = elim (cases_eq n 0) [
      | inl none ↦ by_sign false (λ t l. absurd (omega (arith, none)))
      | inr some ↦ let s : 0 < n = omega (arith, some) in let a = acts 0 s in by_sign a.0 (acts_everywhere a.0 s a.1)
    ]

pub deck_transformations_are_two_lem : DeckTransformationsAreTwo
deck_transformations_are_two_lem rows by table connected (is, carries) lies = one_of_two rows by table is carries lies connected
