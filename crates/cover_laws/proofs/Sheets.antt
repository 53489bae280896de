-- Sheets, and the gluings of the cover by those below.
use Rattle.std.proofs.Common.{◌≡◌, ℕ, ◌+◌, ◌-◌, ◌*◌, ◌<◌, ◌≤◌, ◌⊎◌, inl, inr, Bool, true, false, List, [], length, map, Option, Some, None, option_map, slice_index_or, subst, sym, ap, ap₂, refl, ◌∙◌, arith}
use Rattle.std.specs.Prelude.{nat_lt, if◌then◌else◌}
use Rattle.std.proofs.lemmas.Bool.{cases_lt, cases_eq, le-ltb}
use Rattle.std.proofs.lemmas.List.FromFn.{get_or-map-range_with_len, length-map-range_with_len}
use Rattle.std.proofs.Math.ListN.{get_or-map as entry-map}
use Rattle.table_definitions.specs.Permutation.{IsPermutationOfFour, is_odd, inverse}
use Rattle.table_definitions.specs.Table.{Gluing, Row, Face, glue}
use Rattle.table_definitions.proofs.TableLaws.{glued_tet}
use Rattle.table_definitions.proofs.Permutations.{is_odd-inverse}
use Rattle.cover_definitions.specs.Cover.{over, sheet, above, other_sheet, sheet_across, lifted, cover_row, cover, face_below}

low : (a b : ℕ) → a < b → nat_lt a b ≡ true
low a b l = grind arith

-- ---- tetrahedra on sheets

pub over_low : (n u : ℕ) → u < n → over n u ≡ u
over_low n u l = ap (λ b. if b then u else u - n) (low u n l)

pub over_high : (n u : ℕ) → n ≤ u → over n u ≡ u - n
over_high n u l = ap (λ b. if b then u else u - n) (le-ltb u n l)

pub sheet_low : (n u : ℕ) → u < n → sheet n u ≡ 0
sheet_low n u l = ap (λ b. if b then 0 else 1) (low u n l)

pub sheet_high : (n u : ℕ) → n ≤ u → sheet n u ≡ 1
sheet_high n u l = ap (λ b. if b then 0 else 1) (le-ltb u n l)

pub above_one : (n t : ℕ) → above n t 1 ≡ n + t
above_one n t = refl

-- the two sheets
pub cases_sheet : (s : ℕ) → s ≤ 1 → (s ≡ 0) ⊎ (s ≡ 1)
cases_sheet s l = elim (cases_eq s 0) [ inl z ↦ inl z | inr n ↦ inr (omega arith) ]

pub sheet_small : (n u : ℕ) → sheet n u ≤ 1
sheet_small n u = elim (cases_lt u n) [ inl l ↦ let e : sheet n u ≡ 0 = sheet_low n u l in omega arith | inr l ↦ let e : sheet n u ≡ 1 = sheet_high n u l in omega arith ]

pub over_below : (n u : ℕ) → u < 2 * n → over n u < n
over_below n u m = elim (cases_lt u n) [ inl l ↦ let e : over n u ≡ u = over_low n u l in omega arith | inr l ↦ let e : over n u ≡ u - n = over_high n u l in omega arith ]

pub above_over : (n u : ℕ) → above n (over n u) (sheet n u) ≡ u
above_over n u = elim (cases_lt u n) [
  | inl l ↦ ap₂ (above n) (over_low n u l) (sheet_low n u l)
  | inr l ↦ ap₂ (above n) (over_high n u l) (sheet_high n u l) ∙ omega arith
]

pub over_above : (n t s : ℕ) → t < n → s ≤ 1 → over n (above n t s) ≡ t
over_above n t s l k = elim (cases_sheet s k) [
  | inl z ↦ ap (λ a. over n (above n t a)) z ∙ over_low n t l
  | inr o ↦ ap (λ a. over n (above n t a)) o ∙ over_high n (n + t) (omega arith) ∙ omega arith
]

pub sheet_above : (n t s : ℕ) → t < n → s ≤ 1 → sheet n (above n t s) ≡ s
sheet_above n t s l k = elim (cases_sheet s k) [
  | inl z ↦ ap (λ a. sheet n (above n t a)) z ∙ sheet_low n t l ∙ sym z
  | inr o ↦ ap (λ a. sheet n (above n t a)) o ∙ sheet_high n (n + t) (omega arith) ∙ sym o
]

pub above_below : (n t s : ℕ) → t < n → s ≤ 1 → above n t s < 2 * n
above_below n t s l k = elim (cases_sheet s k) [
  | inl z ↦ subst (λ a. above n t a < 2 * n) (sym z) (omega arith)
  | inr o ↦ subst (λ a. above n t a < 2 * n) (sym o) (let e : above n t 1 ≡ n + t = above_one n t in omega arith)
]

-- tetrahedra of the cover over different tetrahedra, or on different sheets, are different
pub above_apart : (n t u s r : ℕ) → t < n → u < n → s ≤ 1 → r ≤ 1 → above n t s ≡ above n u r → (t ≡ u) × (s ≡ r)
above_apart n t u s r lt lu ls lr e = (sym (over_above n t s lt ls) ∙ ap (over n) e ∙ over_above n u r lu lr, sym (sheet_above n t s lt ls) ∙ ap (sheet n) e ∙ sheet_above n u r lu lr)

pub other_small : (s : ℕ) → other_sheet s ≤ 1
other_small s = omega arith

pub other_other : (s : ℕ) → s ≤ 1 → other_sheet (other_sheet s) ≡ s
other_other s l = omega arith

-- ---- sheets across gluings

pub behind_small : (g : Gluing) (s : ℕ) → s ≤ 1 → sheet_across g s ≤ 1
behind_small g s l = by_parity (is_odd g.perm)
  where
    by_parity : (b : Bool) → (if b then s else other_sheet s) ≤ 1
    by_parity true = l
    by_parity false = other_small s

pub behind_other : (g : Gluing) (s : ℕ) → s ≤ 1 → sheet_across g (other_sheet s) ≡ other_sheet (sheet_across g s)
behind_other g s l = by_parity (is_odd g.perm)
  where
    by_parity : (b : Bool) → (if b then other_sheet s else other_sheet (other_sheet s)) ≡ other_sheet (if b then s else other_sheet s)
    by_parity true = refl
    by_parity false = refl

-- the inverse gluing returns to the first sheet
pub behind_back : (g : Gluing) (t s : ℕ) → IsPermutationOfFour g.perm → s ≤ 1 → sheet_across (record { tet = t; perm = inverse g.perm }) (sheet_across g s) ≡ s
behind_back g t s h l = ap (λ b. if b then sheet_across g s else other_sheet (sheet_across g s)) (is_odd-inverse g.perm h) ∙ by_parity (is_odd g.perm)
  where
    by_parity : (b : Bool) → (if b then (if b then s else other_sheet s) else other_sheet (if b then s else other_sheet s)) ≡ s
    by_parity true = refl
    by_parity false = other_other s l

-- ---- gluings of the cover

pub length-cover : (rows : List Row) → length (cover rows) ≡ 2 * length rows
unfolding cover
length-cover rows = length-map-range_with_len (cover_row rows) 0 (2 * length rows)

pub row-cover : (rows : List Row) (u : ℕ) → u < 2 * length rows → slice_index_or (cover rows) u [] ≡ map (option_map (lifted (length rows) (sheet (length rows) u))) (slice_index_or rows (over (length rows) u) [])
unfolding cover cover_row
row-cover rows u l = get_or-map-range_with_len (cover_row rows) 0 (2 * length rows) u u [] l (omega arith)

pub glue-cover : (rows : List Row) (x : Face) → x.tet < 2 * length rows → glue (cover rows) x ≡ option_map (lifted (length rows) (sheet (length rows) x.tet)) (glue rows (face_below (length rows) x))
glue-cover rows x l = ap (λ (row : Row). slice_index_or row x.face None) (row-cover rows x.tet l)
    ∙ entry-map (option_map (lifted (length rows) (sheet (length rows) x.tet))) (slice_index_or rows (over (length rows) x.tet) []) x.face None

-- the gluing below a gluing of the cover
pub record GluedBelow (rows : List Row) (x : Face) (h : Gluing) : Type 0 where
  pub in_range : x.tet < 2 * length rows
  pub g : Gluing
  pub glued : glue rows (face_below (length rows) x) ≡ Some g
  pub is : lifted (length rows) (sheet (length rows) x.tet) g ≡ h

pub glued_below : (rows : List Row) (x : Face) (h : Gluing) → glue (cover rows) x ≡ Some h → GluedBelow rows x h
glued_below rows x h e = cases (glue rows (face_below (length rows) x)) refl
  where
    l : x.tet < 2 * length rows
    l = subst (λ m. x.tet < m) (length-cover rows) (glued_tet (cover rows) x h e)

    cases : (o : Option Gluing) → glue rows (face_below (length rows) x) ≡ o → GluedBelow rows x h
    cases None n = let z : None ≡ Some h = sym (ap (option_map (lifted (length rows) (sheet (length rows) x.tet))) n) ∙ sym (glue-cover rows x l) ∙ e in absurd cc
    cases (Some g) n =
        let z : Some (lifted (length rows) (sheet (length rows) x.tet) g) ≡ Some h = sym (ap (option_map (lifted (length rows) (sheet (length rows) x.tet))) n) ∙ sym (glue-cover rows x l) ∙ e in
        let same : lifted (length rows) (sheet (length rows) x.tet) g ≡ h = cc in record { in_range = l; g = g; glued = n; is = same }
