-- The corners around an edge are corners of tetrahedra, and there are at most 1,000,000.
use Rattle.std.proofs.Common.{◌≡◌, ◌≢◌, ℕ, zero, suc, ◌+◌, ◌*◌, ◌/◌, ◌%◌, ◌<◌, ◌≤◌, Bool, false, not, List, [], length, map, filter, get_or, sym, ap, ◌∙◌, subst, arith}
use Rattle.std.specs.Prelude.{slice_index}
use Rattle.std.specs.Bool.{MatchBool}
use Rattle.std.specs.List.{AllPairs}
use Rattle.std.proofs.lemmas.List.{get_or-map, length-map}
use Rattle.std.proofs.lemmas.List.Elements.{All-map, All-from_get_or}
use Rattle.table_walk_laws.proofs.Repeats.{distinct_below}
use Rattle.table_definitions.specs.Classes.{IsNumbering, least}
use Rattle.table_definitions.specs.Places.{ends, SameEdge, is_boundary_edge}
use Rattle.table_definitions.specs.Lists.{has}
use Rattle.table_definitions.specs.Permutation.{four}
use Rattle.table_definitions.proofs.ClassLaws.{least_is_least}
use Rattle.skeleton_definitions.specs.Corners.{Corner, corner_of, first_corner, AreCorners, IsTourFrom}
use Rattle.skeleton_definitions.specs.Skeleton.{Skeleton, IsSkeleton, IsAround}
use Rattle.skeleton_class_laws.specs.CornersIn.{IsCornerIn, AreCornersIn}
use Rattle.skeleton_class_laws.proofs.Rounds.{walk_has_corners, walk_in_range}

-- the corner at which the tour around an edge starts
first_in_tet : (n t e : ℕ) → t < n → e < 6 → IsCornerIn n (corner_of t (ends e) (filter (λ v. not (has (ends e) v)) four))
first_in_tet n t zero l m = record { tet = l; a = omega arith; b = omega arith; c = omega arith; d = omega arith; ac = omega arith; ad = omega arith }
first_in_tet n t (suc zero) l m = record { tet = l; a = omega arith; b = omega arith; c = omega arith; d = omega arith; ac = omega arith; ad = omega arith }
first_in_tet n t (suc (suc zero)) l m = record { tet = l; a = omega arith; b = omega arith; c = omega arith; d = omega arith; ac = omega arith; ad = omega arith }
first_in_tet n t (suc (suc (suc zero))) l m = record { tet = l; a = omega arith; b = omega arith; c = omega arith; d = omega arith; ac = omega arith; ad = omega arith }
first_in_tet n t (suc (suc (suc (suc zero)))) l m = record { tet = l; a = omega arith; b = omega arith; c = omega arith; d = omega arith; ac = omega arith; ad = omega arith }
first_in_tet n t (suc (suc (suc (suc (suc zero))))) l m = record { tet = l; a = omega arith; b = omega arith; c = omega arith; d = omega arith; ac = omega arith; ad = omega arith }
first_in_tet n t (suc (suc (suc (suc (suc (suc e)))))) l m = absurd (omega arith)

pub first_in_range : (n i : ℕ) → i < 6 * n → IsCornerIn n (first_corner i)
first_in_range n i l = first_in_tet n (i / 6) (i % 6) (omega arith) (omega arith)

-- a class below the count has a least member
pub least_in_range : (n : ℕ) (Same : ℕ → ℕ → Type 0) (classes : List ℕ) (count c : ℕ) → IsNumbering n Same classes count → c < count → least classes c < n
least_in_range n Same classes count c numbered l =
    let some = numbered.none_empty c l in
    let up : least classes (slice_index classes some.0) ≤ some.0 = least_is_least n Same classes count numbered some.0 some.1 in
    let same : least classes (slice_index classes some.0) ≡ least classes c = ap (least classes) some.2 in
    omega (arith, some.1)

-- corners as numbers
abbrev number_of : Corner → ℕ
number_of k = 256 * k.tet + (64 * k.a + (16 * k.b + (4 * k.c + k.d)))

number_below : (n : ℕ) (k : Corner) → IsCornerIn n k → number_of k < 256 * n
number_below n k h = omega (arith, h.tet, h.a, h.b, h.c, h.d)

four_parts : (t a b c d u e f g h : ℕ) → a < 4 → b < 4 → c < 4 → d < 4 → e < 4 → f < 4 → g < 4 → h < 4
    → 256 * t + (64 * a + (16 * b + (4 * c + d))) ≡ 256 * u + (64 * e + (16 * f + (4 * g + h))) → (t ≡ u) × (a ≡ e) × (b ≡ f) × (c ≡ g) × (d ≡ h)
four_parts t a b c d u e f g h la lb lc ld le lf lg lh same =
    let tet : t ≡ u = omega arith in
    let first : a ≡ e = omega arith in
    let second : b ≡ f = omega arith in
    let third : c ≡ g = omega arith in
    let last : d ≡ h = omega arith in
    (tet, first, second, third, last)

number_tells : (n : ℕ) (k l : Corner) → IsCornerIn n k → IsCornerIn n l → number_of k ≡ number_of l → k ≡ l
number_tells n k l h m same =
    let p = four_parts k.tet k.a k.b k.c k.d l.tet l.a l.b l.c l.d h.a h.b h.c h.d m.a m.b m.c m.d same in
    λ i. record { tet = p.0 i; a = p.1 i; b = p.2 i; c = p.3 i; d = p.4 i }

-- different corners of n tetrahedra are at most as many as their numbers
few_corners : (n : ℕ) (first : Corner) (corners : List Corner) → AreCornersIn n corners → ((i j : ℕ) → i < j → j < length corners → get_or corners i first ≢ get_or corners j first) → length corners ≤ 256 * n
few_corners n first corners inside once =
    subst (λ m. m ≤ 256 * n) (length-map corners number_of) (distinct_below (256 * n) (map number_of corners)
    (All-map (λ x. x < 256 * n) number_of corners (λ k d l. number_below n (get_or corners k d) (inside k d l)))
    separate)
  where
    separate : AllPairs (λ x y. x ≢ y) (map number_of corners)
    separate i j d less l same =
        let size = length-map corners number_of in
        let lj : j < length corners = omega (arith, size) in
        let li : i < length corners = omega arith in
        once i j less lj (number_tells n (get_or corners i first) (get_or corners j first) (inside i first li) (inside j first lj)
        (sym (get_or-map number_of corners i first d li) ∙ same ∙ get_or-map number_of corners j first d lj))

-- the tour around an internal edge class lists its corners, each in one of 1,000 tetrahedra, and at most 1,000,000
pub record IsRound (s : Skeleton) (c : ℕ) (corners : List Corner) : Type 0 where
  pub all : AreCorners s.rows (first_corner (least s.edges.classes c)) corners
  pub inside : AreCornersIn 1000 corners
  pub limited : length corners ≤ 1000000

pub round_of : (s : Skeleton) (c : ℕ) (corners : List Corner) → IsSkeleton s → c < s.edges.count → is_boundary_edge s.rows s.edges.classes c ≡ false → IsAround s c corners → IsRound s c corners
round_of s c corners skeleton l inner around =
    let walk : IsTourFrom s.rows first corners = subst (λ (b : Bool). MatchBool b (corners ≡ []) (IsTourFrom s.rows first corners)) inner around in
    let start : IsCornerIn (length s.rows) first = first_in_range (length s.rows) (least s.edges.classes c) (least_in_range (6 * length s.rows) (SameEdge s.rows) s.edges.classes s.edges.count c skeleton.edges l) in
    let every : AreCorners s.rows first corners = walk_has_corners s.rows skeleton.table first start corners walk in
    let within : AreCornersIn (length s.rows) corners = All-from_get_or (IsCornerIn (length s.rows)) corners first (walk_in_range s.rows skeleton.table first start corners walk) in
    let size : length corners ≤ 256 * length s.rows = few_corners (length s.rows) first corners within every.once in
    let tets : length s.rows ≤ 1000 = skeleton.table.limited in
    record { all = every; inside = λ k d h. raised (get_or corners k d) tets (within k d h); limited = omega arith }
  where
    first : Corner
    first = first_corner (least s.edges.classes c)

    raised : (k : Corner) → length s.rows ≤ 1000 → IsCornerIn (length s.rows) k → IsCornerIn 1000 k
    raised k m h = record { tet = omega (arith, h.tet); a = h.a; b = h.b; c = h.c; d = h.d; ac = h.ac; ad = h.ad }
