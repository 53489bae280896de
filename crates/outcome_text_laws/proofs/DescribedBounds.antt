-- The numbers that are printed of a vector have at most 64 digits.
use Rattle.std.proofs.Common.{◌≡◌, ℕ, suc, ◌+◌, ◌/◌, ◌%◌, ◌^◌, ◌<◌, ◌≤◌, Bool, true, false, List, [], ◌∷◌, length, Option, Some, None, Ok, refl, sym, ap, ◌∙◌, subst, arith}
use Rattle.std.specs.Prelude.{◌==◌, filter, sum, sum_by, slice_index, nat_lt, if◌then◌else◌}
use Rattle.std.specs.List.{AllByRecursion, AllZip}
use Rattle.std.proofs.lemmas.List.{length-map}
use Rattle.std.proofs.lemmas.List.FromFn.{length-range_with_len}
use Rattle.std.proofs.lemmas.List.Sums.{count_by-le-length, sum_by-cons, sum_by-le-sum_by}
use Rattle.std.proofs.lemmas.Bool.{ltb-false}
use Rattle.text_definitions.specs.Written.{limit}
use Rattle.table_definitions.specs.Lists.{below}
use Rattle.table_definitions.specs.Table.{Row, Face, glue, faces}
use Rattle.table_definitions.specs.Classes.{least}
use Rattle.table_definitions.specs.Permutation.{others}
use Rattle.table_definitions.specs.Places.{ends}
use Rattle.skeleton_definitions.specs.Links.{euler_of, is_first_side}
use Rattle.skeleton_definitions.specs.Skeleton.{Skeleton}
use Rattle.surface_definitions.specs.declared.Coords.{Coords}
use Rattle.surface_definitions.specs.Coordinates.{arc_columns}
use Rattle.surface_definitions.specs.Characteristic.{crossings, weight, points, arcs_in, arcs}
use Rattle.surface_definitions.specs.Pieces.{SamePiece, disc_number, discs_of, arcs_around, component_vector}
use Rattle.surface_laws.proofs.Counting.{sum_by_same, over_places}
use Rattle.surface_laws.proofs.ComponentCounts.{in_column, component_count}
use Rattle.surface_laws.proofs.PieceNumbers.{piece_at, of_column}
use Rattle.surface_vector_definitions.specs.declared.SurfaceSum.{SurfaceSum}
use Rattle.surface_vector_definitions.specs.declared.SurfaceSum.TheVariants.{Points, Arcs, PointsAndPieces}
use Rattle.surface_vector_definitions.specs.Properties.{characteristic, AreProperties, first_large}
use Rattle.surface_vector_definitions.specs.Components.{Component, IsComponent, AreListedComponents}
use Rattle.cone_definitions.specs.Rows.{Row as EquationRow}
use Rattle.surface_vector_definitions.specs.Answers.{Description, IsDescription}
use Rattle.std.proofs.lemmas.List.Concat.{length-flat_map}
use Rattle.outcome_text_laws.proofs.SplitWords.{IsShortInteger}
use Rattle.outcome_text_laws.proofs.Listings.{AreShort}
use Rattle.outcome_text_laws.proofs.Bounds.{count_within, short_difference}

-- ---- a vector with no greater entries has no greater sums

sum_first : (x : ℕ) (xs : List ℕ) → sum (x ∷ xs) ≡ x + sum xs
sum_first x xs = sum_by-cons (λ (n : ℕ). n) x xs

pub sum_within : (ys xs : List ℕ) → ((c : ℕ) → slice_index ys c ≤ slice_index xs c) → sum ys ≤ sum xs
sum_within [] xs h = omega arith
sum_within (y ∷ ys) [] h =
    let first : y ≤ 0 = h 0 in
    let more : sum ys ≤ 0 = sum_within ys [] (λ c. h (suc c)) in
    omega (arith, sum_first y ys)
sum_within (y ∷ ys) (x ∷ xs) h =
    let first : y ≤ x = h 0 in
    let more : sum ys ≤ sum xs = sum_within ys xs (λ c. h (suc c)) in
    omega (arith, sum_first y ys, sum_first x xs)

module _ (coords : Coords) (ys xs : List ℕ) (h : (c : ℕ) → slice_index ys c ≤ slice_index xs c) where
  columns_within : (cs : List ℕ) → sum_by (slice_index ys) cs ≤ sum_by (slice_index xs) cs
  columns_within cs = sum_by-le-sum_by (slice_index ys) (slice_index xs) cs h

  weight_within : (i : ℕ) → weight coords ys i ≤ weight coords xs i
  weight_within i = columns_within (crossings coords (i / 6) (slice_index (ends (i % 6)) 0) (slice_index (ends (i % 6)) 1))

  pub points_within : (classes : List ℕ) (count : ℕ) → points coords ys classes count ≤ points coords xs classes count
  points_within classes count = sum_by-le-sum_by (λ c. weight coords ys (least classes c)) (λ c. weight coords xs (least classes c)) (below count) (λ c. weight_within (least classes c))

  face_within : (x : Face) → arcs_in coords ys x ≤ arcs_in coords xs x
  face_within x = sum_by-le-sum_by (arcs_around coords ys x.tet x.face) (arcs_around coords xs x.tet x.face) (others x.face) (λ v. columns_within (arc_columns coords x.tet x.face v))

  pub arcs_within : (rows : List Row) → arcs rows coords ys ≤ arcs rows coords xs
  arcs_within rows = sum_by-le-sum_by (arcs_in coords ys) (arcs_in coords xs) (filter (λ (x : Face). is_first_side x (glue rows x)) (faces (length rows))) face_within

-- ---- sums within the limit

no_large : (b c : Bool) (rest : Option SurfaceSum) → (if◌then◌else◌ {A = Option SurfaceSum} b (Some Points) (if◌then◌else◌ {A = Option SurfaceSum} c (Some Arcs) rest)) ≡ None → (b ≡ false) × (c ≡ false)
no_large true c rest e = absurd cc
no_large false true rest e = absurd cc
no_large false false rest e = (refl, refl)

module _ (s : Skeleton) (coords : Coords) (xs : List ℕ) (none : first_large limit s coords xs ≡ None) where
  tests : (nat_lt limit (points coords xs s.edges.classes s.edges.count) ≡ false) × (nat_lt limit (arcs s.rows coords xs) ≡ false)
  tests = no_large (nat_lt limit (points coords xs s.edges.classes s.edges.count)) (nat_lt limit (arcs s.rows coords xs))
      (if nat_lt limit (points coords xs s.edges.classes s.edges.count + sum xs) then Some PointsAndPieces else None) none

  pub few_points : points coords xs s.edges.classes s.edges.count ≤ limit
  few_points = ltb-false limit (points coords xs s.edges.classes s.edges.count) tests.0

  pub few_arcs : arcs s.rows coords xs ≤ limit
  few_arcs = ltb-false limit (arcs s.rows coords xs) tests.1

short_euler : (p a n : ℕ) → p ≤ limit → a ≤ limit → n ≤ 100000 → IsShortInteger (euler_of p a n)
short_euler p a n h k l = short_difference (p + n) a (omega arith) (omega arith)

-- ---- components

discs_are_counted : (xs : List ℕ) → length (discs_of xs) ≡ sum xs
discs_are_counted xs =
    length-flat_map (of_column xs) (below (length xs))
    ∙ sum_by_same (λ c. length (of_column xs c)) (slice_index xs) (below (length xs)) (λ c a. length-map (below (slice_index xs c)) (λ j. piece_at c j) ∙ length-range_with_len 0 (slice_index xs c))
    ∙ over_places (λ (k : ℕ). k) (slice_index xs) 0 xs (λ i l. refl)

module _ (xs components : List ℕ) (one_each : length components ≡ length (discs_of xs)) (i : ℕ) where
  pub component_within : (c : ℕ) → slice_index (component_vector xs components i) c ≤ slice_index xs c
  component_within c =
      let short : in_column xs components i c ≤ length (below (slice_index xs c)) = count_by-le-length (λ j. slice_index components (disc_number xs (piece_at c j)) == i) (below (slice_index xs c)) in
      let is : slice_index (component_vector xs components i) c ≡ in_column xs components i c = component_count xs components one_each i c in
      omega (arith, length-range_with_len 0 (slice_index xs c))

entries_short : (xs : List ℕ) → sum xs ≤ 100000 → AreShort xs
entries_short [] h = tt
entries_short (x ∷ xs) h =
    let whole : sum (x ∷ xs) ≡ x + sum xs = sum_first x xs in
    (omega arith, entries_short xs (omega arith))

pub record IsShortComponent (s : Skeleton) (coords : Coords) (c : Component) : Type 0 where
  pub vector : AreShort c.vector
  pub euler : IsShortInteger (characteristic s coords c.vector)

pub record IsShortDescription (s : Skeleton) (coords : Coords) (d : Description) : Type 0 where
  pub vector : AreShort d.vector
  pub euler : IsShortInteger d.properties.euler
  pub components : length d.components < 10 ^ 64
  pub each : AllByRecursion (IsShortComponent s coords) d.components

module _ (s : Skeleton) (coords : Coords) (xs : List ℕ) (none : first_large limit s coords xs ≡ None) (limited : sum xs ≤ 100000) where
  short_vector : (ys : List ℕ) → ((c : ℕ) → slice_index ys c ≤ slice_index xs c) → AreShort ys × IsShortInteger (characteristic s coords ys)
  short_vector ys h =
      let sums : sum ys ≤ sum xs = sum_within ys xs h in
      let p : points coords ys s.edges.classes s.edges.count ≤ points coords xs s.edges.classes s.edges.count = points_within coords ys xs h s.edges.classes s.edges.count in
      let a : arcs s.rows coords ys ≤ arcs s.rows coords xs = arcs_within coords ys xs h s.rows in
      (entries_short ys (omega arith), short_euler (points coords ys s.edges.classes s.edges.count) (arcs s.rows coords ys) (sum ys) (omega (arith, few_points s coords xs none)) (omega (arith, few_arcs s coords xs none)) (omega arith))

  short_components : (classes : List ℕ) → length classes ≡ length (discs_of xs) → (is : List ℕ) (listed : List Component) → AllZip (IsComponent s.rows coords xs classes) is listed → AllByRecursion (IsShortComponent s coords) listed
  short_components classes one_each [] [] z = tt
  short_components classes one_each [] (c ∷ listed) z = absurd z
  short_components classes one_each (i ∷ is) [] z = absurd z
  short_components classes one_each (i ∷ is) (c ∷ listed) z =
      let v : AreShort (component_vector xs classes i) × IsShortInteger (characteristic s coords (component_vector xs classes i)) = short_vector (component_vector xs classes i) (component_within xs classes one_each i) in
      let e : c.vector ≡ component_vector xs classes i = z.0.vector in
      (record { vector = subst AreShort (sym e) v.0; euler = subst (λ ys. IsShortInteger (characteristic s coords ys)) (sym e) v.1 }, short_components classes one_each is listed z.1)

same_length : {A B : Type 0} (R : A → B → Type 0) (xs : List A) (ys : List B) → AllZip R xs ys → length xs ≡ length ys
same_length R [] [] z = refl
same_length R [] (b ∷ ys) z = absurd z
same_length R (a ∷ xs) [] z = absurd z
same_length R (a ∷ xs) (b ∷ ys) z = ap (λ (n : ℕ). suc n) (same_length R xs ys z.1)

pub short_description : (s : Skeleton) (coords : Coords) (equations : List EquationRow) (xs : List ℕ) (d : Description) → IsDescription s coords equations xs (Ok d) → IsShortDescription s coords d
short_description s coords equations xs d h =
    let none : first_large limit s coords xs ≡ None = h.2.0 in
    let p : AreProperties s coords xs d.properties = h.2.1 in
    let limited : sum xs ≤ 100000 = h.3.0 in
    let c : AreListedComponents s.rows coords xs d.components = h.3.1 in
    let count : c.count ≤ length (discs_of xs) = count_within (length (discs_of xs)) (SamePiece s.rows coords xs) c.classes c.count c.numbered in
    let many : length (below c.count) ≡ length d.components = same_length (IsComponent s.rows coords xs c.classes) (below c.count) d.components c.each in
    let points : d.properties.points ≤ limit = omega (arith, p.points, few_points s coords xs none) in
    let arcs : d.properties.arcs ≤ limit = omega (arith, p.arcs, few_arcs s coords xs none) in
    let pieces : d.properties.pieces ≤ 100000 = omega (arith, p.pieces) in
    record {
      vector = subst AreShort (sym h.1) (entries_short xs limited);
      euler = subst IsShortInteger (sym p.euler) (short_euler d.properties.points d.properties.arcs d.properties.pieces points arcs pieces);
      components = omega (arith, length-range_with_len 0 c.count, discs_are_counted xs);
      each = short_components s coords xs none limited c.classes c.numbered.one_each (below c.count) d.components c.each;
    }
