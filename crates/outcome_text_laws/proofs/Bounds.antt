-- The numbers that are printed of a table have at most 64 digits.
use Rattle.std.proofs.Common.{◌≡◌, ℕ, zero, suc, ◌+◌, ◌*◌, ◌/◌, ◌%◌, ◌^◌, ◌<◌, ◌≤◌, List, [], ◌∷◌, length, refl, sym, subst, arith, length-append}
use Rattle.std.specs.Prelude.{ℤ, pos, negsuc, Bool, ◌-ℤ◌, ◌==◌, ◌&&◌, not, map, count_by, slice_index}
use Rattle.std.specs.List.{flat_map}
use Rattle.std.proofs.lemmas.Int.{ints}
use Rattle.std.proofs.lemmas.List.{length-map}
use Rattle.std.proofs.lemmas.List.FromFn.{length-range_with_len}
use Rattle.std.proofs.lemmas.List.Sums.{length-filter, count_by-le-length}
use Rattle.table_definitions.specs.Lists.{below}
use Rattle.table_definitions.specs.Permutation.{four, others}
use Rattle.table_definitions.specs.Table.{Row, Face, glue}
use Rattle.table_definitions.specs.Classes.{IsNumbering, degree, is_least, members}
use Rattle.skeleton_definitions.specs.declared.Link.{Link}
use Rattle.skeleton_definitions.specs.Links.{IsLink, is_first_side, sides, vertex_number}
use Rattle.outcome_text_laws.proofs.SplitWords.{IsShortInteger}

-- ---- classes

module _ (n : ℕ) (Same : ℕ → ℕ → Type 0) (classes : List ℕ) (count : ℕ) (h : IsNumbering n Same classes count) where
  -- the class of a thing is not above its number
  class_within : (bound i : ℕ) → i < bound → i < n → slice_index classes i ≤ i
  class_within zero i l m = absurd (omega arith)
  class_within (suc bound) i l m = by (λ j less. class_within bound j (omega arith) (omega arith)) (slice_index classes i) refl
    where
      by : ((j : ℕ) → j < i → slice_index classes j ≤ j) → (c : ℕ) → slice_index classes i ≡ c → c ≤ i
      by earlier zero e = omega arith
      by earlier (suc d) e =
          let before : (j : ℕ) × (j < i) × (slice_index classes j ≡ d) = h.ascending i d m (omega arith) in
          let less : before.0 < i = before.1 in
          let is : slice_index classes before.0 ≡ d = before.2 in
          let within : slice_index classes before.0 ≤ before.0 = earlier before.0 less in
          omega arith

  pub count_within : count ≤ n
  count_within = by count refl
    where
      by : (k : ℕ) → count ≡ k → k ≤ n
      by zero e = omega arith
      by (suc d) e =
          let last : (i : ℕ) × (i < n) × (slice_index classes i ≡ d) = h.none_empty d (omega arith) in
          let inside : last.0 < n = last.1 in
          let is : slice_index classes last.0 ≡ d = last.2 in
          let within : slice_index classes last.0 ≤ last.0 = class_within (suc last.0) last.0 (omega arith) inside in
          omega arith

  pub degree_within : (c : ℕ) → degree classes c ≤ n
  degree_within c = let e : length classes ≡ n = h.one_each in omega (arith, count_by-le-length (λ m. m == c) classes)

-- ---- differences

pub short_difference : (a b : ℕ) → a < 10 ^ 64 → b < 10 ^ 64 → IsShortInteger (pos a -ℤ pos b)
short_difference a b p q = by (pos a -ℤ pos b) refl
  where
    by : (z : ℤ) → pos a -ℤ pos b ≡ z → IsShortInteger z
    by (pos n) e = omega (arith, ints)
    by (negsuc n) e = omega (arith, ints)

-- ---- links

flat_within : {A B : Type 0} (m : ℕ) (F : A → List B) (xs : List A) → ((x : A) → length (F x) ≤ m) → length (flat_map F xs) ≤ m * length xs
flat_within m F [] h = omega arith
flat_within m F (x ∷ xs) h =
    let one : length (F x) ≤ m = h x in
    let more : length (flat_map F xs) ≤ m * length xs = flat_within m F xs h in
    let both : length (flat_map F (x ∷ xs)) ≡ length (F x) + length (flat_map F xs) = length-append (F x) (flat_map F xs) in
    omega arith

others_within : (f : ℕ) → length (others f) ≤ 4
others_within f = omega (arith, length-filter (λ v. not (v == f)) four, count_by-le-length (λ v. not (v == f)) four)

-- a link of at most 12,000 vertices, 16,000 edges and 4,000 triangles
pub link_short : (rows : List Row) (classes directions : List ℕ) (c : ℕ) (link : Link) → length classes ≤ 4000 → length directions ≤ 12000 → IsLink rows classes directions c link → IsShortInteger link.euler
link_short rows classes directions c link l m h =
    let v : link.vertices ≤ 12000 = vertices in
    let t : link.triangles ≤ 4000 = triangles in
    let e : link.edges ≤ 16000 = edges in
    subst IsShortInteger (sym h.euler) (short_difference (link.vertices + link.triangles) link.edges (omega arith) (omega arith))
  where
    triangles : link.triangles ≤ 4000
    triangles = omega (arith, h.triangles, count_by-le-length (λ d. d == c) classes)

    vertices : link.vertices ≤ 12000
    vertices =
        let starts : ℕ → Bool = λ i. is_least directions i && (slice_index classes (vertex_number (i / 12) ((i % 12) / 3)) == c) in
        let counted : link.vertices ≡ count_by starts (below (length directions)) = h.vertices in
        let short : count_by starts (below (length directions)) ≤ length (below (length directions)) = count_by-le-length starts (below (length directions)) in
        omega (arith, length-range_with_len 0 (length directions))

    limited : length (members classes c) ≤ 4000
    limited = omega (arith, length-filter (λ i. slice_index classes i == c) (below (length classes)), count_by-le-length (λ i. slice_index classes i == c) (below (length classes)), length-range_with_len 0 (length classes))

    side_face : ℕ → ℕ → Face
    side_face i f = record { tet = i / 4; face = f }

    side : ℕ → List Face
    side i = map (side_face i) (others (i % 4))

    side_within : (i : ℕ) → length (side i) ≤ 4
    side_within i = omega (arith, length-map (others (i % 4)) (side_face i), others_within (i % 4))

    edges : link.edges ≤ 16000
    edges =
        let all : length (sides classes c) ≤ 4 * length (members classes c) = flat_within 4 side (members classes c) side_within in
        let counted : link.edges ≡ count_by (λ (x : Face). is_first_side x (glue rows x)) (sides classes c) = h.edges in
        let short : count_by (λ (x : Face). is_first_side x (glue rows x)) (sides classes c) ≤ length (sides classes c) = count_by-le-length (λ (x : Face). is_first_side x (glue rows x)) (sides classes c) in
        omega (arith, limited)
