-- Columns of triangles, quads and octagons: their tetrahedra and kinds.
use Rattle.std.proofs.Common.{◌≡◌, ℕ, zero, suc, ◌+◌, ◌*◌, ◌/◌, ◌%◌, ◌<◌, ◌≤◌, Bool, true, false, not, cond, List, [], ◌∷◌, map, filter, inl, inr, refl, sym, ap, ◌∙◌, subst, arith}
use Rattle.std.specs.Prelude.{◌==◌, nat_lt, slice_index, T, if◌then◌else◌}
use Rattle.std.specs.List.{AllByRecursion, position_or_len, slice_index_or}
use Rattle.std.proofs.Math.Nat.{add_assoc}
use Rattle.table_definitions.proofs.TableLaws.{Among}
use Rattle.table_definitions.proofs.Listed.{all_mapped, filter-among}
use Rattle.surface_definitions.specs.Coordinates.{has_triangles, has_octagons, triangles_each, before_octagons, octagons_each, columns, columns_each, tri_column, quad_column, oct_column, keeping, three, octagon_types, octagon_arcs}
use Rattle.surface_definitions.specs.Characteristic.{octagon_crossings}
use Rattle.surface_definitions.specs.declared.Coords.{Coords}
use Rattle.surface_definitions.proofs.ColumnCounts.{tet_of_index, index_of_index, column_of_index}
use Rattle.surface_laws.specs.MatchingLaws.{HasTriangles}
use Rattle.surface_laws.specs.PieceLaws.{first_nonzero}
use Rattle.surface_laws.proofs.Turns.{keeping_below}

-- the three types
pub among_three : (k : ℕ) → Among k three → k < 3
among_three k (inl e) = omega arith
among_three k (inr (inl e)) = omega arith
among_three k (inr (inr (inl e))) = omega arith
among_three k (inr (inr (inr h))) = absurd h

pub three_among : (k : ℕ) → k < 3 → Among k three
three_among zero l = inl refl
three_among (suc zero) l = inr (inl refl)
three_among (suc (suc zero)) l = inr (inr (inl refl))
three_among (suc (suc (suc k))) l = absurd (omega arith)

-- what holds of all the columns holds of the first nonzero one
pub first_is : (P : ℕ → Type 0) (xs os : List ℕ) (q : ℕ) → P q → AllByRecursion P os → P (first_nonzero xs os q)
first_is P xs [] q h a = h
first_is P xs (o ∷ os) q h a = by_test (nat_lt 0 (slice_index xs o)) (first_is P xs os q h a.1)
  where
    place : ℕ
    place = position_or_len (λ c. nat_lt 0 (slice_index xs c)) os

    by_test : (b : Bool) → P (first_nonzero xs os q) → P (slice_index_or (o ∷ os) (cond (not b) (1 + place) 0) q)
    by_test true more = a.0
    by_test false more = let next : suc place ≡ 1 + place = omega arith in subst (λ k. P (slice_index_or (o ∷ os) k q)) next more

-- the types of octagons, each with an octagon column
pub octagon_type : (coords : Coords) (k : ℕ) → Among k (octagon_types coords) → k < octagons_each coords
octagon_type coords k = go (has_octagons coords)
  where
    go : (b : Bool) → Among k (if b then three else []) → k < (if b then 3 else 0)
    go true h = among_three k h
    go false h = absurd h

-- the indices of disc types among the columns of their tetrahedron
pub four_triangles : (coords : Coords) → HasTriangles coords → triangles_each coords ≡ 4
four_triangles coords = go (has_triangles coords)
  where
    go : (b : Bool) → T b → ◌≡◌ {A = ℕ} (if b then 4 else 0) 4
    go true h = refl
    go false h = absurd h

pub triangle_place : (coords : Coords) (v : ℕ) → HasTriangles coords → v < 4 → v < columns_each coords
triangle_place coords v h lv = let all = four_triangles coords h in omega (arith, all, lv)

quad_place : (coords : Coords) (k : ℕ) → k < 3 → triangles_each coords + k < columns_each coords
quad_place coords k l = omega arith

octagon_place : (coords : Coords) (k : ℕ) → k < octagons_each coords → before_octagons coords + k < columns_each coords
octagon_place coords k l = omega arith

quad_at : (coords : Coords) (t k : ℕ) → quad_column coords t k ≡ columns_each coords * t + (triangles_each coords + k)
quad_at coords t k = add_assoc (columns_each coords * t) (triangles_each coords) k

octagon_at : (coords : Coords) (t k : ℕ) → oct_column coords t k ≡ columns_each coords * t + (before_octagons coords + k)
octagon_at coords t k = add_assoc (columns_each coords * t) (before_octagons coords) k

-- a property of the columns of octagons
pub of_octagons : (P : ℕ → Type 0) (coords : Coords) (t : ℕ) (p : ℕ → Bool) → ((k : ℕ) → k < octagons_each coords → P (oct_column coords t k))
    → AllByRecursion P (map (oct_column coords t) (filter p (octagon_types coords)))
of_octagons P coords t p each =
    all_mapped P (oct_column coords t) (filter p (octagon_types coords)) (λ k a. each k (octagon_type coords k (filter-among p k (octagon_types coords) a).0))

pub of_octagon_crossings : (P : ℕ → Type 0) (coords : Coords) (t k : ℕ) → k < 3 → ((j : ℕ) → j < octagons_each coords → P (oct_column coords t j))
    → AllByRecursion P (octagon_crossings coords t k)
of_octagon_crossings P coords t k l each = go (has_octagons coords) refl
  where
    go : (b : Bool) → has_octagons coords ≡ b → AllByRecursion P (if b then oct_column coords t k ∷ map (oct_column coords t) three else [])
    go true e =
        let all : octagons_each coords ≡ 3 = ap (λ b. if b then 3 else 0) e in
        (each k (omega (arith, all, l)), all_mapped P (oct_column coords t) three (λ j a. let below = among_three j a in each j (omega (arith, all, below))))
    go false e = tt

-- quads and octagons come after the triangles of a tetrahedron
abbrev pub IsHigh : ℕ → ℕ → Type 0
IsHigh each c = 4 ≤ c % each

pub quad_high : (coords : Coords) → HasTriangles coords → (t k : ℕ) → k < 3 → IsHigh (columns_each coords) (quad_column coords t k)
quad_high coords h t k l =
    let all : triangles_each coords ≡ 4 = four_triangles coords h in
    let place : quad_column coords t k % columns_each coords ≡ triangles_each coords + k =
    ap (λ c. c % columns_each coords) (quad_at coords t k) ∙ index_of_index coords t (triangles_each coords + k) (quad_place coords k l) in
    subst (λ j. 4 ≤ j) (sym place) (omega (arith, all))

pub octagon_high : (coords : Coords) → HasTriangles coords → (t k : ℕ) → k < octagons_each coords → IsHigh (columns_each coords) (oct_column coords t k)
octagon_high coords h t k l =
    let all : triangles_each coords ≡ 4 = four_triangles coords h in
    let place : oct_column coords t k % columns_each coords ≡ before_octagons coords + k =
    ap (λ c. c % columns_each coords) (octagon_at coords t k) ∙ index_of_index coords t (before_octagons coords + k) (octagon_place coords k l) in
    subst (λ j. 4 ≤ j) (sym place) (omega (arith, all))

pub octagons_high : (coords : Coords) → HasTriangles coords → (t f v : ℕ) → AllByRecursion (IsHigh (columns_each coords)) (octagon_arcs coords t f v)
octagons_high coords h t f v = of_octagons (IsHigh (columns_each coords)) coords t (λ k. not (k == keeping v f)) (octagon_high coords h t)

pub high_behind : (coords : Coords) (xs : List ℕ) (t f v : ℕ) → HasTriangles coords → f < 4 → v < 4 → (v ≡ f → ⊥) → IsHigh (columns_each coords) (first_nonzero xs (octagon_arcs coords t f v) (quad_column coords t (keeping v f)))
high_behind coords xs t f v h lf lv off =
    first_is (IsHigh (columns_each coords)) xs (octagon_arcs coords t f v) (quad_column coords t (keeping v f)) (quad_high coords h t (keeping v f) (keeping_below v f lv lf off))
    (octagons_high coords h t f v)

pub low_triangle : (coords : Coords) (t v : ℕ) → HasTriangles coords → v < 4 → tri_column coords t v % columns_each coords < 4
low_triangle coords t v h lv = subst (λ k. k < 4) (sym (index_of_index coords t v (triangle_place coords v h lv))) lv

-- the columns of the arcs around a vertex are those of the tetrahedron
abbrev pub IsIn : ℕ → ℕ → ℕ → Type 0
IsIn each t c = c / each ≡ t

pub triangle_in : (coords : Coords) (t v : ℕ) → HasTriangles coords → v < 4 → IsIn (columns_each coords) t (tri_column coords t v)
triangle_in coords t v h lv = tet_of_index coords t v (triangle_place coords v h lv)

pub quad_in : (coords : Coords) (t k : ℕ) → k < 3 → IsIn (columns_each coords) t (quad_column coords t k)
quad_in coords t k l = ap (λ c. c / columns_each coords) (quad_at coords t k) ∙ tet_of_index coords t (triangles_each coords + k) (quad_place coords k l)

pub octagons_in : (coords : Coords) (t f v : ℕ) → AllByRecursion (IsIn (columns_each coords) t) (octagon_arcs coords t f v)
octagons_in coords t f v = of_octagons (IsIn (columns_each coords) t) coords t (λ k. not (k == keeping v f))
    (λ k l. ap (λ c. c / columns_each coords) (octagon_at coords t k) ∙ tet_of_index coords t (before_octagons coords + k) (octagon_place coords k l))

pub behind_in : (coords : Coords) (xs : List ℕ) (t f v : ℕ) → HasTriangles coords → f < 4 → v < 4 → (v ≡ f → ⊥) → IsIn (columns_each coords) t (first_nonzero xs (octagon_arcs coords t f v) (quad_column coords t (keeping v f)))
behind_in coords xs t f v h lf lv off =
    first_is (IsIn (columns_each coords) t) xs (octagon_arcs coords t f v) (quad_column coords t (keeping v f)) (quad_in coords t (keeping v f) (keeping_below v f lv lf off))
    (octagons_in coords t f v)

-- a triangle's column determines its tetrahedron and vertex
pub one_triangle : (coords : Coords) (t v u w : ℕ) → HasTriangles coords → v < 4 → w < 4 → tri_column coords t v ≡ tri_column coords u w → (t ≡ u) × (v ≡ w)
one_triangle coords t v u w h lv lw e =
    let first : v < columns_each coords = triangle_place coords v h lv in
    let second : w < columns_each coords = triangle_place coords w h lw in (
      sym (tet_of_index coords t v first) ∙ ap (λ c. c / columns_each coords) e ∙ tet_of_index coords u w second,
      sym (index_of_index coords t v first) ∙ ap (λ c. c % columns_each coords) e ∙ index_of_index coords u w second,
    )

-- the columns of disc types are columns of the table
pub column_below : (coords : Coords) → HasTriangles coords → (n t v : ℕ) → t < n → v < 4 → tri_column coords t v < columns coords n
column_below coords h n t v lt lv = column_of_index coords n t v lt (triangle_place coords v h lv)

pub quad_below : (coords : Coords) (n t k : ℕ) → t < n → k < 3 → quad_column coords t k < columns coords n
quad_below coords n t k lt l = subst (λ c. c < columns coords n) (sym (quad_at coords t k)) (column_of_index coords n t (triangles_each coords + k) lt (quad_place coords k l))

pub octagon_below : (coords : Coords) (n t k : ℕ) → t < n → k < octagons_each coords → oct_column coords t k < columns coords n
octagon_below coords n t k lt l = subst (λ c. c < columns coords n) (sym (octagon_at coords t k)) (column_of_index coords n t (before_octagons coords + k) lt (octagon_place coords k l))

pub octagons_below : (coords : Coords) (n t f v : ℕ) → t < n → AllByRecursion (λ c. c < columns coords n) (octagon_arcs coords t f v)
octagons_below coords n t f v lt = of_octagons (λ c. c < columns coords n) coords t (λ k. not (k == keeping v f)) (λ k l. octagon_below coords n t k lt l)
