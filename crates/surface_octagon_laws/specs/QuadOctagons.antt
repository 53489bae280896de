-- Quad-octagon coordinates: the quads and octagons of a vector, with no triangles. An octagon has the arcs of two
-- quads, one of each other type.
use Rattle.std.specs.Prelude.{◌≡◌, ℕ, ◌+◌, ◌*◌, ◌/◌, ◌%◌, ◌<◌, ◌≤◌, ◌⊎◌, not, ◌==◌, List, ◌++◌, length, map, filter, sum_by, slice_index}
use Rattle.std.specs.List.{flat_map}
use Rattle.cone_definitions.specs.Rows.{Row as EquationRow, IsSolution}
use Rattle.table_definitions.specs.Lists.{below}
use Rattle.surface_definitions.specs.Coordinates.{columns, tri_column, quad_column, oct_column, three}
use Rattle.surface_definitions.specs.declared.Coords.TheVariants.{Standard, Quad, Octagon}

-- six entries a tetrahedron: its quads before its octagons
abbrev pub quad_entry : ℕ → ℕ → ℕ
quad_entry t k = 6 * t + k

abbrev pub octagon_entry : ℕ → ℕ → ℕ
octagon_entry t k = 6 * t + 3 + k

-- the quads and octagons of a vector of n tetrahedra in octagon coordinates
abbrev pub quads_and_octagons : ℕ → List ℕ → List ℕ
quads_and_octagons n ys =
    flat_map (λ t. map (λ k. slice_index ys (quad_column Octagon t k)) three ++ map (λ k. slice_index ys (oct_column Octagon t k)) three) (below n)

-- the two types that are not k
abbrev pub other_types : ℕ → List ℕ
other_types k = filter (λ j. not (j == k)) three

-- the quads of type k in tetrahedron t, once each octagon there is one quad of each other type
abbrev pub quads_at : List ℕ → ℕ → ℕ → ℕ
quads_at xs t k = slice_index xs (quad_entry t k) + sum_by (λ j. slice_index xs (octagon_entry t j)) (other_types k)

-- a quad-octagon vector with one quad of each other type in place of each octagon, in quad coordinates
abbrev pub quads_for_octagons : ℕ → List ℕ → List ℕ
quads_for_octagons n xs = flat_map (λ t. map (quads_at xs t) three) (below n)

-- zs, in standard coordinates, is ys with one quad of each other type in place of each octagon
pub record HasQuadsForOctagons (n : ℕ) (ys zs : List ℕ) : Type 0 where
  pub width : length zs ≡ columns Standard n
  pub triangles : (t v : ℕ) → t < n → v < 4 → slice_index zs (tri_column Standard t v) ≡ slice_index ys (tri_column Octagon t v)
  pub quads : (t k : ℕ) → t < n → k < 3
      → slice_index zs (quad_column Standard t k) ≡ slice_index ys (quad_column Octagon t k) + sum_by (λ j. slice_index ys (oct_column Octagon t j)) (other_types k)

-- a quad-octagon vector of n tetrahedra which solves the quad equations, each octagon as two quads
pub record SolvesQuadEquations (n : ℕ) (quad_rows : List EquationRow) (xs : List ℕ) : Type 0 where
  pub width : length xs ≡ 6 * n
  pub solves : IsSolution (columns Quad n) quad_rows (quads_for_octagons n xs)

-- at most one quad or octagon type in each tetrahedron, and one octagon type in all
pub record IsAdmissibleQuadOctagon (n : ℕ) (xs : List ℕ) : Type 0 where
  pub one_type : (a b : ℕ) → a < b → b < 6 * n → a / 6 ≡ b / 6 → (slice_index xs a ≡ 0) ⊎ (slice_index xs b ≡ 0)
  pub one_octagon : (a b : ℕ) → a < b → b < 6 * n → 3 ≤ a % 6 → 3 ≤ b % 6 → (slice_index xs a ≡ 0) ⊎ (slice_index xs b ≡ 0)
