-- The lift of a quad solution to a standard solution with the same quads.
use Rattle.std.specs.Prelude.{◌≡◌, ℕ, ◌/◌, ◌%◌, ◌<◌, List, length, map, slice_index}
use Rattle.std.specs.List.{flat_map, Contains}
use Rattle.table_definitions.specs.Lists.{below}
use Rattle.table_definitions.specs.Table.{Gluing, Row, Face}
use Rattle.surface_definitions.specs.Coordinates.{columns, tri_column, quad_column, three}
use Rattle.surface_definitions.specs.declared.Coords.TheVariants.{Standard}
use Rattle.table_definitions.specs.Permutation.{others}
use Rattle.surface_definitions.specs.Equations.{glued_pairs, matching, Holds}
use Rattle.skeleton_definitions.specs.Links.{vertex_number}

-- the quads of a standard vector of n tetrahedra
abbrev pub projected : ℕ → List ℕ → List ℕ
projected n ys = flat_map (λ t. map (λ k. slice_index ys (quad_column Standard t k)) three) (below n)

-- the vector has the given quads, and at vertex class c each matching equation holds and a triangle is 0
pub record IsLiftAt (rows : List Row) (classes : List ℕ) (xs : List ℕ) (c : ℕ) (ys : List ℕ) : Type 0 where
  pub quads_are : projected (length rows) ys ≡ xs
  pub holds : (y : Face × Gluing) (v : ℕ) → Contains (glued_pairs rows) y → Contains (others (y.0).face) v
      → slice_index classes (vertex_number (y.0).tet v) ≡ c → Holds (matching Standard y.0 y.1 v) ys
  pub least : (i : ℕ) × (i < length classes) × (slice_index classes i ≡ c) × (slice_index ys (tri_column Standard (i / 4) (i % 4)) ≡ 0)

-- a lift at each of count classes
pub record IsLift (rows : List Row) (classes : List ℕ) (count : ℕ) (xs ys : List ℕ) : Type 0 where
  pub width : length ys ≡ columns Standard (length rows)
  pub each : (c : ℕ) → c < count → IsLiftAt rows classes xs c ys
