-- All properties of a vector at once, or the first sum that is large. Coordinates are standard or octagons.
use Rattle.std.specs.Prelude.{◌≡◌, ℕ, ◌+◌, ℤ, List, Option, Some, None, Result, Ok, Err, sum, nat_lt, if◌then◌else◌}
use Rattle.surface_definitions.specs.declared.Coords.{Coords}
use Rattle.surface_definitions.specs.Characteristic.{points as points_of, arcs as arcs_of, is_linking, meets_boundary}
use Rattle.skeleton_definitions.specs.Links.{euler_of}
use Rattle.skeleton_definitions.specs.Skeleton.{Skeleton}
use Rattle.surface_vector_definitions.specs.declared.Properties.{Properties}
use Rattle.surface_vector_definitions.specs.declared.SurfaceSum.{SurfaceSum}
use Rattle.surface_vector_definitions.specs.declared.SurfaceSum.TheVariants.{Points, Arcs, PointsAndPieces}
use Rattle.surface_vector_definitions.specs.declared.PropertyFault.{PropertyFault}
use Rattle.surface_vector_definitions.specs.declared.PropertyFault.TheVariants.{Large}

-- the Euler characteristic of a vector of the table
abbrev pub characteristic : Skeleton → Coords → List ℕ → ℤ
characteristic s coords xs = euler_of (points_of coords xs s.edges.classes s.edges.count) (arcs_of s.rows coords xs) (sum xs)

-- the properties of a vector of the table
pub record AreProperties (s : Skeleton) (coords : Coords) (xs : List ℕ) (p : Properties) : Type 0 where
  pub points : p.points ≡ points_of coords xs s.edges.classes s.edges.count
  pub arcs : p.arcs ≡ arcs_of s.rows coords xs
  pub pieces : p.pieces ≡ sum xs
  pub euler : p.euler ≡ euler_of p.points p.arcs p.pieces
  pub linking : p.linking ≡ is_linking coords xs
  pub boundary : p.boundary ≡ meets_boundary s.rows coords xs

-- the first of the sums that exceeds max
abbrev pub large_sum : ℕ → ℕ → ℕ → ℕ → Option SurfaceSum
large_sum max points arcs pieces =
    if nat_lt max points then Some Points else (if nat_lt max arcs then Some Arcs else (if nat_lt max (points + pieces) then Some PointsAndPieces else None))

-- the first of the vector's sums that exceeds max
abbrev pub first_large : ℕ → Skeleton → Coords → List ℕ → Option SurfaceSum
first_large max s coords xs = large_sum max (points_of coords xs s.edges.classes s.edges.count) (arcs_of s.rows coords xs) (sum xs)

-- the answer for a vector: its properties if no sum exceeds max, and otherwise the first sum that does
abbrev pub IsPropertyAnswer : ℕ → Skeleton → Coords → List ℕ → Result Properties PropertyFault → Type 0
IsPropertyAnswer max s coords xs (Ok p) = (first_large max s coords xs ≡ None) × AreProperties s coords xs p
IsPropertyAnswer max s coords xs (Err (Large sum)) = first_large max s coords xs ≡ Some sum
