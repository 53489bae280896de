-- Masks of columns.
use Rattle.std.specs.Prelude.{◌≡◌, ℕ, ◌+◌, ◌-◌, ◌/◌, ◌%◌, ◌<◌, List, Bool, ◌&&◌, Vec, length, nat_lt, nat_le, slice_index_or}
use Rattle.std.specs.declared.alloc.Global.{Global}
use Rattle.surface_definitions.specs.Coordinates.{before_octagons, columns, columns_each, triangles_each}
use Rattle.surface_definitions.specs.declared.Coords.{Coords}
use Rattle.support_bits.specs.Words.{bit_of}
use Rattle.quad_condition.specs.Bits.{HasPairAhead}

-- the coordinates and the number of tetrahedra
pub record Masked : Type 0 where
  pub coords : Coords
  pub tets : ℕ

-- whether the column has an index of at least least in its tetrahedron, and more than distance columns from it on
abbrev pub is_marked : Coords → ℕ → ℕ → ℕ → Bool
is_marked coords least distance column =
    nat_le least (column % columns_each coords) && nat_lt (column % columns_each coords + distance) (columns_each coords)

-- the words of the marked columns of n tetrahedra
pub record AreMarks (coords : Coords) (n least distance : ℕ) (words : List ℕ) : Type 0 where
  pub count : length words ≡ (columns coords n + 63) / 64
  pub bits : (column : ℕ) → bit_of words column ≡ (nat_lt column (columns coords n) && is_marked coords least distance column)

-- a mask of quads and octagons for each distance within a tetrahedron, from 1 on
pub record AreDistanceMasks (coords : Coords) (n : ℕ) (near : List (Vec ℕ Global)) : Type 0 where
  pub reach : length near + 1 ≡ columns_each coords - triangles_each coords
  pub each : (k : ℕ) (d : Vec ℕ Global) → k < length near → AreMarks coords n (triangles_each coords) (k + 1) (slice_index_or near k d).items

pub record AreMasks (coords : Coords) (n : ℕ) (near : List (Vec ℕ Global)) (octagons : List ℕ) : Type 0 where
  pub near_marks : AreDistanceMasks coords n near
  pub octagon_marks : AreMarks coords n (before_octagons coords) 0 octagons

-- a column of a mask and the one at its distance ahead both are in the union of a and b
pub record HasPairAtDistance (near : List (Vec ℕ Global)) (a b : List ℕ) : Type 0 where
  pub place : ℕ
  pub in_range : place < length near
  pub mask : Vec ℕ Global
  pub is_mask : (d : Vec ℕ Global) → mask ≡ slice_index_or near place d
  pub pair : HasPairAhead mask.items a b (place + 1)
