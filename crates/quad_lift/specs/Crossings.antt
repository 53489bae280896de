-- The vertex across a face, and the quads on both sides.
use Rattle.std.specs.Prelude.{◌≡◌, ℕ, ◌/◌, ◌%◌, List, Some, slice_index}
use Rattle.table_definitions.specs.Permutation.{image}
use Rattle.table_definitions.specs.Table.{Gluing, glue}
use Rattle.skeleton_definitions.specs.Links.{vertex_number}
use Rattle.skeleton_definitions.specs.Skeleton.{Skeleton}
use Rattle.surface_definitions.specs.declared.Coords.TheVariants.{Quad}
use Rattle.surface_definitions.specs.Coordinates.{quad_column, keeping}

-- vertex i is glued across face f to vertex other, with up and down quads on the two sides
pub record IsCrossing (s : Skeleton) (xs : List ℕ) (i f other up down : ℕ) : Type 0 where
  pub gluing : Gluing
  pub glued : glue s.rows (record { tet = i / 4; face = f }) ≡ Some gluing
  pub off : i % 4 ≡ f → ⊥
  pub other_is : other ≡ vertex_number gluing.tet (image gluing.perm (i % 4))
  pub up_is : up ≡ slice_index xs (quad_column Quad (i / 4) (keeping (i % 4) f))
  pub down_is : down ≡ slice_index xs (quad_column Quad gluing.tet (keeping (image gluing.perm (i % 4)) (image gluing.perm f)))
