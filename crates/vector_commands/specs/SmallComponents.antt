-- Components of a surface none of whose sums exceeds the limit.
use Rattle.std.specs.Prelude.{◌≡◌, ℕ, ◌<◌, List, length, None}
use Rattle.std.specs.List.{slice_index_or}
use Rattle.text_definitions.specs.Written.{limit}
use Rattle.skeleton_definitions.specs.Skeleton.{Skeleton}
use Rattle.surface_definitions.specs.Coordinates.{columns}
use Rattle.surface_definitions.specs.declared.Coords.{Coords}
use Rattle.surface_vector_definitions.specs.Components.{Component}
use Rattle.surface_vector_definitions.specs.Properties.{first_large}
use Rattle.surface_pieces.specs.ComponentLists.{no_component}

-- each component's vector has one entry for each column of the table, no sum of it exceeds the limit, and the only
-- component of a surface is the surface
pub record AreSmall (s : Skeleton) (coords : Coords) (xs : List ℕ) (components : List Component) : Type 0 where
  pub width : (i : ℕ) → i < length components → length (slice_index_or components i no_component).vector ≡ columns coords (length s.rows)
  pub small : (i : ℕ) → i < length components → first_large limit s coords (slice_index_or components i no_component).vector ≡ None
  pub only : length components ≡ 1 → (slice_index_or components 0 no_component).vector ≡ xs
