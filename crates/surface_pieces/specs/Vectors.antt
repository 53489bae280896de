-- The vectors of the components.
use Rattle.std.specs.Prelude.{◌≡◌, ℕ, ◌<◌, List, [], length}
use Rattle.std.specs.List.{slice_index_or}
use Rattle.surface_definitions.specs.Pieces.{component_vector}

pub record AreVectors (xs components : List ℕ) (count : ℕ) (vectors : List (List ℕ)) : Type 0 where
  pub size : length vectors ≡ count
  pub each : (i : ℕ) → i < count → slice_index_or vectors i [] ≡ component_vector xs components i
