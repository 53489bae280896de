-- The components of a surface, from what is stored of each.
use Rattle.std.specs.Prelude.{ℕ, Bool, true, List, [], length, map}
use Rattle.std.specs.List.{slice_index_or}
use Rattle.table_definitions.specs.Lists.{below}
use Rattle.surface_vector_definitions.specs.Components.{Component}

-- component i, by its vector, whether it is two-sided, and whether it is orientable
abbrev pub component_at : List (List ℕ) → List Bool → List Bool → ℕ → Component
component_at vectors two_sided orientable i =
    record { vector = slice_index_or vectors i []; two_sided = slice_index_or two_sided i true; orientable = slice_index_or orientable i true }

abbrev pub all_components : List (List ℕ) → List Bool → List Bool → List Component
all_components vectors two_sided orientable = map (component_at vectors two_sided orientable) (below (length vectors))

-- a component in place of one that does not exist
abbrev pub no_component : Component
no_component = record { vector = []; two_sided = true; orientable = true }
