-- Certificates and bounds, computed.
use Rattle.surface_definitions.proofs.Computed.{computed}
use Rattle.std.proofs.Common.{◌≡◌, ◌*◌, [], ◌∷◌, map, refl}
use Rattle.std.specs.Prelude.{◌^◌}
use Rattle.table_definitions.specs.Lists.{below}
use Rattle.table_definitions.proofs.Tables.{figure_eight}
use Rattle.surface_definitions.specs.declared.Coords.TheVariants.{Standard, Quad, Octagon}
use Rattle.surface_definitions.specs.Equations.{matching_rows}
use Rattle.cone_bound_laws.specs.Caps.{plus_in, row_size, column_weight, caps_product}
use Rattle.surface_equation_laws.specs.Caps.{is_free, group_of, cap_of}
use Rattle.surface_equation_laws.specs.Bounds.{number_bound}

groups_standard : map (group_of Standard 2) (4 ∷ 5 ∷ 6 ∷ 11 ∷ 12 ∷ 13 ∷ []) ≡ 0 ∷ 0 ∷ 0 ∷ 1 ∷ 1 ∷ 1 ∷ []
groups_standard = refl

groups_octagon : map (group_of Octagon 2) (4 ∷ 5 ∷ 6 ∷ 7 ∷ 8 ∷ 9 ∷ 14 ∷ 15 ∷ 16 ∷ 17 ∷ 18 ∷ 19 ∷ []) ≡ 0 ∷ 0 ∷ 0 ∷ 2 ∷ 2 ∷ 2 ∷ 1 ∷ 1 ∷ 1 ∷ 2 ∷ 2 ∷ 2 ∷ []
groups_octagon = refl

caps_octagon : map (cap_of Octagon 2) (below 3) ≡ 4 ∷ 4 ∷ 8 ∷ []
caps_octagon = refl

product_octagon : caps_product (cap_of Octagon 2) 3 ≡ 128
unfolding caps_product
product_octagon = refl

-- in both coordinates some columns and all rows reach their bounds
free_entries : map (plus_in (is_free Standard)) (matching_rows Standard figure_eight) ≡ 1 ∷ 1 ∷ 1 ∷ 1 ∷ 1 ∷ 1 ∷ 1 ∷ 1 ∷ 1 ∷ 1 ∷ 1 ∷ 1 ∷ []
unfolding computed
free_entries = refl

columns_standard : map (column_weight (matching_rows Standard figure_eight)) (4 ∷ 5 ∷ 6 ∷ 11 ∷ 12 ∷ 13 ∷ []) ≡ 4 ∷ 4 ∷ 4 ∷ 4 ∷ 4 ∷ 4 ∷ []
unfolding computed
columns_standard = refl

columns_octagon : map (column_weight (matching_rows Octagon figure_eight)) (7 ∷ 8 ∷ 9 ∷ 17 ∷ 18 ∷ 19 ∷ []) ≡ 8 ∷ 8 ∷ 8 ∷ 8 ∷ 8 ∷ 8 ∷ []
unfolding computed
columns_octagon = refl

sizes_standard : map row_size (matching_rows Standard figure_eight) ≡ 4 ∷ 4 ∷ 4 ∷ 4 ∷ 4 ∷ 4 ∷ 4 ∷ 4 ∷ 4 ∷ 4 ∷ 4 ∷ 4 ∷ []
unfolding computed
sizes_standard = refl

sizes_octagon : map row_size (matching_rows Octagon figure_eight) ≡ 8 ∷ 8 ∷ 8 ∷ 8 ∷ 8 ∷ 8 ∷ 8 ∷ 8 ∷ 8 ∷ 8 ∷ 8 ∷ 8 ∷ []
unfolding computed
sizes_octagon = refl

-- the last bounds below 2 ^ 127
last_standard : number_bound Standard 31 ≡ 2 ^ 126
last_standard = refl

last_quad : number_bound Quad 29 ≡ 348 * 2 ^ 116
last_quad = refl

last_octagon : number_bound Octagon 29 ≡ 2 ^ 125
last_octagon = refl
