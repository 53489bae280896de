-- Sums, components and crushed tables, computed.
use Rattle.surface_definitions.proofs.Computed.{computed}
use Rattle.std.proofs.Common.{◌≡◌, ℕ, ℤ, pos, Bool, true, false, List, [], ◌∷◌, refl}
use Rattle.std.specs.Prelude.{sum}
use Rattle.table_definitions.specs.Table.{Row}
use Rattle.surface_definitions.specs.declared.Coords.{Coords}
use Rattle.surface_definitions.specs.declared.Coords.TheVariants.{Standard, Octagon}
use Rattle.surface_definitions.specs.Pieces.{component_vector}
use Rattle.surface_definitions.specs.Characteristic.{points, arcs, is_linking, meets_boundary}
use Rattle.skeleton_definitions.specs.Links.{euler_of as euler}
use Rattle.surface_definitions.specs.Lift.{projected}
use Rattle.skeleton_definitions.proofs.Evaluators.{edge_classes, count_of}
use Rattle.surface_definitions.proofs.SurfaceEvaluators.{component_classes, is_two_sided, is_orientable_component, crushed}
use Rattle.table_definitions.proofs.Tables.{sphere, table_jj, row, by, free}

-- points, arcs, pieces and the Euler characteristic of a vector
sums : List Row → Coords → List ℕ → ℕ × ℕ × ℕ × ℤ
sums rows coords xs = (p, a, sum xs, euler p a (sum xs))
  where
    p : ℕ
    p = points coords xs (edge_classes rows) (count_of (edge_classes rows))

    a : ℕ
    a = arcs rows coords xs

-- components, and of component 0 the sides, the orientation and the vector
component : List Row → Coords → List ℕ → ℕ × Bool × Bool × List ℕ
component rows coords xs = (count_of cs, is_two_sided rows coords xs cs 0, is_orientable_component rows coords xs cs 0, component_vector xs cs 0)
  where
    cs : List ℕ
    cs = component_classes rows coords xs

one_quad : List ℕ
one_quad = 0 ∷ 0 ∷ 0 ∷ 0 ∷ 0 ∷ 1 ∷ 0 ∷ []

two_quads : List ℕ
two_quads = 0 ∷ 0 ∷ 0 ∷ 0 ∷ 0 ∷ 2 ∷ 0 ∷ []

vertex_link : List ℕ
vertex_link = 1 ∷ 1 ∷ 1 ∷ 1 ∷ 0 ∷ 0 ∷ 0 ∷ []

sphere_surface : List ℕ
sphere_surface = 1 ∷ 1 ∷ 0 ∷ 0 ∷ 1 ∷ 0 ∷ 0 ∷ []

octagon : List ℕ
octagon = 0 ∷ 0 ∷ 1 ∷ 1 ∷ 0 ∷ 0 ∷ 0 ∷ 1 ∷ 0 ∷ 0 ∷ []

characteristics : (sums sphere Standard sphere_surface ≡ (2, 5, 3, pos 0)) × (sums sphere Octagon octagon ≡ (6, 7, 3, pos 2))
    × (sums table_jj Standard one_quad ≡ (1, 2, 1, pos 0)) × (sums table_jj Standard vertex_link ≡ (4, 6, 4, pos 2))
unfolding computed sums one_quad vertex_link sphere_surface octagon
characteristics = (refl, refl, refl, refl)

components : (component table_jj Standard one_quad ≡ (1, false, false, one_quad)) × (component table_jj Standard two_quads ≡ (1, true, true, two_quads))
    × (component table_jj Standard vertex_link ≡ (1, true, true, vertex_link)) × (component sphere Standard sphere_surface ≡ (1, true, true, sphere_surface))
    × (component sphere Octagon octagon ≡ (1, true, true, octagon))
unfolding computed component one_quad two_quads vertex_link sphere_surface octagon
components = (refl, refl, refl, refl, refl)

linking : (is_linking Standard vertex_link ≡ true) × (is_linking Standard one_quad ≡ false) × (meets_boundary sphere Standard vertex_link ≡ false)
unfolding computed one_quad vertex_link
linking = (refl, refl, refl)

-- the crushed table of a face that is followed through a tetrahedron
crush : (crushed sphere sphere_surface ≡ []) × (crushed sphere vertex_link ≡ sphere)
    × (crushed (row (by 1 0) (by 1 0) free free ∷ row (by 0 0) (by 0 0) free free ∷ []) (1 ∷ 1 ∷ 0 ∷ 0 ∷ 0 ∷ 0 ∷ 0 ∷ 0 ∷ 0 ∷ 0 ∷ 0 ∷ 1 ∷ 0 ∷ 0 ∷ [])
    ≡ row (by 0 6) (by 0 6) free free ∷ [])
unfolding computed sphere_surface vertex_link
crush = (refl, refl, refl)

quads_only : projected 1 sphere_surface ≡ 1 ∷ 0 ∷ 0 ∷ []
unfolding computed sphere_surface
quads_only = refl
