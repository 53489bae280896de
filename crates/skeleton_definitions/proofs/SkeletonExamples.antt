-- Classes, links and walks, computed.
use Rattle.skeleton_definitions.proofs.Computed.{computed}
use Rattle.std.proofs.Common.{◌≡◌, ℕ, pos, true, false, [], ◌∷◌, map, refl}
use Rattle.table_definitions.specs.Places.{is_closed, is_boundary_edge, IsInvalidEdge}
use Rattle.table_definitions.specs.Classes.{degree}
use Rattle.skeleton_definitions.specs.declared.LinkKind.TheVariants.{Sphere, Disc, Torus, Klein}
use Rattle.skeleton_definitions.specs.Corners.{Corner, first_corner, internal_edges}
use Rattle.skeleton_definitions.proofs.Evaluators.{vertex_classes, edge_classes, face_classes, components, count_of, link_of, walk_from, is_orientable}
use Rattle.table_definitions.proofs.Tables.{sphere, table_id, figure_eight, invalid}

sphere_classes : (vertex_classes sphere ≡ 0 ∷ 0 ∷ 0 ∷ 0 ∷ []) × (edge_classes sphere ≡ 0 ∷ 0 ∷ 0 ∷ 0 ∷ 0 ∷ 1 ∷ []) × (face_classes sphere ≡ 0 ∷ 0 ∷ 1 ∷ 1 ∷ [])
unfolding computed
sphere_classes = (refl, refl, refl)

-- the usual ideal triangulation of the figure eight knot complement: one vertex, two edges of degree 6, four faces, a
-- torus
figure_eight_skeleton : (components figure_eight ≡ 0 ∷ 0 ∷ [])
    × (vertex_classes figure_eight ≡ 0 ∷ 0 ∷ 0 ∷ 0 ∷ 0 ∷ 0 ∷ 0 ∷ 0 ∷ [])
    × (count_of (edge_classes figure_eight) ≡ 2)
    × (map (degree (edge_classes figure_eight)) (0 ∷ 1 ∷ []) ≡ 6 ∷ 6 ∷ [])
    × (count_of (face_classes figure_eight) ≡ 4)
    × (is_orientable figure_eight ≡ true) × (is_closed figure_eight ≡ true)
unfolding computed
figure_eight_skeleton = (refl, refl, refl, refl, refl, refl, refl)

links : (link_of figure_eight 0 ≡ record { triangles = 8; edges = 12; vertices = 4; euler = pos 0; closed = true; orientable = true; kind = Torus })
    × (link_of table_id 0 ≡ record { triangles = 4; edges = 6; vertices = 2; euler = pos 0; closed = true; orientable = false; kind = Klein })
    × (link_of sphere 0 ≡ record { triangles = 4; edges = 6; vertices = 4; euler = pos 2; closed = true; orientable = true; kind = Sphere })
unfolding computed
links = (refl, refl, refl)

-- 0:1032 0:1032 - -, with an invalid edge: the chain across face 0 joins edge 23 to its own reverse
invalid_skeleton : (is_orientable invalid ≡ false) × (is_closed invalid ≡ false)
    × (vertex_classes invalid ≡ 0 ∷ 0 ∷ 1 ∷ 1 ∷ [])
    × (map (λ c. (link_of invalid c).kind) (0 ∷ 1 ∷ []) ≡ Disc ∷ Disc ∷ [])
    × (map (λ c. (link_of invalid c).euler) (0 ∷ 1 ∷ []) ≡ pos 1 ∷ pos 1 ∷ [])
    × (count_of (face_classes invalid) ≡ 3)
    × (map (degree (edge_classes invalid)) (0 ∷ 1 ∷ 2 ∷ 3 ∷ []) ≡ 1 ∷ 2 ∷ 2 ∷ 1 ∷ [])
    × (map (is_boundary_edge invalid (edge_classes invalid)) (0 ∷ 1 ∷ 2 ∷ 3 ∷ []) ≡ true ∷ true ∷ true ∷ false ∷ [])
    × IsInvalidEdge invalid 5
unfolding computed
invalid_skeleton = (refl, refl, refl, refl, refl, refl, refl, refl, (0 ∷ [], refl))

corner : ℕ → ℕ → ℕ → ℕ → Corner
corner a b c d = record { tet = 0; a = a; b = b; c = c; d = d }

-- the tour around edge class 0, and the internal edges
sphere_walk : (walk_from sphere (first_corner 0) ≡ corner 0 1 2 3 ∷ corner 1 2 0 3 ∷ corner 0 2 3 1 ∷ corner 3 1 0 2 ∷ corner 3 0 2 1 ∷ [])
    × (internal_edges sphere (edge_classes sphere) 2 ≡ 0 ∷ 1 ∷ [])
unfolding computed corner
sphere_walk = (refl, refl)
