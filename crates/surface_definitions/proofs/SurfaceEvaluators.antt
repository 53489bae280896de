-- Slow ways to compute components of surfaces and crushed tables, for the examples.
use Rattle.std.proofs.Common.{ℕ, zero, suc, ◌+◌, ◌-◌, ◌*◌, ◌/◌, ◌%◌, Bool, true, List, [], length, map, Option, Some, None}
use Rattle.std.specs.Prelude.{◌==◌, ◌||◌, not, if◌then◌else◌, option_map, filter, filter_map, slice_index}
use Rattle.std.specs.List.{flat_map, list_all}
use Rattle.table_definitions.specs.Lists.{below}
use Rattle.table_definitions.specs.Permutation.{four, is_odd, others}
use Rattle.table_definitions.specs.Table.{Gluing, Row, Face, glue, faces}
use Rattle.surface_definitions.specs.declared.Coords.{Coords}
use Rattle.surface_definitions.specs.Pieces.{Arc, arcs_around, discs_of, disc_of, arc_across, disc_number, keeps_sides}
use Rattle.surface_definitions.specs.Crushing.{is_removed, passed, renumbered}
use Rattle.skeleton_definitions.proofs.Evaluators.{classes_of}

-- all arcs in glued faces, each with the gluing
abbrev pub arcs_at : Coords → List ℕ → Face → Option Gluing → List (Arc × Gluing)
arcs_at coords xs x None = []
arcs_at coords xs x (Some g) =
    flat_map (λ v. map (λ k. (record { tet = x.tet; face = x.face; vertex = v; place = k }, g)) (below (arcs_around coords xs x.tet x.face v))) (others x.face)

abbrev pub meeting_arcs : List Row → Coords → List ℕ → List (Arc × Gluing)
meeting_arcs rows coords xs = flat_map (λ x. arcs_at coords xs x (glue rows x)) (faces (length rows))

-- a meeting as the numbers of the two pieces and a test of the arc
abbrev pub meetings : List Row → Coords → List ℕ → (Arc → Gluing → Bool) → List (ℕ × ℕ × Bool)
meetings rows coords xs stays =
    map (λ (m : Arc × Gluing). (disc_number xs (disc_of coords xs m.0), disc_number xs (disc_of coords xs (arc_across m.1 m.0)), stays m.0 m.1)) (meeting_arcs rows coords xs)

abbrev pub neighbours_in : List (ℕ × ℕ × Bool) → ℕ → List ℕ
neighbours_in ms i = filter_map (λ (m : ℕ × ℕ × Bool). if m.0 == i then Some m.1 else None) ms

abbrev pub component_classes : List Row → Coords → List ℕ → List ℕ
component_classes rows coords xs = classes_of (neighbours_in ms) (length (discs_of xs))
  where
    ms : List (ℕ × ℕ × Bool)
    ms = meetings rows coords xs (λ a g. true)

abbrev pub signed_neighbours : List (ℕ × ℕ × Bool) → ℕ → List ℕ
signed_neighbours ms i = filter_map (λ (m : ℕ × ℕ × Bool). if m.0 == i / 2 then Some (2 * m.1 + (if m.2 then i % 2 else 1 - i % 2)) else None) ms

-- no chain of meeting arcs joins a piece of the component with the one sign to itself with the other
abbrev pub has_signs : List Row → Coords → List ℕ → List ℕ → ℕ → (Arc → Gluing → Bool) → Bool
has_signs rows coords xs components component stays =
    list_all (λ i. not (slice_index components i == component) || not (slice_index doubled (2 * i) == slice_index doubled (2 * i + 1))) (below (length components))
  where
    doubled : List ℕ
    doubled = classes_of (signed_neighbours (meetings rows coords xs stays)) (2 * length components)

abbrev pub is_two_sided : List Row → Coords → List ℕ → List ℕ → ℕ → Bool
is_two_sided rows coords xs components component = has_signs rows coords xs components component (keeps_sides coords xs)

abbrev pub is_orientable_component : List Row → Coords → List ℕ → List ℕ → ℕ → Bool
is_orientable_component rows coords xs components component =
    has_signs rows coords xs components component (λ a g. if is_odd g.perm then keeps_sides coords xs a g else not (keeps_sides coords xs a g))

-- a face followed through at most n tetrahedra that are taken out
abbrev pub followed : ℕ → List Row → List ℕ → Face → Option Gluing → Option Gluing
followed zero rows xs x o = o
followed (suc n) rows xs x None = None
followed (suc n) rows xs x (Some g) = if is_removed xs g.tet then followed n rows xs x (passed rows xs x g) else Some g

-- what face f of tetrahedron t becomes
abbrev pub crushed_gluing : List Row → List ℕ → ℕ → ℕ → Option Gluing
crushed_gluing rows xs t f = option_map (renumbered xs) (followed (4 * length rows) rows xs (record { tet = t; face = f }) (glue rows (record { tet = t; face = f })))

abbrev pub crushed_row : List Row → List ℕ → ℕ → Row
crushed_row rows xs t = map (crushed_gluing rows xs t) four

abbrev pub crushed : List Row → List ℕ → List Row
crushed rows xs = map (crushed_row rows xs) (filter (λ t. not (is_removed xs t)) (below (length rows)))
