-- Sides, directions and faces, counted by their classes.
use Rattle.std.proofs.Common.{◌≡◌, ℕ, ◌+◌, ◌*◌, ◌<◌, true, List, length, Option, Some, None, refl, sym, ap, ◌∙◌, arith}
use Rattle.std.specs.Prelude.{not, is_none, count_by}
use Rattle.table_definitions.specs.Lists.{below, times_in}
use Rattle.table_definitions.specs.Places.{is_boundary, is_closed}
use Rattle.table_definitions.specs.Table.{Gluing, Row, Face, glue}
use Rattle.table_definitions.proofs.Tests.{each_face}
use Rattle.skeleton_laws.specs.Counts.{LinkEdgesAreSides, EdgesHaveTwoDirections, FacesHaveTwoSides}
use Rattle.skeleton_laws.proofs.EdgeDirections.{two_directions}
use Rattle.skeleton_laws.proofs.FaceSides.{two_sides}
use Rattle.skeleton_laws.proofs.Sides.{free_side, frees_are}
use Rattle.skeleton_laws.proofs.TwiceEdges.{twice_edges}

pub link_edges_are_sides : LinkEdgesAreSides
link_edges_are_sides rows classes count c table numbered =
    twice_edges rows table classes count numbered c
    ∙ ap (λ m. 3 * times_in classes c + m) (sym (frees_are classes c rows ∙ ap (λ n. count_by (free_side rows classes c) (below (4 * n))) numbered.one_each))

twice : (e : ℕ) → e + e ≡ 2 * e
twice e = omega arith

pub edges_have_two_directions : EdgesHaveTwoDirections
edges_have_two_directions rows edges directions e d table valid of_edges of_directions = two_directions rows edges e of_edges directions d of_directions valid ∙ twice e

-- in a closed table each face is glued
glued_at : (rows : List Row) → is_closed rows ≡ true → (x : Face) → x.tet < length rows → x.face < 4 → (g : Gluing) × (glue rows x ≡ Some g)
glued_at rows e x lt lf = go (glue rows x) (each_face (λ y. not (is_boundary rows y)) (length rows) e x lt lf)
  where
    go : (o : Option Gluing) → not (is_none o) ≡ true → (g : Gluing) × (o ≡ Some g)
    go None t = absurd cc
    go (Some g) t = (g, refl)

pub faces_have_two_sides : FacesHaveTwoSides
faces_have_two_sides rows faces f table closed of_faces = two_sides rows table faces f of_faces (glued_at rows closed) ∙ twice f
