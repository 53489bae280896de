-- Inside a canonical surface of positive Euler characteristic lies a listed one.
use Rattle.std.proofs.Common.{ℕ, List, length}
use Rattle.cone_definitions.proofs.Unions.{ray_listed}
use Rattle.skeleton_definitions.specs.Skeleton.{Skeleton}
use Rattle.surface_definitions.specs.Coordinates.{columns, clash_list}
use Rattle.surface_definitions.specs.declared.Coords.{Coords}
use Rattle.surface_definitions.specs.Characteristic.{arcs}
use Rattle.surface_definitions.specs.Equations.{matching_rows}
use Rattle.surface_laws.specs.PieceLaws.{IsSurface}
use Rattle.surface_efficiency_laws.specs.Laws.{IsPositive, HasPositiveInside}
use Rattle.surface_efficiency_laws.proofs.Descents.{HasMoreInside, more_inside}
use Rattle.surface_efficiency_laws.proofs.Measures.{points_and_pieces, points_and_pieces_linear, arcs_linear, positive_is, is_positive}
use Rattle.surface_agreement_laws.specs.VertexSurfaces.{IsSurfaceListOf}
use Rattle.surface_quad_laws.specs.LinkLaws.{IsCanonical}
use Rattle.surface_quad_laws.proofs.Canonical.{inside_canonical}

pub positive_inside : (s : Skeleton) (coords : Coords) (surfaces : List (List ℕ)) (x : List ℕ) → IsSurfaceListOf s coords surfaces
    → IsSurface s.rows coords x → IsCanonical s coords x → IsPositive s coords x → HasPositiveInside s coords surfaces x
positive_inside s coords surfaces x list surface canonical positive = record {
  v = found.v;
  listed = ray_listed n (matching_rows coords s.rows) (clash_list coords (length s.rows)) surfaces x found.v list surface.admissible found.ray found.inside;
  inside = found.inside;
  canonical = inside_canonical s coords found.v x found.inside canonical;
  positive = is_positive s coords n found.v found.ray.extreme.solution.width found.more;
}
  where
    n : ℕ
    n = columns coords (length s.rows)

    found : HasMoreInside n (matching_rows coords s.rows) (points_and_pieces s coords n) (λ xs. arcs s.rows coords xs) (points_and_pieces_linear s coords n) (arcs_linear s coords) x
    found = more_inside n (matching_rows coords s.rows) (points_and_pieces s coords n) (λ xs. arcs s.rows coords xs) (points_and_pieces_linear s coords n) (arcs_linear s coords) x
        surface.solves (positive_is s coords n x surface.solves.width positive)
