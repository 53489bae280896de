-- Points less arcs plus pieces of a connected surface are at most 2.
use Rattle.std.proofs.Common.{◌≡◌, ℕ, ◌+◌, ◌<◌, ◌*◌, ◌≤◌, pos, ◌<ℤ◌, ◌≤ℤ◌, List, None, ◌⊎◌, inl, inr, arith}
use Rattle.std.specs.Prelude.{sum}
use Rattle.std.proofs.lemmas.Bool.{cases_eq}
use Rattle.std.proofs.lemmas.Int.{ints}
use Rattle.table_definitions.specs.Classes.{least}
use Rattle.table_definitions.specs.Places.{HasValidEdges}
use Rattle.skeleton_definitions.specs.Skeleton.{Skeleton, IsSkeleton, IsFirstInvalid}
use Rattle.surface_definitions.specs.Characteristic.{points, arcs}
use Rattle.skeleton_definitions.specs.Links.{euler_of as euler}
use Rattle.surface_definitions.specs.declared.Coords.{Coords}
use Rattle.surface_definitions.specs.declared.Coords.TheVariants.{Octagon}
use Rattle.surface_definitions.specs.Pieces.{AreComponents, component_vector}
use Rattle.surface_laws.specs.MatchingLaws.{HasTriangles}
use Rattle.surface_laws.specs.PieceLaws.{IsSurface, ArePieceNumbers}
use Rattle.surface_laws.proofs.Offsets.{piece_numbers}
use Rattle.surface_quad_laws.proofs.InnerEdges.{start_below}
use Rattle.surface_efficiency_laws.specs.Laws.{IsPositive, IsConnectedSurface}
use Rattle.surface_efficiency_laws.specs.Octagons.{octagons, HasOctagonalSphereNumbers}
use Rattle.surface_efficiency_laws.proofs.Connected.{vertex_surface_connected}
use Rattle.surface_euler_laws.proofs.ArcList.{length-arc_list}
use Rattle.surface_euler_laws.proofs.ComponentsConnected.{component_connected}
use Rattle.surface_euler_laws.proofs.ArcNumbers.{piece_on, piece_behind, left_point, right_point}
use Rattle.surface_euler_laws.proofs.Joined.{are_polygons}
use Rattle.surface_euler_laws.proofs.Labels.{weights, all_points}
use Rattle.surface_euler_laws.proofs.TwoForests.{at_most_two}
use Rattle.surface_vector_definitions.specs.Properties.{characteristic}
use Rattle.surface_agreement_laws.specs.VertexSurfaces.{IsVertexSurfaceOf}

limited : (p a r m : ℕ) → p + r ≤ a + 2 * m → euler p a r ≤ℤ pos (2 * m)
limited p a r m h = omega (arith, ints)

pub at_most_two_each : (s : Skeleton) (coords : Coords) (xs components : List ℕ) (count : ℕ) → IsSkeleton s → IsFirstInvalid s None → IsSurface s.rows coords xs → AreComponents s.rows coords xs components count
    → characteristic s coords xs ≤ℤ pos (2 * count)
at_most_two_each s coords xs components count k valid w c =
    let all = at_most_two _ _ _ count (piece_on s k valid coords xs w) (piece_behind s k valid coords xs w) (left_point s k valid coords xs w) (right_point s k valid coords xs w) (are_polygons s k valid coords xs w components count c) in
    let a : ArePieceNumbers xs = piece_numbers xs in
    let b : ArePieceNumbers (weights s k valid coords xs w) = piece_numbers (weights s k valid coords xs w) in
    limited (points coords xs s.edges.classes s.edges.count) (arcs s.rows coords xs) (sum xs) count
    (omega (arith, a.count, b.count, all_points s k valid coords xs w, length-arc_list s.rows coords xs w))

pub connected_at_most_two : (s : Skeleton) (coords : Coords) (xs : List ℕ) → IsSkeleton s → IsFirstInvalid s None → IsConnectedSurface s coords xs → characteristic s coords xs ≤ℤ pos 2
connected_at_most_two s coords xs k valid c = at_most_two_each s coords xs c.components 1 k valid c.surface c.one

pub component_at_most_two : (s : Skeleton) (coords : Coords) (xs components : List ℕ) (count i : ℕ) → IsSkeleton s → IsFirstInvalid s None → IsSurface s.rows coords xs → AreComponents s.rows coords xs components count → i < count
    → characteristic s coords (component_vector xs components i) ≤ℤ pos 2
component_at_most_two s coords xs components count i k valid w c l =
    connected_at_most_two s coords (component_vector xs components i) k valid (component_connected s coords xs components count c w i l)

pub vertex_at_most_two : (s : Skeleton) (coords : Coords) (xs : List ℕ) → IsSkeleton s → IsFirstInvalid s None → HasTriangles coords
    → IsVertexSurfaceOf s coords xs → characteristic s coords xs ≤ℤ pos 2
vertex_at_most_two s coords xs k valid h v = connected_at_most_two s coords xs k valid (vertex_surface_connected s coords xs k.table h v)

one_or_two : (p a r : ℕ) → pos 0 <ℤ euler p a r → euler p a r ≤ℤ pos 2 → (euler p a r ≡ pos 1) ⊎ (euler p a r ≡ pos 2)
one_or_two p a r h l = by_case (cases_eq (p + r) (a + 1))
  where
    by_case : (p + r ≡ a + 1) ⊎ (p + r ≡ a + 1 → ⊥) → (euler p a r ≡ pos 1) ⊎ (euler p a r ≡ pos 2)
    by_case (inl e) = inl (omega (arith, ints))
    by_case (inr ne) = inr (omega (arith, ints))

pub positive_one_or_two : (s : Skeleton) (coords : Coords) (xs : List ℕ) → IsSkeleton s → IsFirstInvalid s None → IsConnectedSurface s coords xs → IsPositive s coords xs
    → (characteristic s coords xs ≡ pos 1) ⊎ (characteristic s coords xs ≡ pos 2)
positive_one_or_two s coords xs k valid c h =
    one_or_two (points coords xs s.edges.classes s.edges.count) (arcs s.rows coords xs) (sum xs) h (connected_at_most_two s coords xs k valid c)

one_and_two : (o p a r : ℕ) → 1 ≤ o → pos (2 * o) ≤ℤ euler p a r → euler p a r ≤ℤ pos 2 → (o ≡ 1) × (euler p a r ≡ pos 2)
one_and_two o p a r some h l = (omega (arith, ints), omega (arith, ints))

pub twice_are_spheres : (s : Skeleton) (xs : List ℕ) → IsSkeleton s → IsFirstInvalid s None → IsConnectedSurface s Octagon xs → HasOctagonalSphereNumbers s xs
    → (octagons s xs ≡ 1) × (characteristic s Octagon xs ≡ pos 2)
twice_are_spheres s xs k valid c h =
    one_and_two (octagons s xs) (points Octagon xs s.edges.classes s.edges.count) (arcs s.rows Octagon xs) (sum xs) h.some h.twice (connected_at_most_two s Octagon xs k valid c)

-- no edge class is invalid if no edge is
pub no_first_invalid : (s : Skeleton) → IsSkeleton s → HasValidEdges s.rows → IsFirstInvalid s None
no_first_invalid s k valid c lc invalid = valid (least s.edges.classes c) (start_below s.rows k.table s.edges.classes s.edges.count k.edges c lc) invalid
