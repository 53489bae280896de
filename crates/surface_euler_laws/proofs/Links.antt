-- A vertex link is a connected surface, so it has Euler characteristic at most 2.
use Rattle.std.proofs.Common.{◌≡◌, ℕ, ◌<◌, pos, ◌≤ℤ◌, None, refl, sym, subst}
use Rattle.std.specs.Prelude.{sum}
use Rattle.skeleton_definitions.specs.Skeleton.{Skeleton, IsSkeleton, IsFirstInvalid}
use Rattle.skeleton_definitions.specs.declared.Link.{Link}
use Rattle.surface_definitions.specs.Characteristic.{points, arcs, is_linking, meets_boundary}
use Rattle.surface_definitions.specs.declared.Coords.TheVariants.{Standard}
use Rattle.surface_definitions.specs.Pieces.{AreComponents}
use Rattle.surface_vector_definitions.specs.Properties.{AreProperties, characteristic}
use Rattle.surface_vector_definitions.specs.declared.Properties.{Properties}
use Rattle.surface_laws.specs.PieceLaws.{IsSurface, HasComponents}
use Rattle.surface_laws.proofs.ComponentsFound.{components_found}
use Rattle.surface_quad_laws.specs.LinkLaws.{link_of}
use Rattle.surface_quad_laws.proofs.VertexLinks.{link_surface}
use Rattle.surface_quad_lift_laws.specs.Laws.{HasLink}
use Rattle.surface_link_laws.proofs.Agreement.{vertices_and_euler}
use Rattle.surface_link_laws.proofs.Components.{one_component}
use Rattle.surface_efficiency_laws.specs.Laws.{IsConnectedSurface}
use Rattle.surface_euler_laws.proofs.AtMostTwo.{connected_at_most_two}

link_connected : (s : Skeleton) (c : ℕ) → IsSkeleton s → c < s.vertices.count → IsConnectedSurface s Standard (link_of s Standard c)
link_connected s c k lc =
    let w : IsSurface s.rows Standard (link_of s Standard c) = (link_surface s k c Standard tt).surface in
    let f : HasComponents s.rows Standard (link_of s Standard c) = components_found s.rows Standard (link_of s Standard c) w in
    record { surface = w; components = f.components; one = subst (AreComponents s.rows Standard (link_of s Standard c) f.components) (one_component s k c Standard tt lc f.components f.count f.are) f.are }

properties : (s : Skeleton) (c : ℕ) → (p : Properties) × AreProperties s Standard (link_of s Standard c) p × (p.euler ≡ characteristic s Standard (link_of s Standard c))
properties s c =
    let p : Properties = record {
      points = points Standard (link_of s Standard c) s.edges.classes s.edges.count;
      arcs = arcs s.rows Standard (link_of s Standard c);
      pieces = sum (link_of s Standard c);
      euler = characteristic s Standard (link_of s Standard c);
      linking = is_linking Standard (link_of s Standard c);
      boundary = meets_boundary s.rows Standard (link_of s Standard c);
    } in
    (p, record { points = refl; arcs = refl; pieces = refl; euler = refl; linking = refl; boundary = refl }, refl)

pub link_at_most_two : (s : Skeleton) (c : ℕ) (link : Link) → IsSkeleton s → IsFirstInvalid s None → c < s.vertices.count → HasLink s c link → link.euler ≤ℤ pos 2
link_at_most_two s c link k valid lc l =
    let p = properties s c in
    let e = (vertices_and_euler s Standard c link p.0 k tt l p.1 valid).1 in
    subst (λ z. z ≤ℤ pos 2) e (subst (λ z. z ≤ℤ pos 2) (sym p.2) (connected_at_most_two s Standard (link_of s Standard c) k valid (link_connected s c k lc)))
