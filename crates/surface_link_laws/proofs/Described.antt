-- The answer for the components of a vertex link: there is one, the link itself.
use Rattle.std.proofs.Common.{◌≡◌, ℕ, ◌<◌, List, [], ◌∷◌, refl, ◌∙◌, subst}
use Rattle.std.specs.List.{AllZip}
use Rattle.std.specs.Cmp.{both_ways}
use Rattle.table_definitions.specs.Lists.{below}
use Rattle.skeleton_definitions.specs.Skeleton.{Skeleton, IsSkeleton}
use Rattle.skeleton_definitions.specs.declared.Link.{Link}
use Rattle.surface_definitions.specs.declared.Coords.{Coords}
use Rattle.surface_vector_definitions.specs.Components.{Component, IsComponent, AreListedComponents}
use Rattle.surface_laws.specs.MatchingLaws.{HasTriangles}
use Rattle.surface_quad_laws.specs.LinkLaws.{link_of}
use Rattle.surface_quad_lift_laws.specs.Laws.{HasLink}
use Rattle.surface_link_laws.specs.Laws.{IsOneComponentOfLink}
use Rattle.surface_link_laws.proofs.Components.{one_component, whole_vector}
use Rattle.surface_link_laws.proofs.Sides.{two_sides, orientable_alike}

-- one component is listed
record IsSingle (P : ℕ → Component → Type 0) (listed : List Component) : Type 0 where
  component : Component
  alone : listed ≡ component ∷ []
  reported : P 0 component

single : (P : ℕ → Component → Type 0) (listed : List Component) → AllZip P (0 ∷ []) listed → IsSingle P listed
single P [] h = absurd h
single P (x ∷ []) h = record { component = x; alone = refl; reported = h.0 }
single P (x ∷ y ∷ more) h = absurd h.1

pub described : (s : Skeleton) (coords : Coords) (c : ℕ) (link : Link) (listed : List Component) → IsSkeleton s → HasTriangles coords → c < s.vertices.count → HasLink s c link
    → AreListedComponents s.rows coords (link_of s coords c) listed → IsOneComponentOfLink s coords c link listed
described s coords c link listed k h lc l are =
    let one : are.count ≡ 1 = one_component s k c coords h lc are.classes are.count are.numbered in
    let x : IsSingle (IsComponent s.rows coords (link_of s coords c) are.classes) listed = single (IsComponent s.rows coords (link_of s coords c) are.classes) listed
    (subst (λ m. AllZip (IsComponent s.rows coords (link_of s coords c) are.classes) (below m) listed) one are.each) in
    let reported : IsComponent s.rows coords (link_of s coords c) are.classes 0 x.component = x.reported in
    let alike = orientable_alike s k c coords h lc are.classes are.count are.numbered in
    record {
      component = x.component;
      alone = x.alone;
      whole = reported.vector ∙ whole_vector s k c coords h lc are.classes are.count are.numbered;
      two_sided = reported.two_sided.1 (two_sides s k c coords h are.classes 0);
      orientable = both_ways x.component.orientable link.orientable
          (λ t. (l.is_link).orientable.1 (alike.0 (reported.orientable.0 t)))
          (λ t. reported.orientable.1 (alike.1 ((l.is_link).orientable.0 t)));
    }
