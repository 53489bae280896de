-- The Euler characteristics agree, since all their terms do.
use Rattle.std.proofs.Common.{◌≡◌, ℕ, ◌+◌, ◌+ℤ◌, ℤ, pos, List, [], ◌∷◌, length, not, None, Contains, refl, sym, ap, ◌∙◌, arith}
use Rattle.std.proofs.lemmas.Int.{ints}
use Rattle.skeleton_definitions.specs.Links.{euler_of}
use Rattle.skeleton_definitions.specs.Skeleton.{Skeleton, IsSkeleton, IsFirstInvalid}
use Rattle.skeleton_definitions.specs.declared.Link.{Link}
use Rattle.surface_definitions.specs.declared.Coords.{Coords}
use Rattle.surface_vector_definitions.specs.Properties.{AreProperties}
use Rattle.surface_vector_definitions.specs.declared.Properties.{Properties}
use Rattle.surface_laws.specs.MatchingLaws.{HasTriangles}
use Rattle.surface_quad_laws.specs.LinkLaws.{link_of}
use Rattle.surface_quad_lift_laws.specs.Laws.{HasLink}
use Rattle.surface_link_laws.specs.Laws.{HasEdgesAndTriangles, IsInvalidAt, HasOneMoreForEach}
use Rattle.surface_link_laws.proofs.Arcs.{arcs-link}
use Rattle.surface_link_laws.proofs.Boundary.{boundary_is}
use Rattle.surface_link_laws.proofs.Points.{extra, extra_are, points-link}
use Rattle.surface_link_laws.proofs.Triangles.{pieces-link}

as_much_more : (v e t m : ℕ) → euler_of (v + m) e t ≡ euler_of v e t +ℤ pos m
as_much_more v e t m = omega (arith, ints)

no_more : (z : ℤ) → z +ℤ pos 0 ≡ z
no_more z = omega (arith, ints)

no_members : (xs : List ℕ) → ((x : ℕ) → Contains xs x → ⊥) → length xs ≡ 0
no_members [] h = refl
no_members (x ∷ xs) h = absurd (h x (0, omega arith, refl))

module _ (s : Skeleton) (coords : Coords) (c : ℕ) (link : Link) (p : Properties) (k : IsSkeleton s) (h : HasTriangles coords) (l : HasLink s c link) (are : AreProperties s coords (link_of s coords c) p) where
  pub edges_and_triangles : HasEdgesAndTriangles link p
  edges_and_triangles = record {
    arcs = are.arcs ∙ arcs-link s.rows s.vertices.classes c coords h (k.vertices).one_each ∙ sym (l.is_link).edges;
    pieces = are.pieces ∙ pieces-link (length s.rows) s.vertices.classes c coords h (k.vertices).one_each ∙ sym (l.is_link).triangles;
    boundary = are.boundary ∙ boundary_is s.rows s.vertices.classes c coords h (k.vertices).one_each ∙ ap not (sym (l.is_link).closed);
  }

  pub vertices_and_more : HasOneMoreForEach s c link p
  vertices_and_more =
      let more : List ℕ = extra s k c l.directions l.count l.numbered in
      let points : p.points ≡ link.vertices + length more = are.points ∙ points-link s k c l.directions l.count l.numbered coords h ∙ ap (λ m. m + length more) (sym (l.is_link).vertices) in
      let e : HasEdgesAndTriangles link p = edges_and_triangles in
      record {
        edges = more;
        are = extra_are s k c l.directions l.count l.numbered;
        points = points;
        euler = are.euler ∙ (λ i. euler_of (points i) (e.arcs i) (e.pieces i)) ∙ as_much_more link.vertices link.edges link.triangles (length more) ∙ ap (λ z. z +ℤ pos (length more)) (sym (l.is_link).euler);
      }

  pub vertices_and_euler : IsFirstInvalid s None → (p.points ≡ link.vertices) × (p.euler ≡ link.euler)
  vertices_and_euler valid =
      let v : HasOneMoreForEach s c link p = vertices_and_more in
      let none : length v.edges ≡ 0 = no_members v.edges (λ e m. let i : IsInvalidAt s c e = ((v.are).each e).0 m in valid e i.in_range i.invalid) in
      (v.points ∙ ap (λ m. link.vertices + m) none ∙ omega arith, v.euler ∙ ap (λ m. link.euler +ℤ pos m) none ∙ no_more link.euler)
