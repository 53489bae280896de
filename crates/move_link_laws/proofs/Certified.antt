-- The links of a table with a certificate are spheres.
use Rattle.std.proofs.Common.{◌≡◌, ℕ, ◌+◌, ◌*◌, ◌/◌, ◌<◌, Bool, true, false, List, length, map, refl, sym, ap, ◌∙◌, arith}
use Rattle.std.specs.Prelude.{pos}
use Rattle.std.proofs.lemmas.Int.{ints}
use Rattle.std.proofs.lemmas.List.{length-map}
use Rattle.std.proofs.lemmas.List.FromFn.{length-range_with_len, get_or-map-range_with_len}
use Rattle.table_definitions.specs.Lists.{below}
use Rattle.table_definitions.specs.Table.{Row, IsTable}
use Rattle.table_definitions.specs.Permutation.{image}
use Rattle.table_definitions.proofs.Permutations.{image_below}
use Rattle.table_definitions.proofs.TableLaws.{glued_tet}
use Rattle.skeleton_definitions.specs.Orientation.{sign_of, sign_across, AreSigns}
use Rattle.skeleton_definitions.specs.Links.{vertex_number, IsOrientableLink, closed_kind, kind_of, euler_of, link_vertices, link_edges}
use Rattle.skeleton_definitions.specs.Skeleton.{Skeleton}
use Rattle.skeleton_definitions.specs.declared.Link.{Link}
use Rattle.skeleton_definitions.specs.declared.LinkKind.TheVariants.{Sphere}
use Rattle.move_laws.proofs.Certified.{certified_are_orientable}
use Rattle.surface_quad_lift_laws.specs.Laws.{HasLink}
use Rattle.move_link_laws.specs.Certified.{CertifiedHaveValidEdges, IsSphere, CertifiedHaveSphereLinks}
use Rattle.move_link_laws.proofs.Standard.{SphereNumbers}
use Rattle.move_link_laws.proofs.Spheres.{certified_valid, certified_spheres}

pub certified_valid_lem : CertifiedHaveValidEdges
certified_valid_lem = certified_valid

-- the links of an oriented table are oriented
module _ (rows : List Row) (table : IsTable rows) (vs : List ℕ) (long : length vs ≡ 4 * length rows) (c : ℕ) (signs : List Bool) (are : AreSigns rows signs) where
  abbrev at : ℕ → Bool
  at i = sign_of signs (i / 4)

  link_signs : List Bool
  link_signs = map at (below (length vs))

  sign_at : (t v : ℕ) → t < length rows → v < 4 → sign_of link_signs (vertex_number t v) ≡ sign_of signs t
  unfolding link_signs
  sign_at t v lt lv =
      let e : (4 * t + v) / 4 ≡ t = omega arith in
      get_or-map-range_with_len at 0 (length vs) (4 * t + v) (4 * t + v) false (omega arith) (omega arith) ∙ ap (sign_of signs) e

  link_oriented : IsOrientableLink rows vs c
  unfolding link_signs
  link_oriented = (
    link_signs,
    length-map (below (length vs)) at ∙ length-range_with_len 0 (length vs),
    (λ t v f g lv lf ne own e.
        sign_at g.tet (image g.perm v) (table.in_range (record { tet = t; face = f }) g e) (image_below g.perm (table.permutes (record { tet = t; face = f }) g e) v lv)
        ∙ are.agree (record { tet = t; face = f }) g e ∙ ap (sign_across g) (sym (sign_at t v (glued_tet rows (record { tet = t; face = f }) g e) lv))),
  )

two_from : (v e f : ℕ) → v + f ≡ e + 2 → euler_of v e f ≡ pos 2
two_from v e f h = omega (arith, ints)

sphere_kind : (o : Bool) → closed_kind (pos 2) o ≡ Sphere
sphere_kind true = refl
sphere_kind false = refl

-- a link with these numbers and an orientation is a sphere
pub sphere_from : (s : Skeleton) (c : ℕ) (link : Link) (has : HasLink s c link) → SphereNumbers s.rows s.vertices.classes has.directions c → IsOrientableLink s.rows s.vertices.classes c → IsSphere link
sphere_from s c link has numbers oriented =
    let l = has.is_link in
    let closed : link.closed ≡ true = l.closed ∙ numbers.0 in
    let euler : link.euler ≡ pos 2 = l.euler ∙ (λ i. euler_of (l.vertices i) (l.edges i) (l.triangles i)) ∙ two_from (link_vertices s.vertices.classes has.directions c) (link_edges s.rows s.vertices.classes c) _ numbers.1 in
    record {
      closed = closed;
      euler = euler;
      orientable = l.orientable.1 oriented;
      kind = l.kind ∙ (λ i. kind_of (closed i) (euler i) link.orientable) ∙ sphere_kind link.orientable;
    }

pub certified_spheres_lem : CertifiedHaveSphereLinks
certified_spheres_lem s moves c link k certificate lc has =
    let oriented = certified_are_orientable s.rows moves k.table certificate in
    sphere_from s c link has (certified_spheres s.rows moves k.table certificate s.vertices.classes s.vertices.count k.vertices has.directions has.count has.numbered c lc)
    (link_oriented s.rows k.table s.vertices.classes k.vertices.one_each c oriented.0 oriented.1)
