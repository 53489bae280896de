-- Linear functions of a vector with vertex links; links that are spheres or discs have no negative Euler
-- characteristic.
use Rattle.std.proofs.Common.{◌≡◌, ℕ, ◌+◌, ◌*◌, ◌<◌, ◌≤◌, ◌⊎◌, inl, inr, Bool, true, false, ℤ, pos, negsuc, List, [], ◌∷◌, length, slice_index, sum_by, refl, sym, ap, ◌∙◌, arith}
use Rattle.std.specs.Prelude.{get_or}
use Rattle.std.proofs.Math.Nat.{mul-le-mul_left}
use Rattle.std.proofs.lemmas.Int.{ints}
use Rattle.std.proofs.lemmas.List.{get_or_default}
use Rattle.std.proofs.lemmas.List.Sums.{sum_by-cons}
use Rattle.cone_definitions.specs.Vectors.{multiple, sum_of}
use Rattle.cone_definitions.proofs.Entries.{length-multiple, entry-multiple, length-sum_of, entry-sum_of}
use Rattle.cone_definitions.proofs.Linear.{IsLinear}
use Rattle.table_definitions.specs.Lists.{below}
use Rattle.table_definitions.proofs.TableLaws.{Among}
use Rattle.skeleton_definitions.specs.Links.{kind_of, euler_of, link_vertices}
use Rattle.skeleton_definitions.specs.Skeleton.{Skeleton, IsSkeleton}
use Rattle.skeleton_definitions.specs.declared.Link.{Link}
use Rattle.skeleton_definitions.specs.declared.LinkKind.TheVariants.{Sphere, Disc}
use Rattle.surface_definitions.specs.Characteristic.{points, arcs}
use Rattle.surface_definitions.specs.Coordinates.{columns}
use Rattle.surface_definitions.specs.declared.Coords.TheVariants.{Standard}
use Rattle.surface_quad_laws.specs.LinkLaws.{link_of}
use Rattle.surface_quad_laws.proofs.VertexLinks.{length-link}
use Rattle.surface_quad_lift_laws.specs.Laws.{HasLink, HasSphereAndDiscLinks, IsSphereOrDisc}
use Rattle.surface_quad_lift_laws.proofs.Correspondence.{any_link}
use Rattle.surface_link_laws.proofs.Arcs.{arcs-link}
use Rattle.surface_link_laws.proofs.Points.{extra, points-link}
use Rattle.surface_link_laws.proofs.Triangles.{pieces-link}
use Rattle.surface_efficiency_laws.proofs.Measures.{points_and_pieces, pieces_are}

-- ---- vectors with links

-- the links of some classes, with multiplicity `times`
module _ (s : Skeleton) (f : List ℕ → ℕ) (linear : IsLinear f) (times : ℕ → ℕ) where
  abbrev link : ℕ → List ℕ
  link c = link_of s Standard c

  abbrev width : ℕ
  width = columns Standard (length s.rows)

  pub number_with_links : (cs y z : List ℕ) → length y ≡ columns Standard (length s.rows)
      → ((j : ℕ) → slice_index z j ≡ slice_index y j + sum_by (λ c. times c * slice_index (link_of s Standard c) j) cs) → f z ≡ f y + sum_by (λ c. times c * f (link_of s Standard c)) cs
  number_with_links [] y z size each =
      let e : 1 * f z ≡ 1 * f y + 0 * f y = linear.splits 1 1 0 z y y (λ j. let h : slice_index z j ≡ slice_index y j + 0 = each j in omega arith) in
      let none : f z ≡ f y + 0 = omega arith in
      none
  number_with_links (c ∷ cs) y z size each =
      let same : length y ≡ length (multiple (times c) (link c)) = size ∙ sym (length-multiple (times c) (link c) ∙ length-link (length s.rows) s.vertices.classes c Standard) in
      let u : List ℕ = sum_of y (multiple (times c) (link c)) in
      let entry : (j : ℕ) → slice_index u j ≡ slice_index y j + times c * slice_index (link c) j =
      λ j. entry-sum_of y (multiple (times c) (link c)) same j ∙ ap (λ a. slice_index y j + a) (entry-multiple (times c) (link c) j) in
      let one : 1 * f u ≡ 1 * f y + times c * f (link c) = linear.splits 1 1 (times c) u y (link c) (λ j. let e : slice_index u j ≡ slice_index y j + times c * slice_index (link c) j = entry j in omega arith) in
      let rest : f z ≡ f u + sum_by (λ d. times d * f (link d)) cs = number_with_links cs u z (length-sum_of y (multiple (times c) (link c)) same ∙ size)
      (λ j. let a : slice_index z j ≡ slice_index y j + sum_by (λ d. times d * slice_index (link d) j) (c ∷ cs) = each j in
      let b : sum_by (λ d. times d * slice_index (link d) j) (c ∷ cs) ≡ times c * slice_index (link c) j + sum_by (λ d. times d * slice_index (link d) j) cs = sum_by-cons (λ d. times d * slice_index (link d) j) c cs in
      let e : slice_index u j ≡ slice_index y j + times c * slice_index (link c) j = entry j in omega arith) in
      let last : sum_by (λ d. times d * f (link d)) (c ∷ cs) ≡ times c * f (link c) + sum_by (λ d. times d * f (link d)) cs = sum_by-cons (λ d. times d * f (link d)) c cs in
      omega arith

-- if f is at most g, a sum of multiples of f is at most that of g
pub sum_most : (times f g : ℕ → ℕ) (cs : List ℕ) → ((c : ℕ) → Among c cs → f c ≤ g c) → sum_by (λ c. times c * f c) cs ≤ sum_by (λ c. times c * g c) cs
sum_most times f g [] h = omega arith
sum_most times f g (c ∷ cs) h =
    let first : times c * f c ≤ times c * g c = mul-le-mul_left (times c) (h c (inl refl)) in
    let more : sum_by (λ c. times c * f c) cs ≤ sum_by (λ c. times c * g c) cs = sum_most times f g cs (λ d a. h d (inr a)) in
    omega (arith, sum_by-cons (λ c. times c * f c) c cs, sum_by-cons (λ c. times c * g c) c cs)

-- ---- the Euler characteristic of a link

not_negative : (closed : Bool) (euler : ℤ) (orientable : Bool) → (kind_of closed euler orientable ≡ Sphere) ⊎ (kind_of closed euler orientable ≡ Disc) → (n : ℕ) × (euler ≡ pos n)
not_negative closed (pos n) orientable h = (n, refl)
not_negative true (negsuc n) orientable (inl e) = absurd cc
not_negative true (negsuc n) orientable (inr e) = absurd cc
not_negative false (negsuc n) orientable (inl e) = absurd cc
not_negative false (negsuc n) orientable (inr e) = absurd cc

not_less : (v e t n : ℕ) → euler_of v e t ≡ pos n → e ≤ v + t
not_less v e t n h = omega (arith, ints)

module _ (s : Skeleton) (k : IsSkeleton s) where
  abbrev n : ℕ
  n = length s.rows

  link_most : (c : ℕ) (link : Link) → HasLink s c link → IsSphereOrDisc link → arcs s.rows Standard (link_of s Standard c) ≤ points_and_pieces s Standard (columns Standard (length s.rows)) (link_of s Standard c)
  link_most c link h kind =
      let l = h.is_link in
      let some = not_negative link.closed link.euler link.orientable (kinds kind) in
      let most : link.edges ≤ link.vertices + link.triangles = not_less link.vertices link.edges link.triangles some.0 (sym l.euler ∙ some.1) in
      let a : arcs s.rows Standard (link_of s Standard c) ≡ link.edges = arcs-link s.rows s.vertices.classes c Standard tt (k.vertices).one_each ∙ sym l.edges in
      let p : points Standard (link_of s Standard c) s.edges.classes s.edges.count ≡ link_vertices s.vertices.classes h.directions c + length (extra s k c h.directions h.count h.numbered) =
      points-link s k c h.directions h.count h.numbered Standard tt in
      let v : link.vertices ≡ link_vertices s.vertices.classes h.directions c = l.vertices in
      let t : sum_by (slice_index (link_of s Standard c)) (below (columns Standard n)) ≡ link.triangles =
      pieces_are s Standard (columns Standard n) (link_of s Standard c) (length-link n s.vertices.classes c Standard) ∙ pieces-link n s.vertices.classes c Standard tt (k.vertices).one_each ∙ sym l.triangles in
      omega arith
    where
      kinds : IsSphereOrDisc link → (kind_of link.closed link.euler link.orientable ≡ Sphere) ⊎ (kind_of link.closed link.euler link.orientable ≡ Disc)
      kinds (inl e) = inl (sym (h.is_link).kind ∙ e)
      kinds (inr e) = inr (sym (h.is_link).kind ∙ e)

  pub links_most : (links : List Link) → HasSphereAndDiscLinks s links → (c : ℕ) → c < s.vertices.count
      → arcs s.rows Standard (link_of s Standard c) ≤ points_and_pieces s Standard (columns Standard (length s.rows)) (link_of s Standard c)
  links_most links h c lc =
      let low : c < length links = let e = h.one_each in omega arith in
      let l : Link = get_or links c any_link in
      let itself : l ≡ get_or links c l = get_or_default links c any_link l low in
      let are = h.are in
      link_most c l (record { directions = are.0; count = are.1; numbered = are.2; is_link = (are.3).reported c l low itself }) (h.kinds c any_link low)
