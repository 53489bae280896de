-- The surfaces of triangles alone in a list are the vertex links, one for each vertex class.
use Rattle.std.proofs.Common.{◌≡◌, ℕ, ◌*◌, ◌/◌, ◌%◌, ◌<◌, ◌≤◌, true, inl, inr, List, [], length, map, filter, slice_index, slice_index_or, Contains, sym, ap, subst, ◌∙◌, arith}
use Rattle.std.proofs.lemmas.Bool.{cases_eq}
use Rattle.std.proofs.lemmas.List.{length-map}
use Rattle.std.proofs.lemmas.List.FromFn.{length-range_with_len}
use Rattle.std.proofs.lemmas.List.Elements.{All-contains}
use Rattle.cone_definitions.specs.Vectors.{IsBefore}
use Rattle.cone_definitions.proofs.Lexicographic.{before_irreflexive}
use Rattle.table_definitions.specs.Lists.{below}
use Rattle.table_definitions.proofs.TableLaws.{Among, Among-map, Among-below}
use Rattle.table_definitions.proofs.Listed.{contains_among, among_contains, Among-filter, filter-among, map-among, below-among}
use Rattle.table_definitions.proofs.DistinctLists.{AreApart, apart_from, apart_filter, map_apart, apart_below, apart_short}
use Rattle.skeleton_definitions.specs.Skeleton.{Skeleton, IsSkeleton}
use Rattle.surface_definitions.specs.Characteristic.{is_linking}
use Rattle.surface_definitions.specs.Coordinates.{tri_column}
use Rattle.surface_definitions.specs.declared.Coords.{Coords}
use Rattle.surface_laws.proofs.Vertices.{number-vertex}
use Rattle.surface_laws.specs.MatchingLaws.{HasTriangles}
use Rattle.surface_quad_laws.specs.LinkLaws.{link_of, IsVertexLink}
use Rattle.surface_quad_laws.proofs.VertexLinks.{link_surface}
use Rattle.surface_agreement_laws.specs.VertexSurfaces.{IsVertexSurfaceOf, IsSurfaceListOf}
use Rattle.surface_agreement_laws.specs.Laws.{HasTriangleAt, HasOneListedLink}
use Rattle.surface_agreement_laws.proofs.LinkSurfaces.{link_vertex, linking_is_link, one_there, none_listed, same_link}

module _ (s : Skeleton) (k : IsSkeleton s) (coords : Coords) (h : HasTriangles coords) (list : List (List ℕ)) (one : IsSurfaceListOf s coords list) where
  abbrev class_of : ℕ → ℕ
  class_of i = slice_index s.vertices.classes i

  abbrev links : List (List ℕ)
  links = map (link_of s coords) (below s.vertices.count)

  pub link_listed : (c : ℕ) → c < s.vertices.count → Contains list (link_of s coords c)
  link_listed c lc = one.complete (link_of s coords c) (link_vertex s k coords h c lc)

  listed_is_link : (ys : List ℕ) → Contains list ys → is_linking coords ys ≡ true → IsVertexLink s coords ys
  listed_is_link ys listed alone = linking_is_link s k coords h ys (All-contains (IsVertexSurfaceOf s coords) list ys one.vertex_surfaces listed) alone

  -- ---- one for each class

  triangle_there : (c : ℕ) → c < s.vertices.count → HasTriangleAt s coords c (link_of s coords c)
  triangle_there c lc = let m = (k.vertices).none_empty c lc in
      let li : m.0 < 4 * length s.rows = m.1 in
      let e : slice_index (link_of s coords c) (tri_column coords (m.0 / 4) (m.0 % 4)) ≡ 1 =
      one_there s k coords h c lc (m.0 / 4) (m.0 % 4) (omega arith) (omega arith) (ap class_of (number-vertex m.0) ∙ m.2) in
      (m.0, m.1, m.2, omega arith)

  -- a link with a triangle at a vertex of the class is that of the class
  only_link : (c : ℕ) (ys : List ℕ) → IsVertexLink s coords ys → HasTriangleAt s coords c ys → ys ≡ link_of s coords c
  only_link c ys link there = elim (cases_eq c link.0) [
    | inl same ↦ link.2 ∙ ap (link_of s coords) (sym same)
    | inr off ↦ (let li : there.0 < 4 * length s.rows = there.1 in
        let none : slice_index (link_of s coords link.0) (tri_column coords (there.0 / 4) (there.0 % 4)) ≡ 0 =
        none_listed s k coords h link.0 link.1 (there.0 / 4) (there.0 % 4) (omega arith) (omega arith) (λ e. off (sym (ap class_of (number-vertex there.0) ∙ there.2) ∙ e)) in
        absurd (there.3 (ap (λ ws. slice_index ws (tri_column coords (there.0 / 4) (there.0 % 4))) link.2 ∙ none)))
  ]

  pub one_link : (c : ℕ) → c < s.vertices.count → HasOneListedLink s coords list c
  one_link c lc = record {
    listed = link_listed c lc;
    linking = (link_surface s k c coords h).linking;
    there = triangle_there c lc;
    only = λ ys listed alone there. only_link c ys (listed_is_link ys listed alone) there;
  }

  -- ---- their number

  links_apart : AreApart links
  links_apart = map_apart (link_of s coords) (below s.vertices.count) (apart_below s.vertices.count)
      (λ c d ac ad e. same_link s k coords h c d (below-among c s.vertices.count ac) (below-among d s.vertices.count ad) e)

  list_apart : AreApart list
  list_apart = apart_from [] list (λ i j l m e. before_irreflexive (slice_index_or list j []) (subst (λ xs. IsBefore xs (slice_index_or list j [])) e (one.ascending i j [] l m)))

  length-links : length links ≡ s.vertices.count
  length-links = length-map (below s.vertices.count) (link_of s coords) ∙ length-range_with_len 0 s.vertices.count

  into : (ys : List ℕ) → Among ys links → Among ys (filter (is_linking coords) list)
  into ys a = let c = map-among (link_of s coords) ys (below s.vertices.count) a in
      subst (λ zs. Among zs (filter (is_linking coords) list)) (sym c.2)
      (Among-filter (is_linking coords) (link_of s coords c.0) list (among_contains (link_of s coords c.0) list (link_listed c.0 (below-among c.0 s.vertices.count c.1))) (link_surface s k c.0 coords h).linking)

  back : (ys : List ℕ) → Among ys (filter (is_linking coords) list) → Among ys links
  back ys a = let m = filter-among (is_linking coords) ys list a in
      let link = listed_is_link ys (contains_among ys list m.0) m.1 in
      subst (λ zs. Among zs links) (sym link.2) (Among-map (link_of s coords) link.0 (below s.vertices.count) (Among-below link.0 s.vertices.count link.1))

  pub counted : length (filter (is_linking coords) list) ≡ s.vertices.count
  counted =
      let limited : length (filter (is_linking coords) list) ≤ length links = apart_short (filter (is_linking coords) list) links (apart_filter (is_linking coords) list list_apart) back in
      let many : length links ≤ length (filter (is_linking coords) list) = apart_short links (filter (is_linking coords) list) links_apart into in
      omega (arith, length-links)
