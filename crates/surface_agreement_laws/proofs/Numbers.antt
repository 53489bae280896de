-- There are at least as many standard vertex surfaces as quad ones and vertex links together.
use Rattle.std.proofs.Common.{◌≡◌, ℕ, ◌+◌, ◌*◌, ◌/◌, ◌%◌, ◌<◌, ◌≤◌, Bool, true, false, not, List, [], length, map, filter, slice_index, slice_index_or, refl, sym, ap, subst, ◌∙◌, arith}
use Rattle.std.proofs.lemmas.Bool.{le-leb}
use Rattle.std.proofs.lemmas.List.{length-map}
use Rattle.std.proofs.lemmas.List.Filters.{length-filter_both}
use Rattle.std.proofs.lemmas.List.Elements.{All-contains}
use Rattle.cone_definitions.specs.Rows.{Row as EquationRow}
use Rattle.cone_definitions.specs.Vectors.{IsBefore}
use Rattle.cone_definitions.proofs.Entries.{nonzero_before}
use Rattle.cone_definitions.proofs.Lexicographic.{before_irreflexive}
use Rattle.table_definitions.proofs.TableLaws.{Among, Among-map}
use Rattle.table_definitions.proofs.Listed.{contains_among, among_contains, Among-filter}
use Rattle.table_definitions.proofs.DistinctLists.{AreApart, apart_from, apart_short}
use Rattle.skeleton_definitions.specs.Skeleton.{Skeleton, IsSkeleton}
use Rattle.skeleton_definitions.specs.declared.Link.{Link}
use Rattle.surface_definitions.specs.Characteristic.{is_linking}
use Rattle.surface_definitions.specs.Coordinates.{quad_column, is_quad_or_octagon}
use Rattle.surface_definitions.specs.declared.Coords.TheVariants.{Standard, Quad}
use Rattle.surface_definitions.specs.QuadEquations.{AreEquations}
use Rattle.surface_laws.proofs.LinkingLemmas.{linking}
use Rattle.surface_laws.proofs.Quads.{quad_entry}
use Rattle.surface_quad_laws.specs.SolutionLaws.{quads_of}
use Rattle.surface_quad_lift_laws.specs.Laws.{HasSphereAndDiscLinks}
use Rattle.surface_agreement_laws.specs.VertexSurfaces.{IsVertexSurfaceBy, IsSurfaceListBy, IsVertexSurfaceOf, IsSurfaceListOf}
use Rattle.surface_agreement_laws.specs.Laws.{IsOneVertexSurfaceOver}
use Rattle.surface_agreement_laws.proofs.CountedLinks.{counted}
use Rattle.surface_agreement_laws.proofs.OneOver.{one_over}

module _ (s : Skeleton) (k : IsSkeleton s) (standard : List (List ℕ)) (one : IsSurfaceListOf s Standard standard) where
  abbrev n : ℕ
  n = length s.rows

  abbrev links_alone : List (List ℕ)
  links_alone = filter (is_linking Standard) standard

  abbrev others : List (List ℕ)
  others = filter (λ ys. not (is_linking Standard ys)) standard

  module _ (links : List Link) (kinds : HasSphereAndDiscLinks s links) (quad_rows : List EquationRow) (equations : AreEquations Quad s.rows quad_rows) (quads : List (List ℕ)) (other : IsSurfaceListBy s Quad quad_rows quads) where
    -- a quad vertex surface is not 0, so a vector over it is not linking
    pub not_linking : (xs ys : List ℕ) → IsVertexSurfaceBy s Quad quad_rows xs → IsVertexSurfaceOf s Standard ys → quads_of s ys ≡ xs → not (is_linking Standard ys) ≡ true
    not_linking xs ys vertex over e = by_test (is_linking Standard ys) refl
      where
        high : (t j : ℕ) → j < 3 → is_quad_or_octagon Standard (quad_column Standard t j) ≡ true
        high t j l = let at : 4 ≤ quad_column Standard t j % 7 = omega arith in le-leb 4 (quad_column Standard t j % 7) at

        never : is_linking Standard ys ≡ true → ⊥
        never h =
            let m = (vertex.extreme).nonzero in
            let low : m.0 < 3 * n = nonzero_before xs (3 * n) m.0 ((vertex.extreme).solution).width m.1 in
            let width : length ys ≡ 7 * n = ((over.extreme).solution).width in
            m.1 (ap (λ ws. slice_index ws m.0) (sym e) ∙ quad_entry n ys m.0 low ∙ (linking Standard ys).0 h (quad_column Standard (m.0 / 3) (m.0 % 3)) (omega arith) (high (m.0 / 3) (m.0 % 3) (omega arith)))

        by_test : (b : Bool) → is_linking Standard ys ≡ b → not b ≡ true
        by_test true h = absurd (never h)
        by_test false h = refl

    quads_apart : AreApart quads
    quads_apart = apart_from [] quads (λ i j l m e. before_irreflexive (slice_index_or quads j []) (subst (λ xs. IsBefore xs (slice_index_or quads j [])) e (other.ascending i j [] l m)))

    quads_fit : length quads ≤ length others
    quads_fit = let m : length (map (quads_of s) others) ≡ length others = length-map others (quads_of s) in
        let l : length quads ≤ length (map (quads_of s) others) = apart_short quads (map (quads_of s) others) quads_apart (λ xs a.
        let vertex : IsVertexSurfaceBy s Quad quad_rows xs = All-contains (IsVertexSurfaceBy s Quad quad_rows) quads xs other.vertex_surfaces (contains_among xs quads a) in
        let y = one_over s k links quad_rows xs kinds equations vertex in
        let over : IsOneVertexSurfaceOver s xs y.0 = y.1 in
        subst (λ zs. Among zs (map (quads_of s) others)) over.over
        (Among-map (quads_of s) y.0 others (Among-filter (λ ys. not (is_linking Standard ys)) y.0 standard (among_contains y.0 standard (one.complete y.0 over.vertex)) (not_linking xs y.0 vertex over.vertex over.over)))) in
        omega arith

    pub at_least : length quads + s.vertices.count ≤ length standard
    at_least = let both : length links_alone + length others ≡ length standard = length-filter_both (is_linking Standard) (λ ys. not (is_linking Standard ys)) (λ ys. refl) standard in omega (arith, counted s k Standard tt standard one, quads_fit)
