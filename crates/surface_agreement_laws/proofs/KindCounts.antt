-- Under sphere and disc links the standard list has as many surfaces as the quad list, the vertices, and the surfaces
-- whose quads are on no extreme ray together.
use Rattle.std.proofs.Common.{◌≡◌, ℕ, ◌+◌, ◌≤◌, inl, inr, Bool, true, false, not, ◌↔◌, List, [], ◌∷◌, length, map, filter, Contains, sym, ap, subst, ◌∙◌, arith, refl}
use Rattle.std.specs.Prelude.{◌||◌}
use Rattle.std.specs.List.{slice_index_or}
use Rattle.std.proofs.Math.Bool.{or-true}
use Rattle.std.proofs.lemmas.Bool.{or_cases, false≢true}
use Rattle.std.proofs.lemmas.List.{length-map}
use Rattle.std.proofs.lemmas.List.Filters.{length-filter_both}
use Rattle.std.proofs.lemmas.List.Elements.{All-contains}
use Rattle.cone_definitions.specs.Rows.{Row as EquationRow}
use Rattle.cone_definitions.specs.Vectors.{IsBefore}
use Rattle.cone_definitions.proofs.Lexicographic.{before_irreflexive}
use Rattle.table_definitions.specs.Lists.{same_list}
use Rattle.table_definitions.proofs.ListFacts.{same_list-true}
use Rattle.table_definitions.proofs.ListLaws.{same_list_from}
use Rattle.table_definitions.proofs.TableLaws.{Among, Among-map}
use Rattle.table_definitions.proofs.Listed.{contains_among, among_contains, Among-filter, filter-among, map-among}
use Rattle.table_definitions.proofs.DistinctLists.{AreApart, apart_from, apart_filter, map_apart, apart_short}
use Rattle.skeleton_definitions.specs.Skeleton.{Skeleton, IsSkeleton}
use Rattle.skeleton_definitions.specs.declared.Link.{Link}
use Rattle.surface_definitions.specs.Characteristic.{is_linking}
use Rattle.surface_definitions.specs.declared.Coords.TheVariants.{Standard, Quad}
use Rattle.surface_definitions.specs.QuadEquations.{AreEquations}
use Rattle.surface_laws.specs.LiftLaws.{IsLiftOf}
use Rattle.surface_laws.proofs.Lifts.{one_lift}
use Rattle.surface_quad_laws.specs.LinkLaws.{IsVertexLink}
use Rattle.surface_quad_laws.specs.SolutionLaws.{quads_of}
use Rattle.surface_quad_lift_laws.specs.Laws.{HasSphereAndDiscLinks}
use Rattle.surface_agreement_laws.specs.VertexSurfaces.{IsVertexSurfaceBy, IsSurfaceListBy, IsVertexSurfaceOf, IsSurfaceListOf}
use Rattle.surface_agreement_laws.specs.Laws.{IsOneVertexSurfaceOver}
use Rattle.surface_agreement_laws.specs.SurfaceKinds.{IsExactlyOne, IsListedLift, HasQuadsOfMore, has_vector, with_other_quads}
use Rattle.surface_agreement_laws.proofs.CountedLinks.{counted}
use Rattle.surface_agreement_laws.proofs.LinkSurfaces.{linking_is_link, link_is_linking}
use Rattle.surface_agreement_laws.proofs.Numbers.{not_linking}
use Rattle.surface_agreement_laws.proofs.OneOver.{one_over}
use Rattle.surface_agreement_laws.proofs.SurfaceKinds.{one_kind, quads_are}

-- ---- the tests

has_contained : (list : List (List ℕ)) (xs : List ℕ) → has_vector list xs ≡ true → Contains list xs
has_contained list xs h = contains_among xs list (found list h)
  where
    found : (vs : List (List ℕ)) → has_vector vs xs ≡ true → Among xs vs
    found [] h = absurd (false≢true h)
    found (v ∷ vs) h = elim (or_cases (same_list xs v) (has_vector vs xs) h) [ inl e ↦ inl (same_list-true xs v e) | inr m ↦ inr (found vs m) ]

contained_has : (list : List (List ℕ)) (xs : List ℕ) → Contains list xs → has_vector list xs ≡ true
contained_has list xs c = there list (among_contains xs list c)
  where
    there : (vs : List (List ℕ)) → Among xs vs → has_vector vs xs ≡ true
    there [] m = absurd m
    there (v ∷ vs) (inl e) = ap (λ b. b || has_vector vs xs) (same_list_from xs v e)
    there (v ∷ vs) (inr m) = ap (λ b. same_list xs v || b) (there vs m) ∙ or-true (same_list xs v)

not_true : (b : Bool) → not b ≡ true → b ≡ true → ⊥
not_true true h e = false≢true h
not_true false h e = false≢true e

true_not : (b : Bool) → (b ≡ true → ⊥) → not b ≡ true
true_not true h = absurd (h refl)
true_not false h = refl

module _ (s : Skeleton) (k : IsSkeleton s) (quad_rows : List EquationRow) (equations : AreEquations Quad s.rows quad_rows) (quads standard : List (List ℕ))
    (one : IsSurfaceListBy s Quad quad_rows quads) (all : IsSurfaceListOf s Standard standard) where
  vertex : (ys : List ℕ) → Contains standard ys → IsVertexSurfaceOf s Standard ys
  vertex ys c = All-contains (IsVertexSurfaceOf s Standard) standard ys all.vertex_surfaces c

  kind : (ys : List ℕ) → Contains standard ys → IsExactlyOne (IsVertexLink s Standard ys) (IsListedLift s quads ys) (HasQuadsOfMore s quad_rows quads ys)
  kind ys c = one_kind s k quad_rows equations ys (vertex ys c) quads one

  -- the lift of a listed vector has listed quads
  lift_listed : (ys : List ℕ) → IsListedLift s quads ys → Contains quads (quads_of s ys)
  lift_listed ys l = subst (Contains quads) (sym (quads_are s k quad_rows equations l.0 ys (All-contains (IsVertexSurfaceBy s Quad quad_rows) quads l.0 one.vertex_surfaces l.1) l.2)) l.1

  -- a listed surface that is not linking is the lift of its quads
  lift_of : (ys : List ℕ) → Contains standard ys → not (is_linking Standard ys) ≡ true → IsLiftOf s (quads_of s ys) ys
  lift_of ys c n = elim (kind ys c).one [
    | inl link ↦ absurd (not_true (is_linking Standard ys) n (link_is_linking s k Standard tt ys link))
    | inr (inl l) ↦ subst (λ xs. IsLiftOf s xs ys) (sym (quads_are s k quad_rows equations l.0 ys (All-contains (IsVertexSurfaceBy s Quad quad_rows) quads l.0 one.vertex_surfaces l.1) l.2)) l.2
    | inr (inr more) ↦ more.of_quads.is_lift
  ]

  more_is : (ys : List ℕ) → Contains standard ys → (not (is_linking Standard ys) ≡ true) × (not (has_vector quads (quads_of s ys)) ≡ true) → HasQuadsOfMore s quad_rows quads ys
  more_is ys c h = elim (kind ys c).one [
    | inl link ↦ absurd (not_true (is_linking Standard ys) h.0 (link_is_linking s k Standard tt ys link))
    | inr (inl l) ↦ absurd (not_true (has_vector quads (quads_of s ys)) h.1 (contained_has quads (quads_of s ys) (lift_listed ys l)))
    | inr (inr more) ↦ more
  ]

  is_more : (ys : List ℕ) → Contains standard ys → HasQuadsOfMore s quad_rows quads ys → (not (is_linking Standard ys) ≡ true) × (not (has_vector quads (quads_of s ys)) ≡ true)
  is_more ys c more = (
    true_not (is_linking Standard ys) (λ e. (kind ys c).not_first_and_third (linking_is_link s k Standard tt ys (vertex ys c) e, more)),
    true_not (has_vector quads (quads_of s ys)) (λ e. (kind ys c).not_second_and_third ((quads_of s ys, has_contained quads (quads_of s ys) e, more.of_quads.is_lift), more)),
  )

  pub others_are : (ys : List ℕ) → Contains (with_other_quads s quads standard) ys ↔ (Contains standard ys × HasQuadsOfMore s quad_rows quads ys)
  others_are ys = (
    λ c. (let a = filter-among (λ vs. not (has_vector quads (quads_of s vs))) ys (filter (λ vs. not (is_linking Standard vs)) standard) (among_contains ys (with_other_quads s quads standard) c) in
        let b = filter-among (λ vs. not (is_linking Standard vs)) ys standard a.0 in
        (contains_among ys standard b.0, more_is ys (contains_among ys standard b.0) (b.1, a.1))),
    λ p. (let h = is_more ys p.0 p.1 in
        contains_among ys (with_other_quads s quads standard) (Among-filter (λ vs. not (has_vector quads (quads_of s vs))) ys (filter (λ vs. not (is_linking Standard vs)) standard)
        (Among-filter (λ vs. not (is_linking Standard vs)) ys standard (among_contains ys standard p.0) h.0) h.1)),
  )

  -- ---- the numbers

  abbrev others : List (List ℕ)
  others = filter (λ ys. not (is_linking Standard ys)) standard

  abbrev lifts : List (List ℕ)
  lifts = filter (λ ys. has_vector quads (quads_of s ys)) others

  standard_apart : AreApart standard
  standard_apart = apart_from [] standard (λ i j l m e. before_irreflexive (slice_index_or standard j []) (subst (λ xs. IsBefore xs (slice_index_or standard j [])) e (all.ascending i j [] l m)))

  quads_apart : AreApart quads
  quads_apart = apart_from [] quads (λ i j l m e. before_irreflexive (slice_index_or quads j []) (subst (λ xs. IsBefore xs (slice_index_or quads j [])) e (one.ascending i j [] l m)))

  lifts_apart : AreApart (map (quads_of s) lifts)
  lifts_apart = map_apart (quads_of s) lifts (apart_filter (λ ys. has_vector quads (quads_of s ys)) others (apart_filter (λ ys. not (is_linking Standard ys)) standard standard_apart))
      (λ ys zs ay az e. let a = filter-among (λ vs. not (is_linking Standard vs)) ys standard (filter-among (λ vs. has_vector quads (quads_of s vs)) ys others ay).0 in
      let b = filter-among (λ vs. not (is_linking Standard vs)) zs standard (filter-among (λ vs. has_vector quads (quads_of s vs)) zs others az).0 in
      one_lift s.rows k.table s.vertices.classes s.vertices.count k.vertices (quads_of s ys) ys zs (lift_of ys (contains_among ys standard a.0) a.1)
      (subst (λ xs. IsLiftOf s xs zs) (sym e) (lift_of zs (contains_among zs standard b.0) b.1)))

  limited : length lifts ≤ length quads
  limited = let e : length (map (quads_of s) lifts) ≡ length lifts = length-map lifts (quads_of s) in
      let l : length (map (quads_of s) lifts) ≤ length quads = apart_short (map (quads_of s) lifts) quads lifts_apart (λ xs m.
      let y = map-among (quads_of s) xs lifts m in
      subst (λ vs. Among vs quads) (sym y.2) (among_contains (quads_of s y.0) quads (has_contained quads (quads_of s y.0) (filter-among (λ vs. has_vector quads (quads_of s vs)) y.0 others y.1).1))) in
      omega arith

  module _ (links : List Link) (spheres : HasSphereAndDiscLinks s links) where
    many : length quads ≤ length lifts
    many = let e : length (map (quads_of s) lifts) ≡ length lifts = length-map lifts (quads_of s) in
        let l : length quads ≤ length (map (quads_of s) lifts) = apart_short quads (map (quads_of s) lifts) quads_apart (λ xs m.
        let v : IsVertexSurfaceBy s Quad quad_rows xs = All-contains (IsVertexSurfaceBy s Quad quad_rows) quads xs one.vertex_surfaces (contains_among xs quads m) in
        let y = one_over s k links quad_rows xs spheres equations v in
        let over : IsOneVertexSurfaceOver s xs y.0 = y.1 in
        subst (λ zs. Among zs (map (quads_of s) lifts)) over.over
        (Among-map (quads_of s) y.0 lifts (Among-filter (λ ys. has_vector quads (quads_of s ys)) y.0 others
        (Among-filter (λ ys. not (is_linking Standard ys)) y.0 standard (among_contains y.0 standard (all.complete y.0 over.vertex)) (not_linking s k standard all links spheres quad_rows equations quads one xs y.0 v over.vertex over.over))
        (contained_has quads (quads_of s y.0) (subst (Contains quads) (sym over.over) (contains_among xs quads m)))))) in
        omega arith

    pub counted_kinds : length quads + s.vertices.count + length (with_other_quads s quads standard) ≡ length standard
    counted_kinds =
        let a : length (filter (is_linking Standard) standard) + length others ≡ length standard = length-filter_both (is_linking Standard) (λ ys. not (is_linking Standard ys)) (λ ys. refl) standard in
        let b : length lifts + length (filter (λ ys. not (has_vector quads (quads_of s ys))) others) ≡ length others =
        length-filter_both (λ ys. has_vector quads (quads_of s ys)) (λ ys. not (has_vector quads (quads_of s ys))) (λ ys. refl) others in
        omega (arith, counted s k Standard tt standard all, limited, many)
