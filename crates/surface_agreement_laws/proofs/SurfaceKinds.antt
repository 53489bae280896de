-- A standard vertex surface is the lift of a quad vertex surface if and only if its quads are on an extreme ray.
use Rattle.std.proofs.Common.{◌≡◌, ◌≢◌, ℕ, ◌*◌, ◌/◌, ◌%◌, ◌<◌, ◌≤◌, ◌↔◌, ◌⊎◌, inl, inr, true, List, [], ◌∷◌, length, slice_index, slice_index_or, refl, sym, ap, subst, ◌∙◌, arith}
use Rattle.std.specs.Int.{◌∣◌}
use Rattle.std.proofs.Math.Nat.{dvd-zero}
use Rattle.std.specs.List.{All}
use Rattle.std.proofs.lemmas.Bool.{cases_eq, le-leb}
use Rattle.std.proofs.lemmas.List.Elements.{All-contains}
use Rattle.cone_definitions.specs.Rows.{Row as EquationRow}
use Rattle.cone_definitions.specs.Vectors.{IsInside, IsNonzero}
use Rattle.cone_definitions.proofs.Combined.{factor_zero}
use Rattle.cone_definitions.proofs.Entries.{entry-multiple, entry_past, each_column, zero_or_nonzero, IsNonzero-inside}
use Rattle.cone_definitions.proofs.Rays.{extreme_within}
use Rattle.skeleton_definitions.specs.Skeleton.{Skeleton, IsSkeleton}
use Rattle.surface_definitions.specs.Coordinates.{columns, quad_column, is_quad_or_octagon}
use Rattle.surface_definitions.specs.declared.Coords.TheVariants.{Standard, Quad}
use Rattle.surface_definitions.specs.QuadEquations.{AreEquations}
use Rattle.surface_laws.specs.LiftLaws.{IsLiftOf}
use Rattle.surface_laws.proofs.LiftLemmas.{lift_projects}
use Rattle.surface_laws.proofs.LinkingLemmas.{linking}
use Rattle.surface_laws.proofs.Quads.{length-projected, quad_entry}
use Rattle.sum_definitions.specs.Sums.{Term}
use Rattle.sum_laws.specs.Laws.{IsSumOfRays}
use Rattle.sum_laws.proofs.SomeSum.{some_sum}
use Rattle.sum_laws.proofs.Surfaces.{surfaces_are_rays_lem}
use Rattle.surface_quad_laws.specs.LinkLaws.{IsVertexLink, IsCanonical}
use Rattle.surface_quad_laws.specs.SolutionLaws.{quads_of}
use Rattle.surface_quad_laws.proofs.Canonical.{no_link_is_canonical, lift_canonical}
use Rattle.surface_agreement_laws.specs.VertexSurfaces.{IsVertexSurfaceBy, IsSurfaceListBy, IsVertexSurfaceOf, IsSurfaceListOf}
use Rattle.surface_agreement_laws.specs.Laws.{IsLiftOfItsQuads}
use Rattle.surface_agreement_laws.specs.SurfaceKinds.{IsOnExtremeRay, IsLiftOfVertexSurface, IsExactlyOne, IsListedLift, HasQuadsOfMore}
use Rattle.surface_agreement_laws.proofs.LinksOrLifts.{lift_of_its_quads}
use Rattle.surface_agreement_laws.proofs.LinkSurfaces.{link_or_canonical, link_is_linking}
use Rattle.surface_agreement_laws.proofs.OneTerm.{one_term_listed}

module _ (s : Skeleton) (k : IsSkeleton s) (quad_rows : List EquationRow) (equations : AreEquations Quad s.rows quad_rows) where
  abbrev n : ℕ
  n = length s.rows

  abbrev IsOnRay : List ℕ → Type 0
  IsOnRay ys = IsOnExtremeRay (columns Quad n) quad_rows (quads_of s ys)

  -- the lift has the quads of which it is the lift
  pub quads_are : (xs ys : List ℕ) → IsVertexSurfaceBy s Quad quad_rows xs → IsLiftOf s xs ys → quads_of s ys ≡ xs
  quads_are xs ys vertex lift = lift_projects s.rows k.table s.vertices.classes s.vertices.count k.vertices xs ys ((vertex.extreme).solution).width lift

  module _ (ys : List ℕ) (vertex : IsVertexSurfaceOf s Standard ys) where
    quads_vertex : IsLiftOfVertexSurface s quad_rows ys → IsVertexSurfaceBy s Quad quad_rows (quads_of s ys)
    quads_vertex l = subst (IsVertexSurfaceBy s Quad quad_rows) (sym (quads_are l.0 ys l.1 l.2)) l.1

    -- a vertex link has no quad
    link_without_quads : IsVertexLink s Standard ys → (j : ℕ) → slice_index (quads_of s ys) j ≡ 0
    link_without_quads link = each_column (3 * n) (λ j. slice_index (quads_of s ys) j ≡ 0)
        (λ j l. let width : length ys ≡ 7 * n = ((vertex.extreme).solution).width in
        quad_entry n ys j l ∙ (linking Standard ys).0 (link_is_linking s k Standard tt ys link) (quad_column Standard (j / 3) (j % 3)) (omega arith) (high (j / 3) (j % 3) (omega arith)))
        (λ j l. entry_past (quads_of s ys) (3 * n) j (length-projected ys n) l)
      where
        high : (t j : ℕ) → j < 3 → is_quad_or_octagon Standard (quad_column Standard t j) ≡ true
        high t j l = let at : 4 ≤ quad_column Standard t j % 7 = omega arith in le-leb 4 (quad_column Standard t j % 7) at

    -- quads that are not all 0 are those of a lift
    of_quads : IsNonzero (quads_of s ys) → IsLiftOfItsQuads s quad_rows ys
    of_quads some = elim (link_or_canonical s k Standard tt ys vertex) [
      | inl link ↦ absurd (some.1 (link_without_quads link some.0))
      | inr canonical ↦ lift_of_its_quads s k quad_rows equations ys vertex canonical
    ]

    vertex_lift : IsVertexSurfaceBy s Quad quad_rows (quads_of s ys) → IsLiftOfVertexSurface s quad_rows ys
    vertex_lift quads = (quads_of s ys, quads, (of_quads (quads.extreme).nonzero).is_lift)

    on_ray : IsVertexSurfaceBy s Quad quad_rows (quads_of s ys) → IsOnRay ys
    on_ray quads = record { ray = quads_of s ys; extreme = quads.extreme; times = 1; some_times = omega arith; count = 1; some_count = omega arith; same = refl }

    -- quads on an extreme ray are extreme
    by_ray : IsOnRay ys → IsVertexSurfaceBy s Quad quad_rows (quads_of s ys)
    by_ray r = record {
      extreme = extreme_within (columns Quad n) quad_rows r.ray (quads_of s ys) r.extreme are.solves some inside;
      admissible = are.admissible;
      primitive = are.primitive;
    }
      where
        entries : (j : ℕ) → r.times * slice_index (quads_of s ys) j ≡ r.count * slice_index r.ray j
        entries j = sym (entry-multiple r.times (quads_of s ys) j) ∙ ap (λ ws. slice_index ws j) r.same ∙ entry-multiple r.count r.ray j

        inside : IsInside (quads_of s ys) r.ray
        inside j z = factor_zero r.times (slice_index (quads_of s ys) j) r.some_times (entries j ∙ rw z (omega arith))

        around : IsInside r.ray (quads_of s ys)
        around j z = factor_zero r.count (slice_index r.ray j) r.some_count (sym (entries j) ∙ rw z (omega arith))

        some : IsNonzero (quads_of s ys)
        some = IsNonzero-inside r.ray (quads_of s ys) around (r.extreme).nonzero

        are : IsLiftOfItsQuads s quad_rows ys
        are = of_quads some

    pub lift_by_quads : IsLiftOfVertexSurface s quad_rows ys ↔ IsVertexSurfaceBy s Quad quad_rows (quads_of s ys)
    lift_by_quads = (quads_vertex, vertex_lift)

    pub lift_by_ray : IsLiftOfVertexSurface s quad_rows ys ↔ IsOnRay ys
    lift_by_ray = (λ l. on_ray (quads_vertex l), λ r. vertex_lift (by_ray r))

    module _ (quads : List (List ℕ)) (listed : IsSurfaceListBy s Quad quad_rows quads) where
      -- a lift of a listed surface is no vertex link, and its quads are on an extreme ray
      not_both : IsVertexLink s Standard ys → IsListedLift s quads ys → ⊥
      not_both link l = no_link_is_canonical s Standard ys tt link (lift_canonical s k l.0 ys l.2)

      listed_ray : IsListedLift s quads ys → IsOnRay ys
      listed_ray l = lift_by_ray.0 (l.0, All-contains (IsVertexSurfaceBy s Quad quad_rows) quads l.0 listed.vertex_surfaces l.1, l.2)

      -- a sum that is equal to a multiple of the quads has some terms
      more_terms : (limit times : ℕ) (terms : List Term) → IsNonzero (quads_of s ys) → IsSumOfRays quads limit (quads_of s ys) times terms → length terms ≢ 1 → 2 ≤ length terms
      more_terms limit times [] some sum ne = absurd (some.1 (factor_zero times (slice_index (quads_of s ys) some.0) (sum.adds_up).some ((sum.adds_up).equal some.0)))
      more_terms limit times (term ∷ []) some sum ne = absurd (ne refl)
      more_terms limit times (term ∷ other ∷ terms) some sum ne = omega arith

      by_quads : IsCanonical s Standard ys → IsListedLift s quads ys ⊎ HasQuadsOfMore s quad_rows quads ys
      by_quads canonical = elim (cases_eq (length terms) 1) [
        | inl one ↦ inl (quads_of s ys, (one_term_listed _ quad_rows _ quads listed (quads_of s ys) are.solves are.primitive limit times terms sum).0 one, are.is_lift)
        | inr ne ↦ inr (record {
          of_quads = are;
          no_ray = λ r. ne ((one_term_listed _ quad_rows _ quads listed (quads_of s ys) are.solves are.primitive limit times terms sum).1 (listed.complete (quads_of s ys) (by_ray r)));
          limit = limit;
          times = times;
          terms = terms;
          sum = sum;
          more = more_terms limit times terms some sum ne;
        })
      ]
        where
          are : IsLiftOfItsQuads s quad_rows ys
          are = lift_of_its_quads s k quad_rows equations ys vertex canonical

          exists : (limit times : ℕ) × (terms : List Term) × IsSumOfRays quads limit (quads_of s ys) times terms
          exists = some_sum _ quad_rows quads (quads_of s ys) (surfaces_are_rays_lem _ quad_rows _ quads (quads_of s ys) listed are.solves are.admissible)

          limit : ℕ
          limit = exists.0

          times : ℕ
          times = exists.1

          terms : List Term
          terms = exists.2

          sum : IsSumOfRays quads limit (quads_of s ys) times terms
          sum = exists.3

          -- quads that are all 0 are divisible by 2
          some : IsNonzero (quads_of s ys)
          some = elim (zero_or_nonzero (quads_of s ys)) [
            | inl none ↦ absurd (let two : 2 ≡ 1 = are.primitive 2 (λ j. subst (λ m. 2 ∣ m) (sym (none j)) (dvd-zero 2)) in omega arith)
            | inr nonzero ↦ nonzero
          ]

      pub one_kind : IsExactlyOne (IsVertexLink s Standard ys) (IsListedLift s quads ys) (HasQuadsOfMore s quad_rows quads ys)
      one_kind = record {
        one = elim (link_or_canonical s k Standard tt ys vertex) [ inl link ↦ inl link | inr canonical ↦ inr (by_quads canonical) ];
        not_first_and_second = λ b. not_both b.0 b.1;
        not_first_and_third = λ b. no_link_is_canonical s Standard ys tt b.0 (lift_canonical s k (quads_of s ys) ys (b.1).of_quads.is_lift);
        not_second_and_third = λ b. (b.1).no_ray (listed_ray b.0);
      }

pub listed_kinds : (s : Skeleton) (quad_rows : List EquationRow) (quads standard : List (List ℕ)) → IsSkeleton s → AreEquations Quad s.rows quad_rows
    → IsSurfaceListBy s Quad quad_rows quads → IsSurfaceListOf s Standard standard
    → All (λ ys. IsExactlyOne (IsVertexLink s Standard ys) (IsListedLift s quads ys) (HasQuadsOfMore s quad_rows quads ys)) standard
listed_kinds s quad_rows quads standard k equations one all i d l = one_kind s k quad_rows equations (slice_index_or standard i d) (all.vertex_surfaces i d l) quads one
