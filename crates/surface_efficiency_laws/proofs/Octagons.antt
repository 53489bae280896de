-- If no listed surface without octagons, other than a vertex link, has positive Euler characteristic, the surfaces with
-- octagons decide.
use Rattle.std.proofs.Common.{◌≡◌, ℕ, ◌+◌, ◌*◌, ◌%◌, ◌<◌, ◌≤◌, ◌↔◌, inl, inr, List, length, filter, Contains, slice_index, ap, ◌∙◌, arith}
use Rattle.std.proofs.lemmas.Bool.{cases_eq, cases_lt, leb-true}
use Rattle.cone_definitions.specs.Rows.{Row as EquationRow, IsPrimitiveExtreme}
use Rattle.cone_definitions.specs.Vectors.{IsInside}
use Rattle.cone_definitions.proofs.Linear.{IsLinear, plus_is_linear, times_is_linear}
use Rattle.cone_definitions.proofs.Unions.{ray_listed}
use Rattle.table_definitions.specs.Lists.{below}
use Rattle.table_definitions.proofs.Listed.{filter-among, below-among}
use Rattle.skeleton_definitions.specs.Skeleton.{Skeleton, IsSkeleton}
use Rattle.surface_definitions.specs.Coordinates.{columns, clash_list, is_octagon}
use Rattle.surface_definitions.specs.declared.Coords.TheVariants.{Octagon}
use Rattle.surface_definitions.specs.Characteristic.{arcs}
use Rattle.surface_definitions.specs.Equations.{matching_rows}
use Rattle.surface_laws.specs.PieceLaws.{IsSurface}
use Rattle.surface_laws.proofs.Counting.{sum_by-none}
use Rattle.surface_quad_laws.proofs.VertexLinks.{others-link}
use Rattle.surface_quad_laws.specs.LinkLaws.{IsCanonical, IsVertexLink}
use Rattle.surface_quad_laws.proofs.Canonical.{no_link_is_canonical, inside_canonical}
use Rattle.surface_efficiency_laws.specs.Laws.{IsPositive, IsConnectedSurface, HasPositiveInside}
use Rattle.surface_efficiency_laws.specs.Octagons.{octagons, PositiveWithoutOctagonsAreLinks, HasOctagonalSphereNumbers, HasOctagonalSphereInside, HasOctagonInside}
use Rattle.surface_efficiency_laws.proofs.Descents.{HasSomeInside, some_inside}
use Rattle.surface_efficiency_laws.proofs.Efficiency.{connected_link_or_canonical, listed_connected}
use Rattle.surface_efficiency_laws.proofs.Measures.{columns_linear, points_and_pieces, points_and_pieces_linear, arcs_linear, is_positive, at_least_twice, twice_at_least}
use Rattle.surface_efficiency_laws.proofs.Positives.{positive_inside}
use Rattle.surface_agreement_laws.specs.VertexSurfaces.{IsSurfaceListOf}

module _ (s : Skeleton) (surfaces : List (List ℕ)) (list : IsSurfaceListOf s Octagon surfaces) (none : PositiveWithoutOctagonsAreLinks s surfaces) where
  abbrev n : ℕ
  n = columns Octagon (length s.rows)

  abbrev rows : List EquationRow
  rows = matching_rows Octagon s.rows

  octagons_linear : IsLinear (λ xs. octagons s xs)
  octagons_linear = columns_linear (filter (is_octagon Octagon) (below (columns Octagon (length s.rows))))

  -- the number of arcs plus twice the number of octagons
  abbrev lower : List ℕ → ℕ
  lower xs = arcs s.rows Octagon xs + 2 * octagons s xs

  lower_linear : IsLinear (λ xs. arcs s.rows Octagon xs + 2 * octagons s xs)
  lower_linear = plus_is_linear (λ xs. arcs s.rows Octagon xs) (λ xs. 2 * octagons s xs) (arcs_linear s Octagon) (times_is_linear 2 (λ xs. octagons s xs) octagons_linear)

  module _ (x : List ℕ) (surface : IsSurface s.rows Octagon x) (canonical : IsCanonical s Octagon x) where
    listed : (v : List ℕ) → IsPrimitiveExtreme n rows v → IsInside v x → Contains surfaces v
    listed v ray inside = ray_listed n rows (clash_list Octagon (length s.rows)) surfaces x v list surface.admissible ray inside

    -- a ray inside x without octagons has no positive Euler characteristic
    none_without : (v : List ℕ) → IsPrimitiveExtreme n rows v → IsInside v x → octagons s v ≡ 0 → points_and_pieces s Octagon n v ≤ lower v
    none_without v ray inside z = elim (cases_lt (lower v) (points_and_pieces s Octagon n v)) [
      | inr limited ↦ limited
      | inl more ↦ absurd (let fewer : arcs s.rows Octagon v < points_and_pieces s Octagon n v = omega arith in
          no_link_is_canonical s Octagon v tt (none v (listed v ray inside) z (is_positive s Octagon n v ray.extreme.solution.width fewer)) (inside_canonical s Octagon v x inside canonical))
    ]

    pub twice_inside : HasOctagonalSphereNumbers s x → HasOctagonalSphereInside s surfaces x
    twice_inside h = record {
      v = found.v;
      listed = listed found.v found.ray found.inside;
      inside = found.inside;
      octagonal = record { some = found.some; twice = twice_at_least s Octagon n found.v found.ray.extreme.solution.width (octagons s found.v) found.most };
    }
      where
        found : HasSomeInside n rows (points_and_pieces s Octagon n) lower (λ xs. octagons s xs) (points_and_pieces_linear s Octagon n) lower_linear octagons_linear x
        found = some_inside n rows (points_and_pieces s Octagon n) lower (λ xs. octagons s xs) (points_and_pieces_linear s Octagon n) lower_linear octagons_linear x
            surface.solves none_without h.some (at_least_twice s Octagon n x surface.solves.width (octagons s x) h.twice)

    pub octagon_inside : IsPositive s Octagon x → HasOctagonInside s surfaces x
    octagon_inside positive =
        let p : HasPositiveInside s Octagon surfaces x = positive_inside s Octagon surfaces x list surface canonical positive in
        record {
          v = p.v;
          listed = p.listed;
          inside = p.inside;
          some = elim (cases_eq (octagons s p.v) 0) [ inl z ↦ absurd (no_link_is_canonical s Octagon p.v tt (none p.v p.listed z p.positive) p.canonical) | inr separate ↦ omega arith ];
          positive = p.positive;
        }

  -- a vertex link has no octagon
  link_without : (xs : List ℕ) → IsVertexLink s Octagon xs → octagons s xs ≡ 0
  link_without xs link = sum_by-none (slice_index xs) (filter (is_octagon Octagon) (below (columns Octagon (length s.rows)))) (λ i a.
      let m = filter-among (is_octagon Octagon) i (below (columns Octagon (length s.rows))) a in
      let high : 7 ≤ i % 10 = leb-true 7 (i % 10) m.1 in
      ap (λ (ys : List ℕ). slice_index ys i) link.2
      ∙ others-link (length s.rows) s.vertices.classes link.0 Octagon i tt (below-among i (columns Octagon (length s.rows)) m.0) (omega arith))

  pub octagon_sphere_is_listed : IsSkeleton s → ((xs : List ℕ) × IsConnectedSurface s Octagon xs × HasOctagonalSphereNumbers s xs) ↔ ((v : List ℕ) × Contains surfaces v × IsConnectedSurface s Octagon v × HasOctagonalSphereNumbers s v)
  octagon_sphere_is_listed k = (to, (λ h. (h.0, h.2, h.3)))
    where
      to : ((xs : List ℕ) × IsConnectedSurface s Octagon xs × HasOctagonalSphereNumbers s xs) → (v : List ℕ) × Contains surfaces v × IsConnectedSurface s Octagon v × HasOctagonalSphereNumbers s v
      to (xs, connected, h) = elim (connected_link_or_canonical s k Octagon xs connected) [
        | inl link ↦ absurd (let z : octagons s xs ≡ 0 = link_without xs link in let some : 1 ≤ octagons s xs = h.some in omega arith)
        | inr canonical ↦ (let p : HasOctagonalSphereInside s surfaces xs = twice_inside xs connected.surface canonical h in
            (p.v, p.listed, listed_connected s k Octagon tt surfaces list p.v p.listed, p.octagonal))
      ]
