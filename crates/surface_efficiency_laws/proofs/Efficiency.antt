-- The listed surfaces of positive Euler characteristic decide whether there are others than vertex links.
use Rattle.std.proofs.Common.{◌≡◌, ℕ, ◌<◌, ◌⊎◌, ◌↔◌, inl, inr, pos, List, [], length, Contains, refl, ◌∙◌, subst, arith}
use Rattle.std.specs.List.{slice_index_or}
use Rattle.std.proofs.lemmas.Bool.{cases_lt}
use Rattle.std.proofs.lemmas.Int.{by_lt_z, ints}
use Rattle.std.proofs.lemmas.List.{get_or_default}
use Rattle.std.proofs.lemmas.List.Elements.{Contains-get_or, All-contains}
use Rattle.cone_definitions.proofs.Below.{all_or_one}
use Rattle.cone_definitions.proofs.Existence.{surface_list_exists_lem}
use Rattle.surface_definitions.proofs.ClashPairs.{clashes_apart}
use Rattle.skeleton_definitions.specs.Skeleton.{Skeleton, IsSkeleton}
use Rattle.surface_definitions.specs.Coordinates.{columns, clash_list}
use Rattle.surface_definitions.specs.declared.Coords.{Coords}
use Rattle.surface_definitions.specs.Equations.{matching_rows}
use Rattle.surface_definitions.specs.Pieces.{AreComponents, component_vector}
use Rattle.surface_laws.specs.MatchingLaws.{HasTriangles}
use Rattle.surface_laws.specs.PieceLaws.{IsSurface}
use Rattle.surface_laws.proofs.ComponentSurfaces.{component_surface}
use Rattle.surface_laws.proofs.ComponentCounts.{one_is_whole}
use Rattle.surface_efficiency_laws.specs.Laws.{IsPositive, IsConnectedSurface, HasPositiveInside, PositiveAreLinks, IsPositiveNonLink}
use Rattle.surface_efficiency_laws.proofs.Positives.{positive_inside}
use Rattle.surface_efficiency_laws.proofs.Canonical.{link_or_canonical}
use Rattle.surface_efficiency_laws.proofs.Connected.{vertex_surface_connected}
use Rattle.surface_agreement_laws.specs.VertexSurfaces.{IsSurfaceListOf, IsVertexSurfaceOf}
use Rattle.surface_quad_laws.specs.LinkLaws.{IsCanonical, IsVertexLink}
use Rattle.surface_quad_laws.proofs.Canonical.{no_link_is_canonical}
use Rattle.surface_vector_definitions.specs.Properties.{characteristic}

-- there is a list
pub some_list : (s : Skeleton) (coords : Coords) → (surfaces : List (List ℕ)) × IsSurfaceListOf s coords surfaces
some_list s coords = surface_list_exists_lem (columns coords (length s.rows)) (matching_rows coords s.rows) (clash_list coords (length s.rows)) (clashes_apart coords (length s.rows))

-- a component of positive Euler characteristic that is no link has a listed surface inside
pub component_has_listed : (s : Skeleton) (coords : Coords) (surfaces : List (List ℕ)) (xs components : List ℕ) (count i : ℕ) → IsSkeleton s → IsSurfaceListOf s coords surfaces
    → IsSurface s.rows coords xs → AreComponents s.rows coords xs components count → IsPositive s coords (component_vector xs components i)
    → (IsVertexLink s coords (component_vector xs components i) → ⊥) → HasPositiveInside s coords surfaces (component_vector xs components i)
component_has_listed s coords surfaces xs components count i k list w numbered positive no_link = elim (link_or_canonical s k coords xs w components count i numbered) [
  | inl link ↦ absurd (no_link link)
  | inr canonical ↦ positive_inside s coords surfaces (component_vector xs components i) list (component_surface s.rows coords xs w components count numbered i) canonical positive
]

module _ (s : Skeleton) (k : IsSkeleton s) (coords : Coords) where
  -- a connected surface is a vertex link or canonical
  pub connected_link_or_canonical : (xs : List ℕ) → IsConnectedSurface s coords xs → IsVertexLink s coords xs ⊎ IsCanonical s coords xs
  connected_link_or_canonical xs h =
      subst (λ ys. IsVertexLink s coords ys ⊎ IsCanonical s coords ys) (one_is_whole s.rows coords xs h.components 1 h.one refl)
      (link_or_canonical s k coords xs h.surface h.components 1 0 h.one)

  module _ (triangles : HasTriangles coords) (surfaces : List (List ℕ)) (list : IsSurfaceListOf s coords surfaces) where
    pub listed_connected : (v : List ℕ) → Contains surfaces v → IsConnectedSurface s coords v
    listed_connected v c =
        vertex_surface_connected s coords v k.table triangles
        (All-contains (IsVertexSurfaceOf s coords) surfaces v list.vertex_surfaces c)

    pub list_decides : PositiveAreLinks s coords ↔ ((v : List ℕ) → Contains surfaces v → IsPositive s coords v → IsVertexLink s coords v)
    list_decides = ((λ h v c positive. h v (listed_connected v c) positive), from)
      where
        from : ((v : List ℕ) → Contains surfaces v → IsPositive s coords v → IsVertexLink s coords v) → PositiveAreLinks s coords
        from h xs connected positive = elim (connected_link_or_canonical xs connected) [
          | inl link ↦ link
          | inr canonical ↦ absurd (let p : HasPositiveInside s coords surfaces xs = positive_inside s coords surfaces xs list connected.surface canonical positive in
              no_link_is_canonical s coords p.v triangles (h p.v p.listed p.positive) p.canonical)
        ]

    pub other_is_listed : ((xs : List ℕ) × IsPositiveNonLink s coords xs) ↔ ((v : List ℕ) × Contains surfaces v × IsPositiveNonLink s coords v)
    other_is_listed = (to, (λ h. (h.0, h.2)))
      where
        to : ((xs : List ℕ) × IsPositiveNonLink s coords xs) → (v : List ℕ) × Contains surfaces v × IsPositiveNonLink s coords v
        to (xs, h) = elim (connected_link_or_canonical xs h.connected) [
          | inl link ↦ absurd (h.no_link link)
          | inr canonical ↦ (let p : HasPositiveInside s coords surfaces xs = positive_inside s coords surfaces xs list (h.connected).surface canonical h.positive in
              (p.v, p.listed, record { connected = listed_connected p.v p.listed; positive = p.positive; no_link = λ link. no_link_is_canonical s coords p.v triangles link p.canonical }))
        ]

  -- 0-efficiency is decided at the list
  module _ (triangles : HasTriangles coords) where
    positive_or_not : (v : List ℕ) → IsPositive s coords v ⊎ (IsPositive s coords v → ⊥)
    positive_or_not v = by_lt_z (pos 0) (characteristic s coords v) (λ less. inl less) (λ most. inr (λ less. absurd (omega (arith, ints))))

    pub efficiency_decided : PositiveAreLinks s coords ⊎ ((xs : List ℕ) × IsPositiveNonLink s coords xs)
    efficiency_decided = elim (all_or_one (λ i. i < length surfaces → IsPositive s coords (at i) → IsVertexLink s coords (at i)) (λ i. (i < length surfaces) × IsPositiveNonLink s coords (at i)) decide (length surfaces)) [
      | inl all ↦ inl ((list_decides triangles surfaces list).1 (λ v c. subst (λ u. IsPositive s coords u → IsVertexLink s coords u) (same v c) (all c.0 c.1 c.1)))
      | inr found ↦ inr (at found.0, found.2.1)
    ]
      where
        surfaces : List (List ℕ)
        surfaces = (some_list s coords).0

        list : IsSurfaceListOf s coords surfaces
        list = (some_list s coords).1

        at : ℕ → List ℕ
        at i = slice_index_or surfaces i []

        same : (v : List ℕ) (c : Contains surfaces v) → at c.0 ≡ v
        same v c = get_or_default surfaces c.0 [] v c.1 ∙ c.2

        decide : (i : ℕ) → (i < length surfaces → IsPositive s coords (at i) → IsVertexLink s coords (at i)) ⊎ ((i < length surfaces) × IsPositiveNonLink s coords (at i))
        decide i = elim (cases_lt i (length surfaces)) [
          | inr exceeded ↦ inl (λ l. absurd (omega arith))
          | inl l ↦ elim (positive_or_not (at i)) [
            | inr not_so ↦ inl (λ x positive. absurd (not_so positive))
            | inl positive ↦ (let connected : IsConnectedSurface s coords (at i) = listed_connected triangles surfaces list (at i) (Contains-get_or surfaces i [] l) in
                elim (connected_link_or_canonical (at i) connected) [
                  | inl link ↦ inl (λ x p. link)
                  | inr canonical ↦ inr (l, record { connected = connected; positive = positive; no_link = λ link. no_link_is_canonical s coords (at i) triangles link canonical })
                ])
          ]
        ]
