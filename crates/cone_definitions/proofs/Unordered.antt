-- What the vertex surfaces of the rows before, in any order, say of a step, index by index.
use Rattle.std.proofs.Common.{◌≡◌, ℕ, ◌<◌, ◌⊎◌, inl, inr, List, [], length, get_or, subst, sym, ap, ◌∙◌}
use Rattle.std.proofs.lemmas.List.{get_or_default}
use Rattle.basic_lemmas.proofs.Lists.{one_place}
use Rattle.cone_definitions.specs.Vectors.{IsBefore, IsInsideUnion, ray_at}
use Rattle.cone_definitions.specs.Rows.{Row, IsPositiveAt, IsNegativeAt}
use Rattle.cone_definitions.specs.Surfaces.{Clash, IsAdmissibleUnion, IsSurfaceList}
use Rattle.cone_definitions.specs.Elimination.{Step, IsRay, IsPair}
use Rattle.cone_definitions.proofs.Lexicographic.{before_irreflexive}
use Rattle.cone_definitions.specs.Unordered.{HasSurfaces}

-- an ascending list is such a list
pub without_order : (columns : ℕ) (rows : List Row) (pairs : List Clash) (rays : List (List ℕ)) → IsSurfaceList columns rows pairs rays → HasSurfaces columns rows pairs rays
without_order columns rows pairs rays h = record {
  separate = λ i j d less within same. before_irreflexive (get_or rays i d) (subst (IsBefore (get_or rays i d)) (sym same) (h.ascending i j d less within));
  vertex_surfaces = h.vertex_surfaces;
  complete = h.complete;
}

module _ (step : Step) (rays : List (List ℕ)) (h : HasSurfaces step.columns step.before step.pairs rays) where
  pub place_of : (x : List ℕ) → IsRay step x → (k : ℕ) × (k < length rays) × (ray_at rays k ≡ x)
  place_of x r = let c = h.complete x r in (c.0, c.1, get_or_default rays c.0 [] x c.1 ∙ c.2)

  -- a ray is at one index
  pub place_is_one : (i k : ℕ) → i < length rays → k < length rays → ray_at rays k ≡ ray_at rays i → k ≡ i
  place_is_one i k i_in k_in same = one_place rays h.separate k i [] k_in i_in same

  -- the union of a pair at two indices contains no ray at a third index
  pub pair_third_place : (i j : ℕ) → i < length rays → j < length rays → IsPair step (ray_at rays i) (ray_at rays j) →
      (k : ℕ) → k < length rays → IsInsideUnion (ray_at rays k) (ray_at rays i) (ray_at rays j) → (k ≡ i) ⊎ (k ≡ j)
  pair_third_place i j li lj p k lk inside = elim (p.no_third (ray_at rays k) (h.vertex_surfaces k [] lk) inside) [
    | inl e ↦ inl (place_is_one i k li lk e)
    | inr e ↦ inr (place_is_one j k lj lk e)
  ]

  -- if no third ray is in the union, the two are a pair
  pub pair_from_places : (i j : ℕ) → i < length rays → j < length rays → IsPositiveAt step.row (ray_at rays i) → IsNegativeAt step.row (ray_at rays j) →
      IsAdmissibleUnion step.pairs (ray_at rays i) (ray_at rays j) →
      ((k : ℕ) → k < length rays → IsInsideUnion (ray_at rays k) (ray_at rays i) (ray_at rays j) → (k ≡ i) ⊎ (k ≡ j)) → IsPair step (ray_at rays i) (ray_at rays j)
  pair_from_places i j li lj positive negative clear no_third = record {
    u_ray = h.vertex_surfaces i [] li;
    w_ray = h.vertex_surfaces j [] lj;
    positive = positive;
    negative = negative;
    no_clash = clear;
    no_third = λ v ray inside. let k = place_of v ray in
        elim (no_third k.0 k.1 (subst (λ y. IsInsideUnion y (ray_at rays i) (ray_at rays j)) (sym k.2) inside)) [
          | inl e ↦ inl (sym k.2 ∙ ap (ray_at rays) e)
          | inr e ↦ inr (sym k.2 ∙ ap (ray_at rays) e)
        ];
  }
