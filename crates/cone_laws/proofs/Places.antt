-- The bound, by the indices of a surface list.
use Rattle.std.proofs.Common.{◌≡◌, ◌≢◌, ℕ, ◌+◌, ◌<◌, ◌≤◌, ◌⊎◌, inl, inr, List, [], length, subst, sym, ap, ◌∙◌, arith}
use Rattle.std.proofs.lemmas.Bool.{cases_eq}
use Rattle.cone_definitions.specs.Vectors.{IsInsideUnion, ray_at}
use Rattle.cone_definitions.specs.Rows.{Row, IsPrimitiveExtreme}
use Rattle.cone_definitions.specs.Surfaces.{Clash, IsAdmissibleUnion, IsSurfaceList}
use Rattle.cone_definitions.specs.Elimination.{Step}
use Rattle.cone_definitions.proofs.Below.{all_or_one}
use Rattle.cone_definitions.proofs.Decided.{inside_union_or_not}
use Rattle.cone_definitions.proofs.Unions.{ray_primitive, third_ray}
use Rattle.cone_definitions.proofs.Unordered.{without_order, place_of}
use Rattle.cone_laws.specs.Unions.{union_size, HasThirdPlace}
use Rattle.cone_laws.specs.Laws.{HasNoThird}
use Rattle.cone_laws.specs.Meeting.{meeting_count}
use Rattle.cone_laws.proofs.Bound.{union_bound}
use Rattle.cone_laws.proofs.Meeting.{meeting_bound}

module _ (columns : ℕ) (rows : List Row) (pairs : List Clash) (rays : List (List ℕ)) (h : IsSurfaceList columns rows pairs rays)
    (i j : ℕ) (i_in : i < length rays) (j_in : j < length rays) (clear : IsAdmissibleUnion pairs (ray_at rays i) (ray_at rays j)) where
  -- a step after these rows, with any row
  step : Step
  step = record { columns = columns; pairs = pairs; before = rows; row = [] }

  abbrev IsFirstOrSecond : ℕ → Type 0
  IsFirstOrSecond k = IsInsideUnion (ray_at rays k) (ray_at rays i) (ray_at rays j) → (k ≡ i) ⊎ (k ≡ j)

  abbrev IsThird : ℕ → Type 0
  IsThird k = IsInsideUnion (ray_at rays k) (ray_at rays i) (ray_at rays j) × (k ≢ i) × (k ≢ j)

  no_third_from_places : ((k : ℕ) → k < length rays → IsFirstOrSecond k) → HasNoThird columns rows (ray_at rays i) (ray_at rays j)
  unfolding step
  no_third_from_places none v hv inside = let k = place_of step rays (without_order step.columns step.before step.pairs rays h) v (third_ray step (ray_at rays i) (ray_at rays j) v clear inside hv) in
      elim (none k.0 k.1 (subst (λ y. IsInsideUnion y (ray_at rays i) (ray_at rays j)) (sym k.2) inside)) [
        | inl e ↦ inl (sym k.2 ∙ ap (ray_at rays) e)
        | inr e ↦ inr (sym k.2 ∙ ap (ray_at rays) e)
      ]

  third_or_not : (k : ℕ) → IsFirstOrSecond k ⊎ IsThird k
  third_or_not k = elim (inside_union_or_not (ray_at rays k) (ray_at rays i) (ray_at rays j)) [
    | inr out ↦ inl (λ inside. absurd (out inside))
    | inl inside ↦ elim (cases_eq k i) [
      | inl e ↦ inl (λ _. inl e)
      | inr not_i ↦ elim (cases_eq k j) [
        | inl e ↦ inl (λ _. inr e)
        | inr not_j ↦ inr (inside, not_i, not_j)
      ]
    ]
  ]

  -- if a bound holds for a union without a third solution, and the union exceeds it, there is a third ray inside the
  -- union
  third_past : (most : ℕ) → (HasNoThird columns rows (ray_at rays i) (ray_at rays j) → union_size columns (ray_at rays i) (ray_at rays j) ≤ most) →
      most < union_size columns (ray_at rays i) (ray_at rays j) → HasThirdPlace rays i j
  third_past most bound large = elim (all_or_one IsFirstOrSecond IsThird third_or_not (length rays)) [
    | inl none ↦ absurd (omega (arith, bound (no_third_from_places none)))
    | inr found ↦ record { place = found.0; in_range = found.1; inside = found.2.0; not_first = found.2.1; not_second = found.2.2 }
  ]

  first_primitive : IsPrimitiveExtreme columns rows (ray_at rays i)
  unfolding step
  first_primitive = ray_primitive step (ray_at rays i) (h.vertex_surfaces i [] i_in)

  second_primitive : IsPrimitiveExtreme columns rows (ray_at rays j)
  unfolding step
  second_primitive = ray_primitive step (ray_at rays j) (h.vertex_surfaces j [] j_in)

  pub places_bound : ((k : ℕ) → k < length rays → IsFirstOrSecond k) → union_size columns (ray_at rays i) (ray_at rays j) ≤ length rows + 2
  places_bound none = union_bound columns rows (ray_at rays i) (ray_at rays j) first_primitive second_primitive (no_third_from_places none)

  pub large_third_place : length rows + 2 < union_size columns (ray_at rays i) (ray_at rays j) → HasThirdPlace rays i j
  large_third_place = third_past (length rows + 2) (union_bound columns rows (ray_at rays i) (ray_at rays j) first_primitive second_primitive)

  pub meeting_third_place : meeting_count rows (ray_at rays i) (ray_at rays j) + 2 < union_size columns (ray_at rays i) (ray_at rays j) → HasThirdPlace rays i j
  meeting_third_place = third_past (meeting_count rows (ray_at rays i) (ray_at rays j) + 2) (meeting_bound columns rows (ray_at rays i) (ray_at rays j) first_primitive second_primitive)
