-- Third rays by residuals: the columns of a ray that another ray does not have.
use Rattle.std.specs.Prelude.{◌≡◌, ◌≢◌, ℕ, ◌==◌, ◌<◌, ◌≤◌, ◌⊎◌, ◌↔◌, cond, List, map, length, slice_index}
use Rattle.std.specs.List.{All, range_with_len}
use Rattle.cone_definitions.specs.Vectors.{IsInside, IsInsideUnion, ray_at}
use Rattle.cone_definitions.specs.Surfaces.{Clash, IsAdmissibleUnion}
use Rattle.cone_laws.specs.Unions.{union_size}

-- the residual of x with respect to u: x where u is 0, and 0 elsewhere
abbrev pub residual : List ℕ → List ℕ → List ℕ
residual u x = map (λ column. cond (slice_index u column == 0) (slice_index x column) 0) (range_with_len 0 (length x))

-- t lies inside the union of u and w if and only if its residual lies inside that of w
abbrev pub ResidualsDecide : Type 0
ResidualsDecide = (u w t : List ℕ) → IsInsideUnion t u w ↔ IsInside (residual u t) (residual u w)

-- with respect to the ray at i, the residual of the ray at j contains that of no other ray
abbrev pub IsMinimalResidual : List (List ℕ) → ℕ → ℕ → Type 0
IsMinimalResidual rays i j = (k : ℕ) → k < length rays → k ≢ i → IsInside (residual (ray_at rays i) (ray_at rays k)) (residual (ray_at rays i) (ray_at rays j)) → k ≡ j

-- the union of the rays at i and j contains no third
abbrev pub HasNoThirdPlace : List (List ℕ) → ℕ → ℕ → Type 0
HasNoThirdPlace rays i j = (k : ℕ) → k < length rays → IsInsideUnion (ray_at rays k) (ray_at rays i) (ray_at rays j) → (k ≡ i) ⊎ (k ≡ j)

-- which is so if and only if that residual is minimal
abbrev pub MinimalResidualsHaveNoThird : Type 0
MinimalResidualsHaveNoThird = (rays : List (List ℕ)) (i j : ℕ) → IsMinimalResidual rays i j ↔ HasNoThirdPlace rays i j

-- no clashing pair has one column in u and the other in t: t is compatible with u
abbrev pub IsCompatibleWith : List Clash → List ℕ → List ℕ → Type 0
IsCompatibleWith pairs u t = All (λ pair. ((slice_index u pair.0 ≡ 0) ⊎ (slice_index t pair.1 ≡ 0)) × ((slice_index u pair.1 ≡ 0) ⊎ (slice_index t pair.0 ≡ 0))) pairs

-- Theorem: what lies inside a union without clashing pairs is compatible with u
abbrev pub InsideAreCompatible : Type 0
InsideAreCompatible = (pairs : List Clash) (u w t : List ℕ) → IsAdmissibleUnion pairs u w → IsInsideUnion t u w → IsCompatibleWith pairs u t

-- so only the compatible rays are compared
abbrev pub IsMinimalAmongCompatible : List Clash → List (List ℕ) → ℕ → ℕ → Type 0
IsMinimalAmongCompatible pairs rays i j = (k : ℕ) → k < length rays → k ≢ i → IsCompatibleWith pairs (ray_at rays i) (ray_at rays k) →
    IsInside (residual (ray_at rays i) (ray_at rays k)) (residual (ray_at rays i) (ray_at rays j)) → k ≡ j

abbrev pub CompatibleDecide : Type 0
CompatibleDecide = (pairs : List Clash) (rays : List (List ℕ)) (i j : ℕ) → IsAdmissibleUnion pairs (ray_at rays i) (ray_at rays j) →
    IsMinimalAmongCompatible pairs rays i j ↔ HasNoThirdPlace rays i j

-- a residual inside another has no more columns, and as many where they are equal, so that each is tested against
-- smaller ones alone
abbrev pub SmallerResidualsAlone : Type 0
SmallerResidualsAlone = (columns : ℕ) (u w t : List ℕ) → IsInsideUnion t u w → union_size columns u t ≤ union_size columns u w

abbrev pub EqualResidualsSpoil : Type 0
EqualResidualsSpoil = (columns : ℕ) (u w t : List ℕ) → length w ≡ columns → IsInsideUnion t u w → union_size columns u w ≤ union_size columns u t →
    IsInsideUnion w u t
