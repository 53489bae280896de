-- The sign of a row at each ray, with its absolute value, and the pairs that a step combines.
use Rattle.std.specs.Prelude.{◌≡◌, ℕ, ◌<◌, ◌≤◌, ◌≢◌, ◌⊎◌, List, length, slice_index_or, Contains}
use Rattle.std.specs.List.{All, AllPairs}
use Rattle.cone_definitions.specs.Vectors.{IsInsideUnion, ray_at}
use Rattle.cone_definitions.specs.Rows.{Row, IsZeroAt, IsPositiveAt, IsNegativeAt, value_at, magnitude_at}
use Rattle.cone_definitions.specs.Surfaces.{Clash, IsAdmissibleUnion}
use Rattle.cone_definitions.specs.Elimination.{HasPartsWithin, HasLargePart}
use Rattle.cone_arithmetic.specs.Combinations.{IsReducedBy, HasFirstExceeding}
use Rattle.cone_definitions.specs.Unordered.{HasSurfaces}
use Rattle.ray_steps.specs.declared.signs.Sign.{Sign}
use Rattle.ray_steps.specs.declared.signs.Sign.TheVariants.{Zero, Positive, Negative}

-- the sign of the row at x, with its absolute value
abbrev pub IsSignAt : Row → List ℕ → Sign → Type 0
IsSignAt row x Zero = IsZeroAt row x
IsSignAt row x (Positive value) = IsPositiveAt row x × (value ≡ value_at row x)
IsSignAt row x (Negative value) = IsNegativeAt row x × (value ≡ magnitude_at row x)

-- the sign of the row at each ray, where neither part of the row exceeds the limit
pub record AreSigns (limit : ℕ) (row : Row) (rays : List (List ℕ)) (signs : List Sign) : Type 0 where
  pub count : length signs ≡ length rays
  pub each : (k : ℕ) (d : Sign) → k < length signs → IsSignAt row (ray_at rays k) (slice_index_or signs k d)
  pub within : All (HasPartsWithin limit row) rays

-- the sign is negative
abbrev pub IsNegative : Sign → Type 0
IsNegative Zero = ⊥
IsNegative (Positive value) = ⊥
IsNegative (Negative value) = Unit {0}

-- the indices below n with a negative sign, ascending
pub record AreNegativePlaces (signs : List Sign) (n : ℕ) (places : List ℕ) : Type 0 where
  pub in_range : All (λ place. place < n) places
  pub ascending : AllPairs (λ one other. one < other) places
  pub complete : (place : ℕ) → place < n → IsNegative (slice_index_or signs place Zero) → Contains places place

-- x is the first ray at which a part of the row exceeds the limit
pub record IsFirstLargeRay (limit : ℕ) (row : Row) (rays : List (List ℕ)) (x : List ℕ) : Type 0 where
  pub place : ℕ
  pub in_range : place < length rays
  pub is : x ≡ ray_at rays place
  pub large : HasLargePart limit row (ray_at rays place)
  pub earlier : (k : ℕ) → k < place → HasPartsWithin limit row (ray_at rays k)

-- rays i and j are adjacent: the union of their supports contains no clashing pair and the support of no third ray
pub record IsAdjacentPair (pairs : List Clash) (rays : List (List ℕ)) (i j : ℕ) : Type 0 where
  pub no_clash : IsAdmissibleUnion pairs (ray_at rays i) (ray_at rays j)
  pub no_third : (k : ℕ) → k < length rays → IsInsideUnion (ray_at rays k) (ray_at rays i) (ray_at rays j) → (k ≡ i) ⊎ (k ≡ j)

-- the absolute value, unless the sign is zero, lies between 1 and the limit
abbrev pub IsBoundedSign : ℕ → Sign → Type 0
IsBoundedSign limit Zero = Unit {0}
IsBoundedSign limit (Positive value) = (1 ≤ value) × (value ≤ limit)
IsBoundedSign limit (Negative value) = (1 ≤ value) × (value ≤ limit)

-- rays u and w are adjacent, u positive and w negative
pub record IsSignedPair (pairs : List Clash) (rays : List (List ℕ)) (signs : List Sign) (u w : ℕ) : Type 0 where
  pub u_in_range : u < length rays
  pub w_in_range : w < length rays
  pub at_u : ℕ
  pub at_w : ℕ
  pub positive : slice_index_or signs u Zero ≡ Positive at_u
  pub negative : slice_index_or signs w Zero ≡ Negative at_w
  pub face : IsAdjacentPair pairs rays u w

-- the pair u, w comes before i, j in lexicographic order: it is among the pairs done so far
abbrev pub IsDoneBefore : ℕ → ℕ → ℕ → ℕ → Type 0
IsDoneBefore u w i j = (u < i) ⊎ ((u ≡ i) × (w < j))

-- x is the combination of a pair done so far
pub record ComesFromPlaces (limit : ℕ) (pairs : List Clash) (rays : List (List ℕ)) (signs : List Sign) (i j : ℕ) (x : List ℕ) : Type 0 where
  pub u : ℕ
  pub w : ℕ
  pub taken : IsDoneBefore u w i j
  pub pair : IsSignedPair pairs rays signs u w
  pub reduced : IsReducedBy limit pair.at_u pair.at_w (ray_at rays u) (ray_at rays w) x

-- the combination of the pair is in the list
pub record GivesFrom (limit : ℕ) (pairs : List Clash) (rays : List (List ℕ)) (signs : List Sign) (made : List (List ℕ)) (u w : ℕ) : Type 0 where
  pub pair : IsSignedPair pairs rays signs u w
  pub x : List ℕ
  pub occurs : Contains made x
  pub reduced : IsReducedBy limit pair.at_u pair.at_w (ray_at rays u) (ray_at rays w) x

-- the rays are the vertex surfaces of some rows, in any order, and the signs are those of a further row
pub record IsStepAt (limit : ℕ) (pairs : List Clash) (rays : List (List ℕ)) (signs : List Sign) : Type 0 where
  pub columns : ℕ
  pub before : List Row
  pub row : Row
  pub surfaces : HasSurfaces columns before pairs rays
  pub signed : AreSigns limit row rays signs

-- the list consists of the combinations of the pairs done so far, each once
pub record IsMadeUpTo (limit : ℕ) (pairs : List Clash) (rays : List (List ℕ)) (signs : List Sign) (i j : ℕ) (made : List (List ℕ)) : Type 0 where
  pub comes : All (ComesFromPlaces limit pairs rays signs i j) made
  pub gives : (u w : ℕ) → IsDoneBefore u w i j → IsSignedPair pairs rays signs u w → GivesFrom limit pairs rays signs made u w
  pub separate : IsStepAt limit pairs rays signs → AllPairs (λ x y. x ≢ y) made

-- x, y is the first pair of which an entry exceeds the limit
pub record IsFirstLargePair (limit : ℕ) (pairs : List Clash) (rays : List (List ℕ)) (signs : List Sign) (x y : List ℕ) : Type 0 where
  pub u : ℕ
  pub w : ℕ
  pub x_is : x ≡ ray_at rays u
  pub y_is : y ≡ ray_at rays w
  pub pair : IsSignedPair pairs rays signs u w
  pub column : ℕ
  pub large : HasFirstExceeding limit pair.at_u pair.at_w (ray_at rays u) (ray_at rays w) column
  pub earlier : (k l : ℕ) → IsDoneBefore k l u w → IsSignedPair pairs rays signs k l →
      (p : IsSignedPair pairs rays signs k l) × (z : List ℕ) × IsReducedBy limit p.at_u p.at_w (ray_at rays k) (ray_at rays l) z

-- x is a ray of sign zero with an index of at least m
pub record ComesFromZero (rays : List (List ℕ)) (signs : List Sign) (m : ℕ) (x : List ℕ) : Type 0 where
  pub place : ℕ
  pub from : m ≤ place
  pub in_range : place < length rays
  pub zero : slice_index_or signs place Zero ≡ Zero
  pub is : x ≡ ray_at rays place

-- the list consists of the combinations of all pairs and of the rays of sign zero from index m on, each once
pub record IsNextFrom (limit : ℕ) (pairs : List Clash) (rays : List (List ℕ)) (signs : List Sign) (m : ℕ) (next : List (List ℕ)) : Type 0 where
  pub comes : All (λ x. ComesFromZero rays signs m x ⊎ ComesFromPlaces limit pairs rays signs (length rays) 0 x) next
  pub keeps : (k : ℕ) → m ≤ k → k < length rays → slice_index_or signs k Zero ≡ Zero → Contains next (ray_at rays k)
  pub gives : (u w : ℕ) → IsSignedPair pairs rays signs u w → GivesFrom limit pairs rays signs next u w
  pub separate : IsStepAt limit pairs rays signs → AllPairs (λ x y. x ≢ y) next
