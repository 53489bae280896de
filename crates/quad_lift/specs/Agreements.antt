-- Whether heights and quads agree, and the entries of a lift.
use Rattle.std.specs.Prelude.{◌≡◌, ℕ, ◌+◌, ◌-◌, ◌*◌, ◌/◌, ◌%◌, ◌<◌, ◌≤◌, List, length, nat_lt, slice_index, if◌then◌else◌}
use Rattle.skeleton_definitions.specs.Links.{vertex_number}
use Rattle.skeleton_definitions.specs.Skeleton.{Skeleton}
use Rattle.quad_lift.specs.Crossings.{IsCrossing}

-- height plus quads are equal on both sides of face f at vertex i
abbrev pub Agrees : Skeleton → List ℕ → List ℕ → ℕ → ℕ → Type 0
Agrees s xs heights i f = (other up down : ℕ) → IsCrossing s xs i f other up down → slice_index heights i + up ≡ slice_index heights other + down

-- Agrees at each face of vertex i
abbrev pub AgreesAround : Skeleton → List ℕ → List ℕ → ℕ → Type 0
AgreesAround s xs heights i = (f : ℕ) → f < 4 → Agrees s xs heights i f

-- the least class with a vertex at which they do not agree, or the number of classes
pub record IsLeastWrong (s : Skeleton) (xs heights : List ℕ) (least : ℕ) : Type 0 where
  pub within : least ≤ s.vertices.count
  pub before : (i : ℕ) → i < 4 * length s.rows → slice_index s.vertices.classes i < least → AgreesAround s xs heights i
  pub wrong : least < s.vertices.count → (i : ℕ) × (i < 4 * length s.rows) × (slice_index s.vertices.classes i ≡ least) × (AgreesAround s xs heights i → ⊥)

-- the least height of class c
pub record IsLeastHeight (s : Skeleton) (heights : List ℕ) (c low : ℕ) : Type 0 where
  pub member : ℕ
  pub within : member < 4 * length s.rows
  pub in_class : slice_index s.vertices.classes member ≡ c
  pub reached : slice_index heights member ≡ low
  pub least : (i : ℕ) → i < 4 * length s.rows → slice_index s.vertices.classes i ≡ c → low ≤ slice_index heights i

-- the least height of each class
pub record AreLeastHeights (s : Skeleton) (heights lows : List ℕ) : Type 0 where
  pub one_each : length lows ≡ s.vertices.count
  pub each : (c : ℕ) → c < s.vertices.count → IsLeastHeight s heights c (slice_index lows c)

-- the entry of the lift: for a triangle its height above the least of its class, otherwise the quads
abbrev pub lifted_entry : Skeleton → List ℕ → List ℕ → List ℕ → ℕ → ℕ
lifted_entry s xs heights lows i =
    if nat_lt (i % 7) 4 then slice_index heights (vertex_number (i / 7) (i % 7)) - slice_index lows (slice_index s.vertices.classes (vertex_number (i / 7) (i % 7)))
    else slice_index xs (3 * (i / 7) + (i % 7 - 4))
