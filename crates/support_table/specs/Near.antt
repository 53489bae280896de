-- The rays of a part that do not clash with all outer rays of a chunk.
use Rattle.std.specs.Prelude.{◌≡◌, ℕ, ◌<◌, ◌↔◌, List, Bool, true, Option, length, Contains, slice_index, IfSome, None}
use Rattle.std.specs.Int.{bit_at}
use Rattle.std.specs.List.{All, AllPairs}
use Rattle.support_bits.specs.Columns.{HasColumn, Meets}
use Rattle.support_bits.specs.Words.{bit_of}
use Rattle.support_table.specs.declared.near.Near.{Near}
use Rattle.support_table.specs.declared.outer.Outer.{Outer}
use Rattle.support_table.specs.Masks.{IsBitSet, IsMarkOf, AreMasksBelow}
use Rattle.support_table.specs.Outside.{HaveTwo}
use Rattle.support_table.specs.Parts.{outer_at}
use Rattle.support_table.specs.Residuals.{support_at}

-- the b-th outer ray of a chunk
abbrev pub chosen_at : List Outer → List ℕ → ℕ → Outer
chosen_at outers chosen b = outer_at outers (slice_index chosen b)

-- bit b of the entry of a column is set if and only if b is below n and the b-th outer ray clashes with the column
abbrev pub AreClashMasks : List Outer → List ℕ → ℕ → ℕ → List ℕ → Type 0
AreClashMasks outers chosen columns n masks = AreMasksBelow (λ b. (chosen_at outers chosen b).joined) columns n masks

-- a bit b that is set in the entry of a column is below n, and the b-th outer ray lacks the column
pub record AreLackMasks (outers : List Outer) (chosen : List ℕ) (columns n : ℕ) (masks : List ℕ) : Type 0 where
  pub count : length masks ≡ columns
  pub each : (column b : ℕ) → IsBitSet masks column b → (b < n) × (¬ HasColumn (chosen_at outers chosen b).support column)

-- each column whose bit is set in the words has all of the first count bits set in its mask
abbrev pub AreFullColumns : List ℕ → ℕ → List ℕ → Type 0
AreFullColumns masks count words = (column b : ℕ) → bit_of words column ≡ true → b < count → IsBitSet masks column b

-- the entry of the ray with index place, or none if all of the first count bits of its mark are set
pub record IsNearBy (clashing lacking : List ℕ) (supports : List (List Bool)) (count place : ℕ) (it : Option Near) : Type 0 where
  pub none : it ≡ None → (b : ℕ) → b < count → b < 64 → (column : ℕ) × HasColumn (support_at supports place) column × IsBitSet clashing column b
  pub some : IfSome it (λ near. (near.place ≡ place) × IsMarkOf clashing (support_at supports place) near.clash × HaveTwo lacking (support_at supports place) near.two)

-- entries, ascending, of rays below n; a ray that has none has all of the first count bits of its mark set
pub record AreNearBy (clashing lacking : List ℕ) (supports : List (List Bool)) (count n : ℕ) (near : List Near) : Type 0 where
  pub below : All (λ it. it.place < n) near
  pub marks : All (λ it. IsMarkOf clashing (support_at supports it.place) it.clash) near
  pub twos : All (λ it. HaveTwo lacking (support_at supports it.place) it.two) near
  pub ascending : AllPairs (λ one other. one.place < other.place) near
  pub complete : (place b : ℕ) → place < n → b < count → b < 64 → ¬ ((column : ℕ) × HasColumn (support_at supports place) column × IsBitSet clashing column b) →
      (it : Near) × Contains near it × (it.place ≡ place)

-- two columns of the support lie outside the outer ray
pub record HasTwoOutside (support outer : List Bool) : Type 0 where
  pub one : ℕ
  pub other : ℕ
  pub less : one < other
  pub has_one : HasColumn support one
  pub has_other : HasColumn support other
  pub lacks_one : ¬ HasColumn outer one
  pub lacks_other : ¬ HasColumn outer other

-- bit b of `clash` is set if and only if the ray clashes with the b-th outer ray, and if bit b of `two` is set two of
-- the ray's columns lie outside that one's
pub record IsNearOf (outers : List Outer) (chosen : List ℕ) (supports : List (List Bool)) (it : Near) : Type 0 where
  pub in_range : it.place < length supports
  pub clash : (b : ℕ) → b < length chosen → (bit_at it.clash b ≡ 1) ↔ Meets (support_at supports it.place) (chosen_at outers chosen b).joined
  pub two : (b : ℕ) → b < length chosen → bit_at it.two b ≡ 1 → HasTwoOutside (support_at supports it.place) (chosen_at outers chosen b).support

-- entries, ascending, among which are those of all rays that clash with not all outer rays
pub record AreNearRays (outers : List Outer) (chosen : List ℕ) (supports : List (List Bool)) (near : List Near) : Type 0 where
  pub each : All (IsNearOf outers chosen supports) near
  pub ascending : AllPairs (λ one other. one.place < other.place) near
  pub complete : (place b : ℕ) → place < length supports → b < length chosen → ¬ Meets (support_at supports place) (chosen_at outers chosen b).joined → (it : Near) × Contains near it × (it.place ≡ place)
