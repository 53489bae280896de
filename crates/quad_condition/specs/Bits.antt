-- Columns of the union of two supports, as bits of words.
use Rattle.std.specs.Prelude.{◌≡◌, ◌≢◌, ℕ, ◌+◌, ◌-◌, ◌*◌, ◌/◌, ◌%◌, ◌^◌, ◌<◌, ◌≤◌, List, true, ◌⊎◌, bit_or, slice_index}
use Rattle.std.specs.Int.{bit_at}
use Rattle.support_bits.specs.Words.{bit_of}

-- the column is in a or in b
abbrev pub IsOfEither : List ℕ → List ℕ → ℕ → Type 0
IsOfEither a b column = (bit_of a column ≡ true) ⊎ (bit_of b column ≡ true)

-- word k of the union of a and b
abbrev pub word_of_either : List ℕ → List ℕ → ℕ → ℕ
word_of_either a b k = bit_or (slice_index a k) (slice_index b k)

-- the word whose bit i is bit i + distance of here and next, the word after it
abbrev pub word_ahead : ℕ → ℕ → ℕ → ℕ
word_ahead here next distance = bit_or (here / 2 ^ distance) (next * 2 ^ (64 - distance) % 2 ^ 64)

-- a column of the mask and the one distance ahead both are in the union of a and b
pub record HasPairAhead (mask a b : List ℕ) (distance : ℕ) : Type 0 where
  pub column : ℕ
  pub marked : bit_of mask column ≡ true
  pub here : IsOfEither a b column
  pub ahead : IsOfEither a b (column + distance)

-- a column of the mask is in the union of a and b
pub record IsMarkedIn (mask a b : List ℕ) (column : ℕ) : Type 0 where
  pub marked : bit_of mask column ≡ true
  pub here : IsOfEither a b column

-- two different columns of the mask are in the union of a and b
pub record HasTwo (mask a b : List ℕ) : Type 0 where
  pub first : ℕ
  pub second : ℕ
  pub separate : first ≢ second
  pub first_in : IsMarkedIn mask a b first
  pub second_in : IsMarkedIn mask a b second

-- a column of the mask, from word from on, is in the union of a and b
pub record HasFrom (mask a b : List ℕ) (from : ℕ) : Type 0 where
  pub column : ℕ
  pub late : from ≤ column / 64
  pub is_in : IsMarkedIn mask a b column

-- two different bits of a word are set
pub record HasTwoBits (word : ℕ) : Type 0 where
  pub first : ℕ
  pub second : ℕ
  pub separate : first ≢ second
  pub first_below : first < 64
  pub second_below : second < 64
  pub first_set : bit_at word first ≡ 1
  pub second_set : bit_at word second ≡ 1
