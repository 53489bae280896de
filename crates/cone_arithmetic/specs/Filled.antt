-- Sums that are computed at the columns that words of bits name.
use Rattle.std.specs.Prelude.{◌≡◌, ℕ, ◌+◌, ◌*◌, ◌/◌, ◌^◌, ◌<◌, ◌≤◌, List, Bool, false, length, slice_index, slice_index_or}
use Rattle.std.specs.Int.{bit_at}

-- the sums at the columns before column are computed and within the limit; the others are 0
pub record AreFilled (limit : ℕ) (z : List ℕ) (column : ℕ) (sums : List ℕ) : Type 0 where
  pub count : length sums ≡ length z
  pub before : (j : ℕ) → j < column → slice_index sums j ≡ slice_index z j
  pub within : (j : ℕ) → j < column → slice_index z j ≤ limit
  pub after : (j : ℕ) → column ≤ j → slice_index sums j ≡ 0

-- from column to before end, each set bit is one of the columns of z, and z is 0 if the bit is not set
pub record NamesColumns (z : List ℕ) (column end bits : ℕ) : Type 0 where
  pub in_order : column ≤ end
  pub set : (i : ℕ) → bit_at bits i ≡ 1 → (column + i < length z) × (column + i < end)
  pub unset : (i : ℕ) → bit_at bits i ≡ 0 → column + i < end → slice_index z (column + i) ≡ 0

-- the words name the columns of the vector, 64 each
pub record NameColumns (z words : List ℕ) : Type 0 where
  pub count : length words ≡ (length z + 63) / 64
  pub each : (k : ℕ) → k < length words → NamesColumns z (64 * k) (64 * k + 64) (slice_index words k)

-- words of 64 bits name the columns of the vector
abbrev pub WordsNameColumns : List ℕ → List ℕ → Type 0
WordsNameColumns z words = ((k : ℕ) → slice_index words k < 2 ^ 64) → NameColumns z words

-- both vectors are 0 at each column outside the support
abbrev pub AreInside : List Bool → List ℕ → List ℕ → Type 0
AreInside support u w = (column : ℕ) → slice_index_or support column false ≡ false → (slice_index u column ≡ 0) × (slice_index w column ≡ 0)
