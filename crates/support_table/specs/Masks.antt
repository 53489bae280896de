-- Words with a bit for each of at most 64 outer rays: for each column, and for each value of each byte of a support.
use Rattle.std.specs.Prelude.{◌≡◌, ℕ, ◌+◌, ◌*◌, ◌<◌, ◌⊎◌, ◌↔◌, List, Bool, length, slice_index, bit_or}
use Rattle.std.specs.Int.{bit_at}
use Rattle.support_bits.specs.Columns.{HasColumn}

-- bit b of the entry with index k is set
abbrev pub IsBitSet : List ℕ → ℕ → ℕ → Type 0
IsBitSet words k b = bit_at (slice_index words k) b ≡ 1

-- bit `bit` is set in the entry of each of the columns, and no other bit changes
pub record IsMaskAdded (columns : List Bool) (bit : ℕ) (old new : List ℕ) : Type 0 where
  pub count : length new ≡ length old
  pub found : (column b : ℕ) → IsBitSet new column b → IsBitSet old column b ⊎ ((b ≡ bit) × HasColumn columns column)
  pub kept : (column b : ℕ) → IsBitSet old column b → IsBitSet new column b
  pub added : (column : ℕ) → HasColumn columns column → IsBitSet new column bit

-- each bit that is set was set before, or is `bit` in the entry of a column that is not among the columns
pub record IsOutsideAdded (columns : List Bool) (bit : ℕ) (old new : List ℕ) : Type 0 where
  pub count : length new ≡ length old
  pub found : (column b : ℕ) → IsBitSet new column b → IsBitSet old column b ⊎ ((b ≡ bit) × (¬ HasColumn columns column))

-- bit b of the entry of a column is set if and only if b is below n and the column is in the b-th set
pub record AreMasksBelow (set : ℕ → List Bool) (columns n : ℕ) (masks : List ℕ) : Type 0 where
  pub count : length masks ≡ columns
  pub each : (column b : ℕ) → IsBitSet masks column b ↔ ((b < n) × HasColumn (set b) column)

-- the union of the masks of the columns, from first on, whose bits are set in the word
pub record IsWordMask (masks : List ℕ) (first word mask : ℕ) : Type 0 where
  pub found : (b : ℕ) → bit_at mask b ≡ 1 → (i : ℕ) × (i < 64) × (bit_at word i ≡ 1) × IsBitSet masks (first + i) b
  pub complete : (b i : ℕ) → bit_at word i ≡ 1 → IsBitSet masks (first + i) b → bit_at mask b ≡ 1

-- the union of the masks of the columns of the support
abbrev pub IsMarkOf : List ℕ → List Bool → ℕ → Type 0
IsMarkOf masks support mark = (b : ℕ) → (bit_at mark b ≡ 1) ↔ ((column : ℕ) × HasColumn support column × IsBitSet masks column b)

-- count entries from start on are appended, each with the bits of the mask
pub record AreMasksPushed (mask start count : ℕ) (old new : List ℕ) : Type 0 where
  pub count_is : length new ≡ length old + count
  pub kept : (k : ℕ) → k < length old → slice_index new k ≡ slice_index old k
  pub each : (m : ℕ) → m < count → slice_index new (length old + m) ≡ bit_or (slice_index old (start + m)) mask

-- 256 entries are appended: for each value of a byte the union of the masks of its columns, from first on
pub record IsByteAppended (masks : List ℕ) (first : ℕ) (old new : List ℕ) : Type 0 where
  pub count : length new ≡ length old + 256
  pub kept : (k : ℕ) → k < length old → slice_index new k ≡ slice_index old k
  pub each : (m : ℕ) → m < 256 → IsWordMask masks first m (slice_index new (length old + m))

-- for each byte, of as many as bytes says, and each of its values, the union of the masks of its columns
pub record AreByteMasks (masks : List ℕ) (bytes : ℕ) (table : List ℕ) : Type 0 where
  pub count : length table ≡ 256 * bytes
  pub each : (i m : ℕ) → i < bytes → m < 256 → IsWordMask masks (8 * i) m (slice_index table (256 * i + m))

-- the same for the eight bytes of a word whose first column is first, from entry start on
abbrev pub AreMasksOfWord : List ℕ → ℕ → ℕ → List ℕ → Type 0
AreMasksOfWord masks first start table = (i m : ℕ) → i < 8 → m < 256 → IsWordMask masks (first + 8 * i) m (slice_index table (start + 256 * i + m))
