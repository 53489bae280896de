-- Which of at most 64 outer rays lack one, or two, of some columns; the masks have for each column those that lack it.
use Rattle.std.specs.Prelude.{◌≡◌, ℕ, ◌+◌, ◌*◌, ◌<◌, ◌⊎◌, List, Bool, length, slice_index_or}
use Rattle.std.specs.Int.{bit_at}
use Rattle.support_bits.specs.Columns.{HasColumn}
use Rattle.support_table.specs.declared.outside.Outside.{Outside}
use Rattle.support_table.specs.Masks.{IsBitSet}

-- the entry with index k of a list
abbrev pub outside_at : List Outside → ℕ → Outside
outside_at table k = slice_index_or table k (record { one = 0; two = 0 })

-- each bit set in `one` is that of a column of the word, whose first column is first, and each in `two` that of two of
-- them
pub record IsOutside (masks : List ℕ) (first word : ℕ) (it : Outside) : Type 0 where
  pub one : (b : ℕ) → bit_at it.one b ≡ 1 → (i : ℕ) × (i < 64) × (bit_at word i ≡ 1) × IsBitSet masks (first + i) b
  pub two : (b : ℕ) → bit_at it.two b ≡ 1 → (i k : ℕ) × (i < k) × (k < 64) × (bit_at word i ≡ 1) × (bit_at word k ≡ 1) × IsBitSet masks (first + i) b × IsBitSet masks (first + k) b

-- each bit set in `one` is set in one of a and b, and each in `two` in `two` of one of them or in `one` of both
pub record IsBothOf (a b it : Outside) : Type 0 where
  pub one : (k : ℕ) → bit_at it.one k ≡ 1 → (bit_at a.one k ≡ 1) ⊎ (bit_at b.one k ≡ 1)
  pub two : (k : ℕ) → bit_at it.two k ≡ 1 → (bit_at a.two k ≡ 1) ⊎ (bit_at b.two k ≡ 1) ⊎ ((bit_at a.one k ≡ 1) × (bit_at b.one k ≡ 1))

-- count entries from start on are appended, each with one column more
pub record AreOutsidesPushed (mask start count : ℕ) (old new : List Outside) : Type 0 where
  pub count_is : length new ≡ length old + count
  pub kept : (k : ℕ) → k < length old → outside_at new k ≡ outside_at old k
  pub each : (m : ℕ) → m < count → IsBothOf (outside_at old (start + m)) (record { one = mask; two = 0 }) (outside_at new (length old + m))

-- 256 entries are appended, for each value of a byte, whose first column is first
pub record IsByteOutsideAppended (masks : List ℕ) (first : ℕ) (old new : List Outside) : Type 0 where
  pub count : length new ≡ length old + 256
  pub kept : (k : ℕ) → k < length old → outside_at new k ≡ outside_at old k
  pub each : (m : ℕ) → m < 256 → IsOutside masks first m (outside_at new (length old + m))

-- an entry for each byte, of as many as bytes says, and for each of its values
pub record AreByteOutsides (masks : List ℕ) (bytes : ℕ) (table : List Outside) : Type 0 where
  pub count : length table ≡ 256 * bytes
  pub each : (i m : ℕ) → i < bytes → m < 256 → IsOutside masks (8 * i) m (outside_at table (256 * i + m))

-- the same for the eight bytes of a word whose first column is first, from entry start on
abbrev pub AreOutsidesOfWord : List ℕ → ℕ → ℕ → List Outside → Type 0
AreOutsidesOfWord masks first start table = (i m : ℕ) → i < 8 → m < 256 → IsOutside masks (first + 8 * i) m (outside_at table (start + 256 * i + m))

-- each bit set is that of two columns of the support
abbrev pub HaveTwo : List ℕ → List Bool → ℕ → Type 0
HaveTwo masks support bits = (b : ℕ) → bit_at bits b ≡ 1 → (c d : ℕ) × (c < d) × HasColumn support c × HasColumn support d × IsBitSet masks c b × IsBitSet masks d b
