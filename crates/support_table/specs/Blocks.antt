-- Blocks of consecutive entries of a list of words of equal width, with the bits that all entries of a block have.
use Rattle.std.specs.Prelude.{◌≡◌, ℕ, ◌+◌, ◌*◌, ◌/◌, ◌<◌, ◌≤◌, List, length, take, drop, slice_index}
use Rattle.std.specs.Int.{bit_at}
use Rattle.std.specs.Int.Bits.{bit_and}

-- the number of entries of a block
abbrev pub block_size : ℕ
block_size = 32

-- the number of supports of a block of blocks
abbrev pub group_size : ℕ
group_size = 1024

-- each bit that is set in m is set in n
abbrev pub IsWithin : ℕ → ℕ → Type 0
IsWithin m n = (i : ℕ) → bit_at m i ≡ 1 → bit_at n i ≡ 1

-- the first `width` words of `blocks` from `start` on are within those of `words` from `first` on, one by one
abbrev pub AreWithin : ℕ → List ℕ → ℕ → List ℕ → ℕ → Type 0
AreWithin width blocks start words first = (j : ℕ) → j < width → IsWithin (slice_index blocks (start + j)) (slice_index words (first + j))

-- the words of the first `closed` blocks: a bit that is set for a block is set for each of its entries
pub record AreBlocks (width count closed : ℕ) (words blocks : List ℕ) : Type 0 where
  pub most : block_size * closed ≤ count
  pub total : length blocks ≡ closed * width
  pub common : (place : ℕ) → place < block_size * closed → AreWithin width blocks (place / block_size * width) words (place * width)

-- the words of the block with index `block`, which is one of the first `closed` ones
pub record IsBlockWords (width closed : ℕ) (blocks : List ℕ) (block : ℕ) (common : List ℕ) : Type 0 where
  pub less : block < closed
  pub is : common ≡ take width (drop (block * width) blocks)

-- the words of `old` are in `new`, with the same indices
abbrev pub AreKept : List ℕ → List ℕ → Type 0
AreKept old new = (j : ℕ) → j < length old → slice_index new j ≡ slice_index old j

-- the n words from `start` on keep the bits that are set in `words` too, and no other word changes
pub record KeepsCommon (start n : ℕ) (words old new : List ℕ) : Type 0 where
  pub count : length new ≡ length old
  pub before : (j : ℕ) → j < start → slice_index new j ≡ slice_index old j
  pub kept : (j : ℕ) → j < n → slice_index new (start + j) ≡ bit_and (slice_index old (start + j)) (slice_index words j)
  pub after : (j : ℕ) → n ≤ j → slice_index new (start + j) ≡ slice_index old (start + j)

-- `width` words are appended to `old`: a bit that is set in them is set for each of the n entries from `first` on
pub record AreCommonOf (width first n : ℕ) (words old new : List ℕ) : Type 0 where
  pub count : length new ≡ length old + width
  pub before : (j : ℕ) → j < length old → slice_index new j ≡ slice_index old j
  pub common : (k : ℕ) → k < n → AreWithin width new (length old) words ((first + k) * width)

-- the words of the block whose first entry is `first` are appended
abbrev pub IsBlockPushed : ℕ → ℕ → List ℕ → List ℕ → List ℕ → Type 0
IsBlockPushed width first words old new = AreCommonOf width first block_size words old new
