-- Pairs of columns that are the residual of a candidate.
use Rattle.std.specs.Prelude.{◌≡◌, ℕ, ◌+◌, ◌*◌, ◌/◌, ◌%◌, ◌<◌, ◌⊎◌, List, Bool, true, false, length, Contains, slice_index, slice_index_or}
use Rattle.std.specs.Int.{bit_at}
use Rattle.std.specs.List.{All, AllPairs}
use Rattle.support_bits.specs.Columns.{HasColumn, IsInsideUnionOf}
use Rattle.support_table.specs.Counts.{columns_in_either}
use Rattle.support_table.specs.declared.candidates.Candidate.{Candidate}
use Rattle.support_table.specs.Residuals.{support_at}

-- the size of a candidate whose residual has two columns
abbrev pub pair_size : List Bool → ℕ
pair_size outer = columns_in_either outer outer + 2

-- the residual of a listed candidate consists of the two columns
pub record IsPair (supports : List (List Bool)) (outer : List Bool) (candidates : List Candidate) (one other : ℕ) : Type 0 where
  pub candidate : Candidate
  pub listed : Contains candidates candidate
  pub size : candidate.size ≡ pair_size outer
  pub columns : (column : ℕ) → HasColumn (support_at supports candidate.place) column → ¬ HasColumn outer column → (column ≡ one) ⊎ (column ≡ other)

-- the bit of one column among the width words of another
abbrev pub partner_bit : ℕ → List ℕ → ℕ → ℕ → ℕ
partner_bit width partners column other = bit_at (slice_index partners (column * width + other / 64)) (other % 64)

-- words for each column; each bit of them that is set is that of a column with which it is a pair
pub record ArePartners (supports : List (List Bool)) (outer : List Bool) (candidates : List Candidate) (partners : List ℕ) : Type 0 where
  pub count : length partners ≡ length outer * ((length outer + 63) / 64)
  pub pairs : (column other : ℕ) → other / 64 < (length outer + 63) / 64 → partner_bit ((length outer + 63) / 64) partners column other ≡ 1 → IsPair supports outer candidates column other

-- the residual of the ray with index place contains a pair
pub record HasPair (supports : List (List Bool)) (outer : List Bool) (candidates : List Candidate) (place : ℕ) : Type 0 where
  pub pair : Candidate
  pub listed : Contains candidates pair
  pub size : pair.size ≡ pair_size outer
  pub inside : IsInsideUnionOf (support_at supports pair.place) outer (support_at supports place)

-- the candidate's residual has more than two columns, and contains a pair, so it is not minimal
abbrev pub IsBeyondPair : List (List Bool) → List Bool → List Candidate → Candidate → Type 0
IsBeyondPair supports outer candidates r = (pair_size outer < r.size) × HasPair supports outer candidates r.place

-- those of the first n candidates that have the flag `true`, without some of those that are beyond a pair
pub record AreTested (supports : List (List Bool)) (outer : List Bool) (selected : List Bool) (candidates : List Candidate) (n : ℕ) (tested : List Candidate) : Type 0 where
  pub from : All (λ r. (k : ℕ) × (k < n) × (k < length candidates) × ((d : Candidate) → slice_index_or candidates k d ≡ r)) tested
  pub ascending : AllPairs (λ r s. r.place < s.place) candidates → AllPairs (λ r s. r.place < s.place) tested
  pub complete : (k : ℕ) (d : Candidate) → k < n → k < length candidates → slice_index_or selected (slice_index_or candidates k d).place false ≡ true →
      Contains tested (slice_index_or candidates k d) ⊎ IsBeyondPair supports outer candidates (slice_index_or candidates k d)

-- those of the first n candidates that have at most `most` columns, without some of those that are beyond a pair
pub record AreKept (supports : List (List Bool)) (outer : List Bool) (most : ℕ) (candidates : List Candidate) (n : ℕ) (kept : List Candidate) : Type 0 where
  pub each : All (Contains candidates) kept
  pub complete : (k : ℕ) (d : Candidate) → k < n → k < length candidates →
      Contains kept (slice_index_or candidates k d) ⊎ (most < (slice_index_or candidates k d).size) ⊎ IsBeyondPair supports outer candidates (slice_index_or candidates k d)
