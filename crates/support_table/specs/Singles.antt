-- Columns that alone are the residual of a candidate.
use Rattle.std.specs.Prelude.{◌≡◌, ℕ, ◌+◌, ◌<◌, ◌≤◌, List, Bool, [], length, slice_index_or}
use Rattle.support_bits.specs.Columns.{HasColumn}
use Rattle.support_table.specs.declared.outer.Outer.{Outer}
use Rattle.support_table.specs.Counts.{columns_in_either}
use Rattle.support_table.specs.Masks.{AreMasksBelow}
use Rattle.support_table.specs.Near.{chosen_at}
use Rattle.support_table.specs.Residuals.{support_at, IsCandidate}
use Rattle.support_table.specs.Tables.{Table}

-- the column is in the residual of a candidate that has at most one column outside the outer ray
pub record IsSingle (supports : List (List Bool)) (outer joined : List Bool) (own most column : ℕ) : Type 0 where
  pub place : ℕ
  pub candidate : IsCandidate supports outer joined own most place
  pub wide : length (support_at supports place) ≡ length outer
  pub single : columns_in_either outer (support_at supports place) ≤ columns_in_either outer outer + 1
  pub has : HasColumn (support_at supports place) column
  pub outside : ¬ HasColumn outer column

-- each column of the set is one
abbrev pub AreSingles : List (List Bool) → List Bool → List Bool → ℕ → ℕ → List Bool → Type 0
AreSingles supports outer joined own most single = (column : ℕ) → HasColumn single column → IsSingle supports outer joined own most column

-- for each outer ray of a chunk a set of such columns
pub record AreAllSingles (rays : Table) (outers : List Outer) (chosen : List ℕ) (most : ℕ) (singles : List (List Bool)) : Type 0 where
  pub count : length singles ≡ length chosen
  pub columns : (b : ℕ) → b < length chosen → length (slice_index_or singles b []) ≡ rays.columns
  pub each : (b : ℕ) → b < length chosen → AreSingles rays.supports (chosen_at outers chosen b).support (chosen_at outers chosen b).joined (chosen_at outers chosen b).place most (slice_index_or singles b [])

-- bit b of the entry of a column is set if and only if b is below n and the column is in the b-th set
abbrev pub AreSingleMasks : List (List Bool) → ℕ → ℕ → List ℕ → Type 0
AreSingleMasks singles columns n masks = AreMasksBelow (λ b. slice_index_or singles b []) columns n masks
