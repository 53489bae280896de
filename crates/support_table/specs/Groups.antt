-- Candidates in groups by a column of their residual, and whether the residual of another lies inside one.
use Rattle.std.specs.Prelude.{◌≡◌, ◌≢◌, ℕ, ◌+◌, ◌<◌, ◌≤◌, ◌⊎◌, List, Bool, true, false, length, Contains, slice_index, slice_index_or}
use Rattle.std.specs.List.{All, AllPairs}
use Rattle.support_bits.specs.Columns.{HasColumn, IsInsideUnionOf}
use Rattle.support_bits.specs.Words.{bit_of}
use Rattle.support_table.specs.Counts.{columns_in_either}
use Rattle.support_table.specs.declared.groups.Grouped.{Grouped}
use Rattle.support_table.specs.declared.groups.Ranges.{Ranges}
use Rattle.support_table.specs.declared.candidates.Candidate.{Candidate}
use Rattle.support_table.specs.Residuals.{support_at}
use Rattle.support_table.specs.Candidates.{HasPlace}

-- the number is 0, or one more than a column that is set in words and not in outer
abbrev pub IsColumnOutside : List ℕ → List ℕ → ℕ → Type 0
IsColumnOutside words outer group = (group ≡ 0) ⊎ ((column : ℕ) × (group ≡ column + 1) × (bit_of words column ≡ true) × (bit_of outer column ≡ false))

-- the group of a ray: 0, or one more than a column of its residual
abbrev pub IsGroup : List Bool → List Bool → ℕ → Type 0
IsGroup outer s group = (column : ℕ) → group ≡ column + 1 → HasColumn s column × (¬ HasColumn outer column)

-- the entry of a ray, with its group and the number of columns of its union with the outer ray
pub record IsGrouped (supports : List (List Bool)) (outer : List Bool) (it : Grouped) : Type 0 where
  pub in_range : it.place < length supports
  pub wide : length (support_at supports it.place) ≡ length outer
  pub group : IsGroup outer (support_at supports it.place) it.group
  pub size : it.size ≡ columns_in_either outer (support_at supports it.place)

-- an entry of the list has index place
abbrev pub HasEntry : List Grouped → ℕ → Type 0
HasEntry list place = (it : Grouped) × Contains list it × (it.place ≡ place)

-- the first n candidates, each in its group, in any order
pub record AreGrouped (supports : List (List Bool)) (outer : List Bool) (candidates : List Candidate) (n : ℕ) (list : List Grouped) : Type 0 where
  pub each : All (IsGrouped supports outer) list
  pub from : All (λ it. HasPlace candidates it.place) list
  pub complete : (k : ℕ) (d : Candidate) → k < n → k < length candidates → HasEntry list (slice_index_or candidates k d).place

-- the entry with index k of a list
abbrev pub grouped_at : List Grouped → ℕ → Grouped
grouped_at list k = slice_index_or list k (record { place = 0; group = 0; size = 0 })

-- the ranges of `groups` groups contain the first n entries, each that of its own group
pub record AreRanges (list : List Grouped) (groups n : ℕ) (ranges : Ranges) : Type 0 where
  pub starts : length ranges.starts.items ≡ groups
  pub ends : length ranges.ends.items ≡ groups
  pub low : (group : ℕ) → slice_index ranges.starts.items group ≤ n
  pub within : (group : ℕ) → slice_index ranges.ends.items group ≤ n
  pub from : (k : ℕ) → k < n → slice_index ranges.starts.items (grouped_at list k).group ≤ k
  pub to : (k : ℕ) → k < n → k < slice_index ranges.ends.items (grouped_at list k).group

-- entries in groups with the ranges of these
pub record AreFamily (supports : List (List Bool)) (outer : List Bool) (list : List Grouped) (ranges : Ranges) : Type 0 where
  pub each : All (IsGrouped supports outer) list
  pub below : All (λ it. it.group < length ranges.ends.items) list
  pub hold : AreRanges list (length ranges.ends.items) (length list) ranges

-- the entry with index k is another ray than the one with index place, and its residual lies inside that one's
pub record IsOtherInside (supports : List (List Bool)) (outer : List Bool) (list : List Grouped) (place k : ℕ) : Type 0 where
  pub in_range : k < length list
  pub other : (grouped_at list k).place ≢ place
  pub inside : IsInsideUnionOf (support_at supports (grouped_at list k).place) outer (support_at supports place)

-- an entry is such a ray
abbrev pub HasOtherInside : List (List Bool) → List Bool → List Grouped → ℕ → Type 0
HasOtherInside supports outer list place = (k : ℕ) × IsOtherInside supports outer list place k

-- no entry of the group is such a ray
abbrev pub HasNoneOfGroup : List (List Bool) → List Bool → List Grouped → ℕ → ℕ → Type 0
HasNoneOfGroup supports outer list place group = (k : ℕ) → (grouped_at list k).group ≡ group → ¬ IsOtherInside supports outer list place k

-- the ray with index place has the flag `true`, and its residual contains that of no other entry
pub record IsSelectedAlone (supports : List (List Bool)) (outer : List Bool) (list : List Grouped) (selected : List Bool) (place : ℕ) : Type 0 where
  pub is_selected : slice_index_or selected place false ≡ true
  pub alone : ¬ HasOtherInside supports outer list place

-- the indices of those of the first n candidates, in order
pub record AreSelectedAlone (supports : List (List Bool)) (outer : List Bool) (list : List Grouped) (selected : List Bool) (candidates : List Candidate) (n : ℕ) (places : List ℕ) : Type 0 where
  pub each : All (IsSelectedAlone supports outer list selected) places
  pub from : All (λ place. (k : ℕ) × (k < n) × (k < length candidates) × ((d : Candidate) → (slice_index_or candidates k d).place ≡ place)) places
  pub ascending : AllPairs (λ r s. r.place < s.place) candidates → AllPairs (λ one other. one < other) places
  pub complete : (k : ℕ) (d : Candidate) → k < n → k < length candidates → IsSelectedAlone supports outer list selected (slice_index_or candidates k d).place →
      Contains places (slice_index_or candidates k d).place

-- the same, for all candidates and some list of the kept ones in groups
pub record AreAloneAmong (supports : List (List Bool)) (outer : List Bool) (kept : List Candidate) (selected : List Bool) (candidates : List Candidate) (places : List ℕ) : Type 0 where
  pub list : List Grouped
  pub grouped : AreGrouped supports outer kept (length kept) list
  pub alone : AreSelectedAlone supports outer list selected candidates (length candidates) places
