-- Rays among which the rays adjacent to some outer rays are looked for.
use Rattle.std.specs.Prelude.{◌≡◌, ℕ, ◌+◌, ◌/◌, ◌<◌, List, Bool, true, [], length, slice_index_or, Contains, IfSome}
use Rattle.std.specs.List.{All, AllPairs}
use Rattle.support_bits.specs.Columns.{HasColumn, Meets}
use Rattle.support_bits.specs.Words.{bit_of}
use Rattle.support_table.specs.declared.outer.Outer.{Outer}
use Rattle.support_table.specs.declared.part.Part.{Part}
use Rattle.support_table.specs.declared.parts.Found.{Found}
use Rattle.support_table.specs.Tables.{Table}
use Rattle.support_table.specs.Residuals.{support_at, AreMinimalOf}

-- the outer ray with index k of a list
abbrev pub outer_at : List Outer → ℕ → Outer
outer_at outers k = slice_index_or outers k (record { place = 0; support = []; joined = [] })

-- each is one of count rays, with columns columns
pub record AreOuters (columns count : ℕ) (outers : List Outer) : Type 0 where
  pub places : All (λ it. it.place < count) outers
  pub supports : All (λ it. length it.support ≡ columns) outers
  pub joined : All (λ it. length it.joined ≡ columns) outers

-- the list contains each ray that contains none of the columns
abbrev pub HasAllAvoiding : List (List Bool) → List Bool → List ℕ → Type 0
HasAllAvoiding supports columns places = (place : ℕ) → place < length supports → ¬ Meets (support_at supports place) columns → Contains places place

-- the numbers below count, ascending
pub record AreAllBelow (count : ℕ) (places : List ℕ) : Type 0 where
  pub count_is : length places ≡ count
  pub each : (k d : ℕ) → k < count → slice_index_or places k d ≡ k

-- a table has the supports of these rays, in the same order
pub record AreCopied (rays : Table) (places : List ℕ) (table : Table) : Type 0 where
  pub columns : table.columns ≡ rays.columns
  pub count : length table.supports ≡ length places
  pub each : (k d : ℕ) → k < length places → support_at table.supports k ≡ support_at rays.supports (slice_index_or places k d)

-- outer rays, and rays, ascending, among which are all that clash with none of them
pub record ArePartRays (supports : List (List Bool)) (outers : List Outer) (chosen places : List ℕ) : Type 0 where
  pub are_outers : All (λ k. k < length outers) chosen
  pub in_range : All (λ place. place < length supports) places
  pub ascending : AllPairs (λ one other. one < other) places
  pub complete : All (λ k. HasAllAvoiding supports (outer_at outers k).joined places) chosen

-- outer rays, and a part of the rays with their supports, among which are all that clash with none of them
pub record IsPart (rays : Table) (outers : List Outer) (chosen : List ℕ) (part : Part) : Type 0 where
  pub separate : ArePartRays rays.supports outers chosen part.places.items
  pub copied : AreCopied rays part.places.items part.table

-- each bit that is set is a column of the support
abbrev pub AreColumnsOf : List Bool → List ℕ → Type 0
AreColumnsOf support words = (column : ℕ) → bit_of words column ≡ true → HasColumn support column

-- each bit that is set is a column that each chosen outer ray clashes with
pub record AreCommonColumns (outers : List Outer) (chosen : List ℕ) (columns : ℕ) (words : List ℕ) : Type 0 where
  pub count : length words ≡ (columns + 63) / 64
  pub each : All (λ k. AreColumnsOf (outer_at outers k).joined words) chosen

-- a column of the support has its bit set
abbrev pub HasOneOf : List Bool → List ℕ → Type 0
HasOneOf support words = (column : ℕ) × HasColumn support column × (bit_of words column ≡ true)

-- those of the first n rays of a list that have none of the columns, in order
pub record AreLeft (supports : List (List Bool)) (words places : List ℕ) (n : ℕ) (left : List ℕ) : Type 0 where
  pub from : All (λ place. (k : ℕ) × (k < n) × (k < length places) × ((d : ℕ) → slice_index_or places k d ≡ place)) left
  pub ascending : AllPairs (λ one other. one < other) places → AllPairs (λ one other. one < other) left
  pub complete : (k d : ℕ) → k < n → k < length places → ¬ HasOneOf (support_at supports (slice_index_or places k d)) words → Contains left (slice_index_or places k d)

-- those of the first n rays of a list that have none of the columns, with their supports
pub record IsWithout (rays : Table) (words places : List ℕ) (n : ℕ) (part : Part) : Type 0 where
  pub left : AreLeft rays.supports words places n part.places.items
  pub copied : AreCopied rays part.places.items part.table

-- the list, if there is one, has the rays adjacent to an outer ray with index place
abbrev pub IsFoundFor : List (List Bool) → List Outer → List Bool → ℕ → ℕ → Found → Type 0
IsFoundFor supports outers selected most place found = IfSome found.places
    (λ list. (k : ℕ) × (k < length outers) × ((outer_at outers k).place ≡ place) × AreMinimalOf supports (outer_at outers k).support (outer_at outers k).joined place most selected list.items)

-- an entry for each ray, and each list has the rays adjacent to its ray
pub record AreFoundFor (supports : List (List Bool)) (outers : List Outer) (selected : List Bool) (most : ℕ) (found : List Found) : Type 0 where
  pub count : length found ≡ length supports
  pub each : (place : ℕ) (d : Found) → place < length found → IsFoundFor supports outers selected most place (slice_index_or found place d)
