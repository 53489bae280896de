-- Lists of candidates on the way to those of minimal residual.
use Rattle.std.specs.Prelude.{◌≡◌, ◌≢◌, ℕ, ◌+◌, ◌*◌, ◌/◌, ◌<◌, ◌≤◌, ◌⊎◌, ◌++◌, ◌∷◌, [], List, Bool, Vec, length, Contains, slice_index_or}
use Rattle.std.specs.declared.alloc.Global.{Global}
use Rattle.std.specs.Int.{bit_at}
use Rattle.std.specs.List.{All, AllPairs}
use Rattle.support_bits.specs.Columns.{HasColumn, IsInsideUnionOf}
use Rattle.support_table.specs.Counts.{columns_in_either}
use Rattle.support_table.specs.declared.candidates.Candidate.{Candidate}
use Rattle.support_table.specs.declared.outer.Outer.{Outer}
use Rattle.support_table.specs.Masks.{IsBitSet, AreByteMasks}
use Rattle.support_table.specs.Near.{chosen_at, HasTwoOutside}
use Rattle.support_table.specs.Residuals.{support_at, IsCandidate, IsMinimal}
use Rattle.support_table.specs.Singles.{IsSingle}
use Rattle.support_table.specs.Tables.{Table}

-- a candidate with the number of columns of its union with the outer ray
pub record IsSized (supports : List (List Bool)) (outer joined : List Bool) (own most : ℕ) (r : Candidate) : Type 0 where
  pub candidate : IsCandidate supports outer joined own most r.place
  pub wide : length (support_at supports r.place) ≡ length outer
  pub size : r.size ≡ columns_in_either outer (support_at supports r.place)

-- a candidate of the list has index place
abbrev pub HasPlace : List Candidate → ℕ → Type 0
HasPlace compatible_list place = (r : Candidate) × Contains compatible_list r × (r.place ≡ place)

-- the candidate's size is the number of columns of its union with the outer ray
abbrev pub HasUnionSize : List (List Bool) → List Bool → Candidate → Type 0
HasUnionSize supports outer r = r.size ≡ columns_in_either outer (support_at supports r.place)

-- each candidate's index is below the number of supports
abbrev pub AreFound : List (List Bool) → List Candidate → Type 0
AreFound supports compatible_list = All (λ r. r.place < length supports) compatible_list

-- another listed candidate has its residual inside that of r
abbrev pub HasListedInside : List (List Bool) → List Bool → List Candidate → Candidate → Type 0
HasListedInside supports outer candidates r = (s : Candidate) × Contains candidates s × (s.place ≢ r.place) × IsInsideUnionOf (support_at supports s.place) outer (support_at supports r.place)

-- candidates among which are all that are minimal; a listed one inside whose residual lies that of another candidate
-- has such a one in the list
pub record AreCandidates (supports : List (List Bool)) (outer joined : List Bool) (own most : ℕ) (candidates : List Candidate) : Type 0 where
  pub each : All (IsSized supports outer joined own most) candidates
  pub ascending : AllPairs (λ r s. r.place < s.place) candidates
  pub closed : (r : Candidate) (place : ℕ) → Contains candidates r → IsCandidate supports outer joined own most place → place ≢ r.place → IsInsideUnionOf (support_at supports place) outer (support_at supports r.place) →
      HasListedInside supports outer candidates r
  pub complete : (place : ℕ) → IsMinimal supports outer joined own most place → HasPlace candidates place

-- for each outer ray of a chunk such a list
pub record AreAllCandidates (supports : List (List Bool)) (outers : List Outer) (chosen : List ℕ) (most : ℕ) (lists : List (Vec Candidate Global)) : Type 0 where
  pub count : length lists ≡ length chosen
  pub each : (b : ℕ) (d : Vec Candidate Global) → b < length chosen →
      AreCandidates supports (chosen_at outers chosen b).support (chosen_at outers chosen b).joined (chosen_at outers chosen b).place most (slice_index_or lists b d).items

-- the ray with index place is appended if it is a candidate
abbrev pub IsCandidatePushed : List (List Bool) → List Bool → List Bool → ℕ → ℕ → ℕ → List Candidate → List Candidate → Type 0
IsCandidatePushed supports outer joined own most place old new = ((¬ IsCandidate supports outer joined own most place) × (new ≡ old)) ⊎
    ((r : Candidate) × (r.place ≡ place) × IsSized supports outer joined own most r × (new ≡ old ++ r ∷ []))

-- the ray with index place is appended, if it is a candidate, to the lists of those of the first n outer rays whose
-- bits are set in word
pub record ArePushedBelow (supports : List (List Bool)) (outers : List Outer) (chosen : List ℕ) (most place word n : ℕ) (old new : List (Vec Candidate Global)) : Type 0 where
  pub count : length new ≡ length old
  pub pushed : (b : ℕ) (d : Vec Candidate Global) → b < n → b < length old → bit_at word b ≡ 1 →
      IsCandidatePushed supports (chosen_at outers chosen b).support (chosen_at outers chosen b).joined (chosen_at outers chosen b).place most place (slice_index_or old b d).items (slice_index_or new b d).items
  pub kept : (b : ℕ) (d : Vec Candidate Global) → bit_at word b ≢ 1 → slice_index_or new b d ≡ slice_index_or old b d
  pub after : (b : ℕ) (d : Vec Candidate Global) → n ≤ b → slice_index_or new b d ≡ slice_index_or old b d

-- the ray has two columns outside the outer one, and a column that alone is the residual of a candidate
pub record IsHit (supports : List (List Bool)) (outer joined : List Bool) (own most place : ℕ) : Type 0 where
  pub two : HasTwoOutside (support_at supports place) outer
  pub column : ℕ
  pub has : HasColumn (support_at supports place) column
  pub single : IsSingle supports outer joined own most column

-- for each value of each byte of a support outer rays for which one of its columns alone is the residual of a candidate
pub record AreHits (rays : Table) (outers : List Outer) (chosen : List ℕ) (most : ℕ) (table : List ℕ) : Type 0 where
  pub masks : List ℕ
  pub bytes : AreByteMasks masks (8 * ((rays.columns + 63) / 64)) table
  pub singles : (column b : ℕ) → b < length chosen → IsBitSet masks column b →
      IsSingle rays.supports (chosen_at outers chosen b).support (chosen_at outers chosen b).joined (chosen_at outers chosen b).place most column
