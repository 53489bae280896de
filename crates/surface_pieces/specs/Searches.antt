-- What a search connects: discs with a common arc, or such discs with signs that are equal or differ there.
use Rattle.std.specs.Prelude.{◌≡◌, ℕ, ◌+◌, ◌*◌, ◌/◌, ◌%◌, ◌<◌, ◌↔◌, Bool, true, not, List, [], length, Option, Contains, if◌then◌else◌}
use Rattle.std.specs.List.{filter_map, slice_index_or}
use Rattle.table_definitions.specs.Classes.{IsNumbering}
use Rattle.table_definitions.specs.Permutation.{is_odd}
use Rattle.table_definitions.specs.Table.{Gluing, Row}
use Rattle.table_walk_laws.specs.Joined.{IsJoined, neighbours_of}
use Rattle.surface_definitions.specs.declared.Coords.{Coords}
use Rattle.surface_definitions.specs.Pieces.{NormalDisc, Arc, arc_across, disc_of, discs_of, disc_number, Meets, keeps_sides, HasSigns}
use Rattle.surface_laws.specs.PieceLaws.{IsFreePiece, reversed_if}
use Rattle.surface_pieces.specs.declared.joined.SignKind.{SignKind}
use Rattle.surface_pieces.specs.declared.joined.SignKind.TheVariants.{Sides, Orientation}
use Rattle.surface_pieces.specs.declared.joined.SearchKind.{SearchKind}
use Rattle.surface_pieces.specs.declared.joined.SearchKind.TheVariants.{Pieces, Signed}

-- whether signs are equal on both sides of an arc
abbrev pub stays_at : SignKind → Coords → List ℕ → Arc → Gluing → Bool
stays_at Sides coords xs a g = keeps_sides coords xs a g
stays_at Orientation coords xs a g = if is_odd g.perm then keeps_sides coords xs a g else not (keeps_sides coords xs a g)

-- the number of numbers for n discs
abbrev pub numbers : SearchKind → ℕ → ℕ
numbers Pieces n = n
numbers (Signed signs) n = 2 * n

-- the disc of a number, and its sign
abbrev pub piece_in : SearchKind → ℕ → ℕ
piece_in Pieces i = i
piece_in (Signed signs) i = i / 2

-- the number of disc i across an arc of the disc of number k
abbrev pub number_across : SearchKind → Coords → List ℕ → Arc → Gluing → ℕ → ℕ → ℕ
number_across Pieces coords xs a g k i = i
number_across (Signed signs) coords xs a g k i = 2 * i + reversed_if (stays_at signs coords xs a g) (k % 2)

-- an arc of disc p, which has number k, is glued to one of a disc with number l
pub record IsArcTo (kind : SearchKind) (rows : List Row) (coords : Coords) (xs : List ℕ) (p : NormalDisc) (k l : ℕ) : Type 0 where
  pub arc : Arc
  pub gluing : Gluing
  pub meets : Meets rows coords xs arc gluing
  pub one : disc_of coords xs arc ≡ p
  pub other : number_across kind coords xs arc gluing k (disc_number xs (disc_of coords xs (arc_across gluing arc))) ≡ l

-- a row lists the neighbours of number k of disc p
abbrev pub IsRow : SearchKind → List Row → Coords → List ℕ → NormalDisc → ℕ → List (Option ℕ) → Type 0
IsRow kind rows coords xs p k row = (l : ℕ) → Contains (filter_map (λ o. o) row) l ↔ IsArcTo kind rows coords xs p k l

-- rows of all numbers
pub record AreRows (kind : SearchKind) (rows : List Row) (coords : Coords) (xs : List ℕ) (listed : List (List (Option ℕ))) : Type 0 where
  pub size : length listed ≡ numbers kind (length (discs_of xs))
  pub each : (i : ℕ) → i < numbers kind (length (discs_of xs))
      → IsRow kind rows coords xs (slice_index_or (discs_of xs) (piece_in kind i) (record { column = 0; number = 0 })) i (slice_index_or listed i [])

-- the classes of connected numbers
pub record HasClasses (kind : SearchKind) (rows : List Row) (coords : Coords) (xs classes : List ℕ) (count : ℕ) : Type 0 where
  pub listed : List (List (Option ℕ))
  pub are : AreRows kind rows coords xs listed
  pub numbered : IsNumbering (length listed) (IsJoined (neighbours_of listed)) classes count

-- for no disc of component i before disc n have both signs one class
abbrev pub IsFreeUpTo : List ℕ → List ℕ → ℕ → ℕ → Type 0
IsFreeUpTo signed components n i = (p : ℕ) → p < n → IsFreePiece signed components i p

-- IsFreeUpTo, for all discs
abbrev pub IsFree : List ℕ → List ℕ → ℕ → Type 0
IsFree signed components i = IsFreeUpTo signed components (length components) i

-- for each component whether signs exist on it
pub record AreSigned (signs : SignKind) (rows : List Row) (coords : Coords) (xs components : List ℕ) (count : ℕ) (free : List Bool) : Type 0 where
  pub size : length free ≡ count
  pub each : (i : ℕ) → i < count → (slice_index_or free i true ≡ true) ↔ HasSigns rows coords xs components i (stays_at signs coords xs)
