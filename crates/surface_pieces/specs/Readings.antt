-- The rows of numbers that are read off from the neighbours of the discs.
use Rattle.std.specs.Prelude.{◌≡◌, ℕ, ◌+◌, ◌*◌, ◌%◌, ◌<◌, Bool, List, [], length, Option, Some, None}
use Rattle.std.specs.List.{slice_index_or}
use Rattle.surface_laws.specs.PieceLaws.{reversed_if}
use Rattle.surface_pieces.specs.Across.{Across}
use Rattle.surface_pieces.specs.declared.joined.SignKind.{SignKind}
use Rattle.surface_pieces.specs.declared.joined.SignKind.TheVariants.{Sides, Orientation}
use Rattle.surface_pieces.specs.declared.joined.SearchKind.{SearchKind}
use Rattle.surface_pieces.specs.declared.joined.SearchKind.TheVariants.{Pieces, Signed}
use Rattle.surface_pieces.specs.Searches.{numbers, piece_in}

-- whether a sign is equal on both sides of an arc
abbrev pub keeps : SignKind → Across → Bool
keeps Sides j = j.keeps_sides
keeps Orientation j = j.keeps_orientation

-- the number of the neighbour of number k
abbrev pub read_across : SearchKind → ℕ → Across → ℕ
read_across Pieces k j = j.piece
read_across (Signed signs) k j = 2 * j.piece + reversed_if (keeps signs j) (k % 2)

-- read_across, if there is a neighbour
abbrev pub read_at : SearchKind → ℕ → Option Across → Option ℕ
read_at kind k None = None
read_at kind k (Some j) = Some (read_across kind k j)

-- the row of number k, up to a slot, by that of its disc
pub record IsReadUpTo (kind : SearchKind) (k slot : ℕ) (joined : List (Option Across)) (row : List (Option ℕ)) : Type 0 where
  pub size : length row ≡ length joined
  pub each : (s : ℕ) → s < slot → slice_index_or row s None ≡ read_at kind k (slice_index_or joined s None)

abbrev pub IsReadRow : SearchKind → ℕ → List (Option Across) → List (Option ℕ) → Type 0
IsReadRow kind k joined row = IsReadUpTo kind k (length joined) joined row

-- the rows of all numbers
pub record AreReadRows (kind : SearchKind) (joined : List (List (Option Across))) (rows : List (List (Option ℕ))) : Type 0 where
  pub size : length rows ≡ numbers kind (length joined)
  pub each : (i : ℕ) → i < numbers kind (length joined) → IsReadRow kind i (slice_index_or joined (piece_in kind i) []) (slice_index_or rows i [])
