-- The neighbours of a disc across its arcs.
use Rattle.std.specs.Prelude.{◌≡◌, ℕ, ◌%◌, ◌<◌, List, [], length, Option, Some, None}
use Rattle.std.specs.List.{slice_index_or}
use Rattle.table_definitions.specs.Table.{Gluing, Row}
use Rattle.surface_definitions.specs.declared.Coords.{Coords}
use Rattle.surface_definitions.specs.Pieces.{NormalDisc, Arc, arc_across, disc_of, discs_of, disc_number, Meets}
use Rattle.surface_pieces.specs.Across.{Across}
use Rattle.surface_pieces.specs.declared.joined.SignKind.TheVariants.{Sides, Orientation}
use Rattle.surface_pieces.specs.Meetings.{IsOnlyMeeting, HasNoMeeting}
use Rattle.surface_pieces.specs.Searches.{stays_at}
use Rattle.surface_pieces.specs.Slots.{slots_each, vertex_of_slot}

-- j is the neighbour of disc p across its arc around vertex v of face f
pub record IsJoinedAt (rows : List Row) (coords : Coords) (xs : List ℕ) (p : NormalDisc) (f v : ℕ) (j : Across) : Type 0 where
  pub arc : Arc
  pub gluing : Gluing
  pub meets : Meets rows coords xs arc gluing
  pub one : disc_of coords xs arc ≡ p
  pub only : IsOnlyMeeting rows coords xs p f v arc gluing
  pub piece : j.piece ≡ disc_number xs (disc_of coords xs (arc_across gluing arc))
  pub sides : j.keeps_sides ≡ stays_at Sides coords xs arc gluing
  pub orientation : j.keeps_orientation ≡ stays_at Orientation coords xs arc gluing

-- a row holds the neighbours of disc p at the slots before this one
pub record IsJoinedUpTo (rows : List Row) (coords : Coords) (xs : List ℕ) (p : NormalDisc) (slot : ℕ) (row : List (Option Across)) : Type 0 where
  pub size : length row ≡ slots_each coords
  pub some : (s : ℕ) (j : Across) → s < slot → slice_index_or row s None ≡ Some j → IsJoinedAt rows coords xs p (s % 4) (vertex_of_slot coords p s) j
  pub none : (s : ℕ) → s < slot → slice_index_or row s None ≡ None → HasNoMeeting rows coords xs p (s % 4) (vertex_of_slot coords p s)

-- a row holds the neighbours of disc p at all slots
abbrev pub IsJoinedRow : List Row → Coords → List ℕ → NormalDisc → List (Option Across) → Type 0
IsJoinedRow rows coords xs p row = IsJoinedUpTo rows coords xs p (slots_each coords) row

-- the rows of all discs, in order
pub record AreJoined (rows : List Row) (coords : Coords) (xs : List ℕ) (joined : List (List (Option Across))) : Type 0 where
  pub size : length joined ≡ length (discs_of xs)
  pub each : (i : ℕ) → i < length (discs_of xs) → IsJoinedRow rows coords xs (slice_index_or (discs_of xs) i (record { column = 0; number = 0 })) (slice_index_or joined i [])
