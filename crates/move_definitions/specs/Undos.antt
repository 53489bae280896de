-- Undoing a move: what is recorded of it, and the table that results.
use Rattle.std.specs.Prelude.{◌≡◌, ℕ, ◌-◌, List, [], length, map, filter}
use Rattle.std.specs.List.{range_with_len, slice_index_or}
use Rattle.table_definitions.specs.Lists.{below, has}
use Rattle.table_definitions.specs.Table.{Row}
use Rattle.table_definitions.specs.Replacing.{Replacement, replaced}
use Rattle.move_definitions.specs.Moves.{Move, old_tets, Plays}

-- the move, the number of tetrahedra before it, and the rows that it took out, with their numbers, ascending
pub record Undo : Type 0 where
  pub played : Move
  pub tets : ℕ
  pub rows : List (ℕ × Row)

-- the numbers of the tetrahedra that a move takes out, ascending
abbrev pub taken_numbers : List Row → Move → List ℕ
taken_numbers rows m = filter (has (old_tets rows m)) (below (length rows))

-- what is kept of a move on a table
abbrev pub undo_of : List Row → Move → Undo
undo_of rows m = record { played = m; tets = length rows; rows = map (λ t. (t, slice_index_or rows t [])) (taken_numbers rows m) }

-- the facets that were put in are taken out, and the rows that are kept are put in
abbrev pub back_exchange : Undo → Replacement
back_exchange u = record { removed = range_with_len (u.tets - (5 - length u.played.core)) (length u.played.core); fresh = u.rows }

abbrev pub former : List Row → Undo → List Row
former rows u = replaced rows (back_exchange u)

-- the move was played on some table, led to these rows, and this is what was kept of it
abbrev pub CanTakeBack : List Row → Undo → Type 0
CanTakeBack rows u = (old : List Row) × Plays old u.played rows × (u ≡ undo_of old u.played)

-- Theorem: undoing a move restores the table on which it was played, row for row
abbrev pub TakesBack : Type 0
TakesBack = (old : List Row) (m : Move) (new : List Row) → Plays old m new → former new (undo_of old m) ≡ old

-- these rows are those of each table on which the move was played that is taken back, row for row
abbrev pub IsTakenBack : List Row → Undo → List Row → Type 0
IsTakenBack new u rows = (old : List Row) → Plays old u.played new → u ≡ undo_of old u.played → rows ≡ old
