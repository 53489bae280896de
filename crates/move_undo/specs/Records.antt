-- What a session stores: its table, the moves, and for each played move the record that takes it back.
use Rattle.std.specs.Prelude.{◌≡◌, List, [], ◌∷◌}
use Rattle.table_definitions.specs.Table.{Row}
use Rattle.move_definitions.specs.Moves.{Move, Plays, PlaysAll}
use Rattle.move_definitions.specs.Undos.{Undo, undo_of, former}

-- the table after all moves are taken back, the last one first
unfoldable pub first_table : List Undo → List Row → List Row
first_table [] table = table
first_table (u ∷ us) table = former (first_table us table) u

-- the move leads from rows to next, and u is its record
pub record IsPlayed (rows : List Row) (m : Move) (u : Undo) (next : List Row) : Type 0 where
  pub plays : Plays rows m next
  pub kept : u ≡ undo_of rows m

-- the moves can be played in order
abbrev pub CanPlayAll : List Row → List Move → Type 0
CanPlayAll rows moves = (last : List Row) × PlaysAll rows moves last

-- playing the moves that have a record results in table, and the others can be played from there
unfoldable pub Recorded : List Row → List Move → List Undo → List Row → Type 0
Recorded rows moves [] table = (rows ≡ table) × CanPlayAll table moves
Recorded rows [] (u ∷ us) table = ⊥
Recorded rows (m ∷ ms) (u ∷ us) table = (next : List Row) × IsPlayed rows m u next × Recorded next ms us table
