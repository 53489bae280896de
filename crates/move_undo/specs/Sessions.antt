-- A session by its fields.
use Rattle.std.specs.Prelude.{◌^◌, ◌<◌, ◌≤◌, length, vec_capacity}
use Rattle.move_definitions.specs.Sessions as sessions
use Rattle.move_undo.specs.declared.session.Session.TheInside.{Inside}
use Rattle.move_undo.specs.Records.{first_table, Recorded}

abbrev pub session_of : Inside → sessions.Session
session_of s = record { first = first_table s.undos.items s.table; moves = s.moves.items; played = length s.undos.items }

pub record IsKept (s : Inside) : Type 0 where
  pub recorded : Recorded (first_table s.undos.items s.table) s.moves.items s.undos.items s.table
  pub limited : length s.moves.items < 2 ^ 32
  -- each recorded move can be played again without an allocation
  pub room : length s.moves.items ≤ vec_capacity s.undos
