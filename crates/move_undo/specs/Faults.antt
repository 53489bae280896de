-- Why a session refuses a move.
use Rattle.std.specs.Prelude.{◌≡◌}
use Rattle.move_definitions.specs.declared.MoveFault.{MoveFault}
use Rattle.move_definitions.specs.Moves.{Move}
use Rattle.move_definitions.specs.Sessions.{Session, IsRefused}
use Rattle.move_undo.specs.declared.session.PlayFault.{PlayFault}
use Rattle.move_undo.specs.declared.session.PlayFault.TheVariants.{Illegal}

-- the move is illegal on the session's table, for this reason
abbrev pub IsRefusal : Session → Move → PlayFault → Type 0
IsRefusal s m e = (fault : MoveFault) × (e ≡ Illegal fault) × IsRefused s m fault
