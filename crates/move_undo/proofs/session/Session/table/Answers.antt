-- The recorded moves result in the table.
use Rattle.std.proofs.Common.{subst}
use Rattle.move_definitions.specs.Sessions as sessions
use Rattle.move_undo.proofs.RecordLaws.{recorded-table}
use Rattle.move_undo.proofs.session.Session.table.Goals as goal

pub returns : goal.returns
returns c = subst (λ (s : sessions.Session). sessions.IsTableOf s c.self.inside.table) c.self.view_is (recorded-table _ _ _ _ c.self.invariant.recorded)
