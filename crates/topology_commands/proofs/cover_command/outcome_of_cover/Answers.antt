-- The text is that of the cover.
use Rattle.std.proofs.Common.{List, ap, subst, ◌∙◌}
use Rattle.std.specs.Prelude.{IsTrue, ◌↔◌}
use Rattle.table_definitions.specs.Table.{Row}
use Rattle.table_definitions.specs.Places.{IsConnected}
use Rattle.outcome_definitions.specs.Canonical.{done}
use Rattle.topology_commands.proofs.cover_command.outcome_of_cover.Goals as goal

pub returns : goal.returns
returns c = (
  c.in_ok-connected.connected,
  subst (λ (rows : List Row). IsTrue c.in_ok-connected.connected ↔ IsConnected rows) c.table.ensures.rows c.in_ok-connected.ensures,
  c.with_text.ensures ∙ ap done c.in_ok-text.ensures,
)
