use Rattle.std.proofs.Common.{◌∙◌}
use Rattle.move_laws.proofs.MovedLaws.{taken_in}
use Rattle.pachner_moves.proofs.moving.exchange_of.Goals as goal

pub saved_rows-requires-clause-in_range : goal.saved_rows-requires-clause-in_range
saved_rows-requires-clause-in_range c = taken_in c.args.taken.table.now c.args.taken.m.now c.deref.result.now (c.deref.ensures.0 ∙ c.taken_numbers-removed.ensures)
