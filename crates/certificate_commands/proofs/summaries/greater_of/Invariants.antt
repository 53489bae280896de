-- The greatest of the entries so far.
use Rattle.std.proofs.Common.{take}
use Rattle.certificate_commands.specs.Entries.{IsGreatestOf}
use Rattle.certificate_commands.proofs.summaries.greater_of.Given as goal

abbrev pub invariant-loop-entry : goal.invariant-loop-entry
invariant-loop-entry l = IsGreatestOf l.fn.least (take l.entry-index l.entries) l.greatest
