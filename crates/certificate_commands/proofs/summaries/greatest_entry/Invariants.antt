-- The greatest entry of the vectors so far.
use Rattle.std.proofs.Common.{take}
use Rattle.outcome_definitions.specs.Makings.{IsGreatestEntry}
use Rattle.certificate_commands.proofs.summaries.greatest_entry.Given as goal

abbrev pub invariant-loop-ray : goal.invariant-loop-ray
invariant-loop-ray l = IsGreatestEntry (take l.ray-index l.list) l.greatest
