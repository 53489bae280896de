-- The lemmas are the laws.
use Rattle.surface_equation_laws.proofs.Bounds.{bounds, entries_small, bounded, one_bounded, within, named_within, are_listed, not_past}
use Rattle.surface_equation_laws.proofs.tables_are_bounded.Goals as goal

pub returns : goal.returns
returns c = record { bounds = bounds; entries = entries_small; bounded = bounded; one_form = one_bounded; within = within; named = named_within; listed = are_listed; none = not_past }
