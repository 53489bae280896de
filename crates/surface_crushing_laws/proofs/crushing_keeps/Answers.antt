-- The lemmas are the laws.
use Rattle.surface_crushing_laws.proofs.Invariance.{crushing_keeps_closed_lem, crushing_keeps_orientable_lem}
use Rattle.surface_crushing_laws.proofs.crushing_keeps.Goals as goal

pub returns : goal.returns
returns c = record { closed = crushing_keeps_closed_lem; orientable = crushing_keeps_orientable_lem }
