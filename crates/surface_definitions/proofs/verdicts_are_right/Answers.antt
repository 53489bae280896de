-- The two lemmas are the two directions.
use Rattle.surface_definitions.proofs.VerdictLaws.{accepted_by, accepted-verdict}
use Rattle.surface_definitions.proofs.verdicts_are_right.Goals as goal

pub returns : goal.returns
returns c = λ max n rows pairs xs. (accepted_by max n rows pairs xs, accepted-verdict max n rows pairs xs)
