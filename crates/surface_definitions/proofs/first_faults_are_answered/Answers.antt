-- The lemmas are the laws.
use Rattle.surface_definitions.proofs.FirstFaults.{large_told, failure_told}
use Rattle.surface_definitions.proofs.first_faults_are_answered.Goals as goal

pub returns-clause-large : goal.returns-clause-large
returns-clause-large c = large_told

pub returns-clause-fails : goal.returns-clause-fails
returns-clause-fails c = failure_told
