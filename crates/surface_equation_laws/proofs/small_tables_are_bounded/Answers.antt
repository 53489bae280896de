-- The lemmas are the laws.
use Rattle.surface_equation_laws.proofs.BoundedTables.{own, few_listed, few_not_past}
use Rattle.surface_equation_laws.proofs.Powers.{most}
use Rattle.surface_equation_laws.proofs.small_tables_are_bounded.Goals as goal

pub returns : goal.returns
returns c = record { most = most; own = own; listed = few_listed; none = few_not_past }
