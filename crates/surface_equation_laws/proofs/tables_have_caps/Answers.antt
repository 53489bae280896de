-- The lemmas are the laws.
use Rattle.surface_equation_laws.proofs.Caps.{has_caps}
use Rattle.surface_equation_laws.proofs.OneForm.{one_form}
use Rattle.surface_equation_laws.proofs.tables_have_caps.Goals as goal

pub returns : goal.returns
returns c = record { caps = has_caps; one_form = one_form }
