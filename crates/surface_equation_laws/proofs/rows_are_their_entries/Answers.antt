-- The lemmas are the laws.
use Rattle.surface_equation_laws.proofs.Zeros.{parts_by_entries, terms_in_columns}
use Rattle.surface_equation_laws.proofs.rows_are_their_entries.Goals as goal

pub returns : goal.returns
returns c = record { parts = parts_by_entries; terms = terms_in_columns }
