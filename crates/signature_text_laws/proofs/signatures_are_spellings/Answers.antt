use Rattle.std.proofs.Common.{sym, ◌∙◌}
use Rattle.signature_text_laws.proofs.ReadTables.{read_spelled}
use Rattle.signature_text_laws.proofs.SlotLaws.{ok_same}
use Rattle.signature_text_laws.proofs.SpelledTables.{spelled_read}
use Rattle.signature_text_laws.proofs.signatures_are_spellings.Goals as goal

pub returns-clause-exact : goal.returns-clause-exact
returns-clause-exact c = λ text rows. (read_spelled text rows, spelled_read text rows)

pub returns-clause-one_table : goal.returns-clause-one_table
returns-clause-one_table c = λ text rows others first second. ok_same rows others (sym (spelled_read text rows first) ∙ spelled_read text others second)
