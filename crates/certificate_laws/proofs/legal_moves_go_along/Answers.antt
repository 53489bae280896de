use Rattle.certificate_laws.proofs.LegalAlong.{legal_along, signatures_keep_legal}
use Rattle.certificate_laws.proofs.legal_moves_go_along.Goals as goal

pub returns-clause-tables : goal.returns-clause-tables
returns-clause-tables c = legal_along

pub returns-clause-signatures : goal.returns-clause-signatures
returns-clause-signatures c = signatures_keep_legal
