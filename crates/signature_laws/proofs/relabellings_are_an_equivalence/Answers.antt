use Rattle.signature_laws.proofs.Invariance.{relabels_back, relabels_on, relabels_table, relabels_connected}
use Rattle.signature_laws.proofs.Unchanged.{relabels_unchanged}
use Rattle.signature_laws.proofs.relabellings_are_an_equivalence.Goals as goal

pub returns-clause-itself : goal.returns-clause-itself
returns-clause-itself c = λ rows table. relabels_unchanged rows table

pub returns-clause-tables : goal.returns-clause-tables
returns-clause-tables c = λ rows new table r. relabels_table rows new table r

pub returns-clause-back : goal.returns-clause-back
returns-clause-back c = λ rows new table r. relabels_back rows new table r

pub returns-clause-on : goal.returns-clause-on
returns-clause-on c = λ rows next last table a b. relabels_on rows next last table a b

pub returns-clause-connected : goal.returns-clause-connected
returns-clause-connected c = λ rows new table r connected. relabels_connected rows new table r connected
