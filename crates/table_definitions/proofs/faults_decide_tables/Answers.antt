-- The two lemmas are the two directions.
use Rattle.table_definitions.proofs.TableLaws.{IsTable-no_fault, table_fault-IsTable}
use Rattle.table_definitions.proofs.faults_decide_tables.Goals as goal

pub returns : goal.returns
returns c = λ rows fours permutes. (IsTable-no_fault rows fours permutes, table_fault-IsTable rows)
