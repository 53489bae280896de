-- The exit status of the program for each status of a run.
use Rattle.std.specs.Prelude.{ℕ}
use Rattle.outcome_definitions.specs.declared.Status.{Status}
use Rattle.outcome_definitions.specs.declared.Status.TheVariants.{Done, Usage, Input, Refused, Large, ReadFault, WriteFault, NoMemory}

abbrev pub code_of : Status → ℕ
code_of Done = 0
code_of Usage = 2
code_of Input = 3
code_of Refused = 4
code_of Large = 5
code_of ReadFault = 6
code_of WriteFault = 7
code_of NoMemory = 8
