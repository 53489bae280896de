-- What a contract states of an error other than out of memory.
use Rattle.out_of_memory.specs.declared.Failure.{Failure}
use Rattle.out_of_memory.specs.declared.Failure.TheVariants.{NoMemory, Fault}

-- a property of the error, if there is one
abbrev pub IfFault : {F : Type 0} → Failure F → (F → Type 0) → Type 0
IfFault NoMemory P = Unit {0}
IfFault (Fault fault) P = P fault
