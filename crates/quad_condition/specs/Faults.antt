-- Why a vector is no solution.
use Rattle.cone_arithmetic.specs.declared.system.SolutionFault.{SolutionFault}
use Rattle.cone_arithmetic.specs.declared.system.SolutionFault.TheVariants.{Passed, NotZero}
use Rattle.surface_definitions.specs.declared.VectorFault.{VectorFault}
use Rattle.surface_definitions.specs.declared.VectorFault.TheVariants.{Large, NotSolution}

abbrev pub fault_of : SolutionFault → VectorFault
fault_of (Passed i) = Large i
fault_of (NotZero i) = NotSolution i
