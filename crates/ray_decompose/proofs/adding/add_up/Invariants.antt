use Rattle.std.proofs.Common.{◌≡◌, ℕ, ◌<◌, None}
use Rattle.cone_arithmetic.specs.declared.numbers.TheConstants.{MAX_ENTRY}
use Rattle.sum_definitions.specs.Adding.{column_fault}
use Rattle.ray_decompose.specs.Sums.{terms_of}
use Rattle.ray_decompose.proofs.adding.add_up.Given as goal

abbrev pub invariant-loop-index : goal.invariant-loop-index
invariant-loop-index l = (k : ℕ) → k < l.index → column_fault MAX_ENTRY l.x l.times (terms_of l.terms) k ≡ None
