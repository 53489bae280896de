-- the entries so far are equal, so the remaining ones decide
use Rattle.std.proofs.Common.{◌≡◌, drop, nat_cmp}
use Rattle.std.specs.Cmp.Lexicographic.{slice_cmp}
use Rattle.cone_arithmetic.specs.RayEntries.{numbers_of}
use Rattle.cone_arithmetic.proofs.packed.compare_each.Given as goal

abbrev pub invariant-loop-column : goal.invariant-loop-column
invariant-loop-column l = slice_cmp nat_cmp (numbers_of l.a) (numbers_of l.b) ≡ slice_cmp nat_cmp (drop l.column (numbers_of l.a)) (drop l.column (numbers_of l.b))
