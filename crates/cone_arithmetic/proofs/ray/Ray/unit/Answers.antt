use Rattle.std.proofs.Common.{◌≡◌, set, lit≤, rules}
use Rattle.cone_definitions.specs.Vectors.{unit}
use Rattle.cone_arithmetic.specs.declared.numbers.TheConstants.{MAX_ENTRY}
use Rattle.cone_arithmetic.proofs.UnitLemmas.{unit_reduced}
use Rattle.cone_arithmetic.proofs.ray.Ray.unit.Goals as goal

pub invariant_of-result : goal.invariant_of-result
invariant_of-result c =
    let e : set c.in_ok-entries.entries.items c.args.place 1 ≡ unit c.args.columns c.args.place = search rules in
    rw e (unit_reduced MAX_ENTRY c.args.columns c.args.place c.requires c.ranges.columns.fits (lit≤ tt))
