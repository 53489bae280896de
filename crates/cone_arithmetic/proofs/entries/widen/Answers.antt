-- At first no number is written, and at the end all are.
use Rattle.std.proofs.Common.{length, ap, ◌∙◌, arith}
use Rattle.std.proofs.lemmas.List.{ext_get_or, length-replicate}
use Rattle.cone_arithmetic.specs.RayEntries.{numbers_of}
use Rattle.cone_arithmetic.proofs.entries.widen.Goals as goal

pub loop-column-init : goal.loop-column-init
loop-column-init c = record {
  count = ap length (c.in_ok-wide.ensures.items_if_clones_equal (λ y e. e)) ∙ length-replicate _ 0 ∙ c.count.ensures;
  before = λ k h. absurd (omega arith);
}

pub returns : goal.returns
returns c = ext_get_or 0 c.loop-column.wide.items (numbers_of c.args.entries.now) c.loop-column.invariant.count
    (λ k less. let t = c.loop-column-test.false in c.loop-column.invariant.before k (omega arith))
