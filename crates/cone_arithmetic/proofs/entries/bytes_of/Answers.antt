-- At first no number is written, and at the end all are.
use Rattle.std.proofs.Common.{length, ap, ◌∙◌, arith}
use Rattle.std.proofs.lemmas.List.{ext_get_or, length-replicate}
use Rattle.cone_arithmetic.proofs.entries.bytes_of.Goals as goal

pub loop-column-init : goal.loop-column-init
loop-column-init c = record {
  count = ap length (c.in_ok-bytes.ensures.items_if_clones_equal (λ y e. e)) ∙ length-replicate (length c.args.small.now) 0;
  before = λ k h. absurd (omega arith);
}

pub returns : goal.returns
returns c = ext_get_or 0 c.loop-column.bytes.items c.args.small.now c.loop-column.invariant.count
    (λ k less. let n = c.loop-column.invariant.count in let t = c.loop-column-test.false in c.loop-column.invariant.before k (omega (arith, less, n, t)))
