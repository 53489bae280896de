-- The support of the combination is the union of the two.
use Rattle.std.proofs.Common.{subst, ◌∙◌}
use Rattle.support_bits.specs.Columns.{IsUnion}
use Rattle.ray_steps.proofs.UnitedLemmas.{united, outside_union, union_width}
use Rattle.ray_steps.proofs.pairs.combine_pair.Goals as goal

pub invariant_of-inside : goal.invariant_of-inside
invariant_of-inside c =
    let p = c.args.pair in
    let u = p.u.now in
    let w = p.w.now in
    let union = subst (λ s. IsUnion s w.support c.add.new.self) c.in_ok-support.ensures c.add.ensures in
    record {
      lengths = p.lengths;
      width = union_width u.ray w.ray u.support w.support c.add.new.self u.matches union ∙ p.lengths;
      inside = outside_union u.ray w.ray u.support w.support c.add.new.self u.matches w.matches union;
      some_u = p.some_u;
      some_w = p.some_w;
    }

pub invariant_of-result : goal.invariant_of-result
invariant_of-result c =
    let p = c.args.pair in
    let u = p.u.now in
    let w = p.w.now in
    record {
      matches = united c.args.limit.number p.at_u p.at_w u.ray w.ray c.in-Ok.ray p.some_u p.some_w p.lengths c.columns-columns.ensures.reduced.nonzero c.in-Ok.ensures.ok
          u.support w.support c.add.new.self u.matches w.matches
          (subst (λ s. IsUnion s w.support c.add.new.self) c.in_ok-support.ensures c.add.ensures);
    }
