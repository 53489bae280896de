use Rattle.std.proofs.Common.{ap, set, sym, true, ◌∙◌}
use Rattle.support_bits.specs.Columns.{support_of}
use Rattle.ray_steps.proofs.InsertedLemmas.{unit_support}
use Rattle.ray_steps.proofs.rays.RayWithSupport.unit.Goals as goal

pub invariant_of-result : goal.invariant_of-result
invariant_of-result c = record {
  matches = c.insert.ensures ∙ ap (λ s. set s c.args.place true) c.in_ok-support.ensures ∙ unit_support c.args.columns c.args.place c.requires ∙ sym (ap support_of c.in_ok-ray.ensures);
}
