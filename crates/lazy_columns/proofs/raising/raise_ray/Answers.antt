use Rattle.std.proofs.Common.{◌≡◌, true, set, subst, sym, ap, ◌∙◌}
use Rattle.support_bits.specs.Columns.{support_of}
use Rattle.ray_steps.proofs.InsertedLemmas.{inserted}
use Rattle.lazy_columns.proofs.raising.raise_ray.Goals as goal

pub invariant_of-result : goal.invariant_of-result
invariant_of-result c =
    let kept = c.args.before.kept in
    record {
      matches = subst (λ ray. c.insert.new.self ≡ support_of ray) (sym c.in_ok-ray.ensures)
          (c.insert.ensures ∙ ap (λ s. set s c.args.before.column true) kept.matches ∙ inserted kept.ray c.args.before.column c.args.left c.args.before.room.in_range c.requires.some);
    }
