-- The remainder after a ray is taken out, and the terms with the one of the ray.
use Rattle.std.proofs.Common.{length, ap, ◌∙◌, sym}
use Rattle.std.proofs.lemmas.List.{length-map}
use Rattle.ray_decompose.proofs.Vectors.{refilled, term_pushed, lent_terms}
use Rattle.ray_decompose.proofs.taking.take_ray.Goals as goal

pub repeat-requires : goal.repeat-requires
repeat-requires c = rw c.deref_mut.ensures.value c.requires

pub returns-clause-terms : goal.returns-clause-terms
returns-clause-terms c =
    let kept = refilled _ _ _ (ap length c.repeat.ensures ∙ length-map _ _ ∙ ap length c.deref_mut.ensures.value ∙ sym c.args.terms.now.ok.0) in
    term_pushed _ _ _ c.args.taking.fraction.numerator _ _ c.in_ok-push.ensures.items
    (lent_terms c.args.taking.fraction.denominator c.args.terms.now.items _ c.repeat.new.terms _ kept c.repeat.ensures c.deref_mut.ensures.value) c.in_ok-copy.ensures
