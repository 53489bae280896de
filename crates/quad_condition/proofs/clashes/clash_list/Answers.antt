use Rattle.std.proofs.Common.{◌≡◌, ap, sym, subst, ◌∙◌, arith}
use Rattle.surface_definitions.specs.Coordinates.{columns}
use Rattle.ray_steps.specs.Clashes.{AreClashes}
use Rattle.quad_condition.proofs.MarkLemmas.{are_clashes}
use Rattle.quad_condition.proofs.Pairs.{pairs_before, pairs_more, all_pairs}
use Rattle.quad_condition.proofs.clashes.clash_list.Goals as goal

pub loop-first-preserved : goal.loop-first-preserved
loop-first-preserved c = pairs_more c.args.coords c.args.tets c.loop-first.first _ _ c.loop-first.invariant c.in_ok-push_partners.ensures

pub returns-clause-pairs : goal.returns-clause-pairs
returns-clause-pairs c =
    let all : c.loop-first.first ≡ columns c.args.coords c.args.tets = omega arith in
    c.loop-first.invariant ∙ ap (pairs_before c.args.coords c.args.tets) all ∙ all_pairs c.args.coords c.args.tets

pub returns-clause-separate : goal.returns-clause-separate
returns-clause-separate c =
    subst (AreClashes (columns c.args.coords c.args.tets)) (sym (returns-clause-pairs c)) (are_clashes c.args.coords c.args.tets)
