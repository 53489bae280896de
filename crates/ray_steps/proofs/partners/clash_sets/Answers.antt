use Rattle.std.proofs.Common.{subst, sym}
use Rattle.std.proofs.lemmas.List.{take_more}
use Rattle.ray_steps.specs.Partners.{AreClashSets}
use Rattle.ray_steps.proofs.PartnerLemmas.{partners_more}
use Rattle.ray_steps.proofs.partners.clash_sets.Goals as goal

pub loop-pair-preserved : goal.loop-pair-preserved
loop-pair-preserved c =
    subst (λ ps. AreClashSets c.args.clashes.columns ps c.insert_clash-in-loop-pair.new.partners.items) (sym (take_more c.args.clashes.items.now c.loop-pair.pair-index (0, 0) c.loop-pair-test.true))
    (partners_more c.args.clashes.columns _ _ _ _ _ c.loop-pair.invariant c.insert_clash.ensures c.insert_clash-in-loop-pair.ensures)
