use Rattle.std.proofs.Common.{◌+◌, subst, sym}
use Rattle.support_table.specs.Parts.{AreAllBelow}
use Rattle.support_table.proofs.PartLemmas.{below_none, below_push}
use Rattle.support_table.proofs.parts.all_below.Goals as goal

pub loop-k-init : goal.loop-k-init
loop-k-init c = subst (AreAllBelow 0) (sym c.in_ok-places.ensures.items) below_none

pub loop-k-preserved : goal.loop-k-preserved
loop-k-preserved c = subst (AreAllBelow (c.loop-k.k + 1)) (sym c.in_ok-push.ensures.items) (below_push c.loop-k.k c.loop-k.places.items c.loop-k.invariant)
