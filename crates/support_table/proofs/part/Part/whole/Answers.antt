use Rattle.std.proofs.Common.{◌+◌, refl, subst, sym}
use Rattle.support_table.specs.Parts.{AreAllBelow}
use Rattle.support_table.proofs.PartLemmas.{below_push, copied_push}
use Rattle.support_table.proofs.part.Part.whole.Goals as goal

pub loop-place-preserved : goal.loop-place-preserved
loop-place-preserved c =
    let place = c.loop-place.place in
    let part = c.loop-place.part in
    let pushed = c.in_ok-push.ensures in record {
      below = subst (AreAllBelow (place + 1)) (sym pushed.places) (below_push place part.places.items c.loop-place.invariant.below);
      copied = copied_push c.args.table.now part.places.items _ part.table _ place _ c.loop-place.invariant.copied pushed.places pushed.table refl;
    }
