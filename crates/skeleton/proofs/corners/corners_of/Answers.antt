-- One corner more, and all of them.
use Rattle.std.proofs.Common.{[], ◌∷◌, ◌++◌, map, sym, ap, ◌∙◌, take_all}
use Rattle.std.proofs.lemmas.List.{map_more}
use Rattle.skeleton_class_laws.specs.Rounds.{corner_at}
use Rattle.skeleton.proofs.corners.corners_of.Goals as goal

pub loop-place-preserved : goal.loop-place-preserved
loop-place-preserved c =
    c.in_ok-push.ensures.items ∙ (λ i. c.loop-place.invariant i ++ c.corner_of.ensures i ∷ [])
    ∙ sym (map_more corner_at c.args.places.now c.loop-place.place-index 0 c.loop-place-test.true)

pub returns : goal.returns
returns c = c.loop-place.invariant ∙ ap (map corner_at) (take_all c.loop-place.place-index c.args.places.now c.loop-place-test.false)
