use Rattle.std.proofs.Common.{◌≡◌, ◌*◌, length, subst, arith}
use Rattle.skeleton_class_laws.specs.Neighbours.{AreNeighbours}
use Rattle.skeleton_class_laws.specs.Numberings.{crossing, per_tet}
use Rattle.skeleton_class_laws.proofs.NeighbourLemmas.{none_yet, one_more_row}
use Rattle.skeleton.proofs.neighbours.neighbours.Goals as goal

pub loop-place-init : goal.loop-place-init
loop-place-init c = rw c.in_ok-rows.ensures.items (none_yet (crossing c.args.kind c.args.table.now))

pub loop-place-preserved : goal.loop-place-preserved
loop-place-preserved c = rw c.in_ok-push.ensures.items
    (one_more_row _ (crossing c.args.kind c.args.table.now) _ c.row_of.result c.loop-place.invariant c.row_of.ensures)

pub returns-clause-rows : goal.returns-clause-rows
returns-clause-rows c =
    let e : c.loop-place.place ≡ per_tet c.args.kind * length c.args.table.now = omega (arith, c.count_of-count.ensures.value) in
    subst (λ n. AreNeighbours n (crossing c.args.kind c.args.table.now) c.loop-place.rows.items) e c.loop-place.invariant
