-- The move that corresponds to the inverse of the step can be played.
use Rattle.std.proofs.Common.{◌≡◌, Some, None, sym, ap, ◌∙◌}
use Rattle.move_definitions.specs.Moves.{move_fault}
use Rattle.certificate_definitions.specs.CarriedMoves.{move_under}
use Rattle.tri_build.proofs.Led.{back_plays, inverse_in}
use Rattle.tri_build.proofs.inverse_moves.back_of.Goals as goal

pub move_under-played-requires : goal.move_under-played-requires
move_under-played-requires c = rw c.inverse.ensures (inverse_in c.requires.0 c.args.step.now c.args.now.now c.args.on.now c.requires.1)

pub labels_back-requires : goal.labels_back-requires
labels_back-requires c = inverse_in c.requires.0 c.args.step.now c.args.now.now c.args.on.now c.requires.1

pub unreachable-requires : goal.unreachable-requires
unreachable-requires c =
    let p = back_plays c.requires.0 c.args.step.now c.args.now.now c.args.on.now c.requires.1 in
    let legal : move_fault c.args.now.now c.move_under-played.result ≡ None =
    ap (move_fault c.args.now.now) (c.move_under-played.ensures ∙ ap (move_under c.args.on.now) c.inverse.ensures) ∙ p.1.moved.legal in
    let none : None ≡ Some c.in-Err.field-0 = sym legal ∙ c.in-Err.ensures.fault in
    cc
