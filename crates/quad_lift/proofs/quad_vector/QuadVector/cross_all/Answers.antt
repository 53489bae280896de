-- Crossing one more face continues the step at the vertex.
use Rattle.std.proofs.Common.{◌∙◌, arith}
use Rattle.quad_lift.proofs.RoundTurns.{turn_over}
use Rattle.quad_lift.proofs.quad_vector.QuadVector.cross_all.Goals as goal

pub cross-requires-clause-spread : goal.cross-requires-clause-spread
cross-requires-clause-spread c = c.loop-face.invariant.spread

pub cross-requires-clause-marked : goal.cross-requires-clause-marked
cross-requires-clause-marked c = c.loop-face.invariant.still_marked

pub loop-face-preserved : goal.loop-face-preserved
loop-face-preserved c = record {
  spread = c.in_ok-cross.ensures.spread;
  still_marked = c.in_ok-cross.ensures.kept c.args.vertex c.loop-face.invariant.still_marked;
  turn = λ first t. c.in_ok-cross.ensures.turn first (c.loop-face.invariant.turn first t);
  work = c.in_ok-cross.ensures.work ∙ c.loop-face.invariant.work;
}

pub returns-clause-turn : goal.returns-clause-turn
returns-clause-turn c = λ first t.
    turn_over c.args.self.now.skeleton.now.rows first c.args.vertex c.loop-face.face c.loop-face.marked c.loop-face.pending.items (omega (arith, c.loop-face-test.false)) (c.loop-face.invariant.turn first t)
