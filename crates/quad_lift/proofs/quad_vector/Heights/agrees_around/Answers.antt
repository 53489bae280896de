-- The heights agree at each face, or not at one.
use Rattle.std.proofs.Common.{arith, refl, below_more}
use Rattle.quad_lift.specs.Agreements.{Agrees}
use Rattle.quad_lift.proofs.quad_vector.Heights.agrees_around.Goals as goal

pub loop-face-preserved : goal.loop-face-preserved
loop-face-preserved c = below_more (λ f. Agrees c.args.self.now.vector.skeleton.now c.args.self.now.vector.entries.now c.args.self.now.values.now c.args.vertex f) _ c.loop-face.invariant (c.if-not-agrees.ensures.agrees refl)

pub returns-clause-agrees : goal.returns-clause-agrees
returns-clause-agrees c = λ t f l. c.loop-face.invariant f (omega (arith, c.loop-face-test.false))

pub returns-then-not-agrees-clause-wrong : goal.returns-then-not-agrees-clause-wrong
returns-then-not-agrees-clause-wrong c = λ e all. c.if-not-agrees.ensures.wrong refl (all c.loop-face.face c.loop-face-test.true)
