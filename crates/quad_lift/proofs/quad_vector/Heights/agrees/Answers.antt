-- The heights leave room for the quads.
use Rattle.std.proofs.Common.{arith}
use Rattle.quad_lift.proofs.SpreadLemmas.{other_inside, fits_here, fits_there}
use Rattle.quad_lift.proofs.quad_vector.Heights.agrees.Goals as goal

pub overflow_add-result : goal.overflow_add-result
overflow_add-result c = omega (arith, c.args.self.now.vector.fits, fits_here c.args.self.now.vector.skeleton.now c.across.ensures.skeleton c.args.self.now.vector.entries.now c.args.self.now.values.now c.args.self.now.spread c.args.at.vertex c.args.at.face c.in-Some.step.other c.in-Some.step.up c.in-Some.step.down c.requires c.in-Some.ensures.some)

pub bounds-self-step : goal.bounds-self-step
bounds-self-step c = omega (arith, c.args.self.now.spread.one_height, other_inside c.args.self.now.vector.skeleton.now c.across.ensures.skeleton c.args.self.now.vector.entries.now c.args.self.now.values.now c.args.self.now.spread c.args.at.vertex c.args.at.face c.in-Some.step.other c.in-Some.step.up c.in-Some.step.down c.requires c.in-Some.ensures.some)

pub overflow_add-result-in-Some : goal.overflow_add-result-in-Some
overflow_add-result-in-Some c = omega (arith, c.args.self.now.vector.fits, fits_there c.args.self.now.vector.skeleton.now c.across.ensures.skeleton c.args.self.now.vector.entries.now c.args.self.now.values.now c.args.self.now.spread c.args.at.vertex c.args.at.face c.in-Some.step.other c.in-Some.step.up c.in-Some.step.down c.requires c.in-Some.ensures.some)
