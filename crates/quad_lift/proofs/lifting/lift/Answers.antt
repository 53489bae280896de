-- If the heights agree with the quads they are a lift, and the least class at which they do not has none.
use Rattle.std.proofs.Common.{◌∙◌, subst, arith}
use Rattle.surface_laws.specs.LiftLaws.{IsLiftOf}
use Rattle.quad_lift.specs.Agreements.{IsLeastWrong, AreLeastHeights, lifted_entry}
use Rattle.quad_lift.proofs.LiftParts.{least_without, lift_is, surface_over}
use Rattle.quad_lift.proofs.lifting.lift.Goals as goal

pub returns-then-class-classes-clause-fault : goal.returns-then-class-classes-clause-fault
returns-then-class-classes-clause-fault c = (
  c.in-Some.ensures.fits,
  least_without c.args.skeleton.now c.vertices-classes.ensures.skeleton c.args.x.now c.requires c.in_ok-values.values.items c.in_ok-values.ensures c.first_spinning_vertex-class.result
      (subst (λ hs. IsLeastWrong c.args.skeleton.now c.args.x.now hs c.first_spinning_vertex-class.result) c.deref.ensures.value c.first_spinning_vertex-class.ensures)
      (omega (arith, c.if-class-classes.true, c.vertices-classes.ensures.count)),
)

pub returns-clause-lifted : goal.returns-clause-lifted
returns-clause-lifted c = (c.in-Some.ensures.fits, lifted)
  where
    lifted : IsLiftOf c.args.skeleton.now c.args.x.now c.in_ok-lifted.lifted.items
    lifted =
        lift_is c.args.skeleton.now c.vertices-classes.ensures.skeleton c.args.x.now c.requires c.in_ok-values.values.items c.in_ok-values.ensures c.first_spinning_vertex-class.result
        (subst (λ hs. IsLeastWrong c.args.skeleton.now c.args.x.now hs c.first_spinning_vertex-class.result) c.deref.ensures.value c.first_spinning_vertex-class.ensures) c.in_ok-lows.lows.items c.in_ok-lifted.lifted.items
        (omega (arith, c.if-class-classes.false, c.vertices-classes.ensures.count))
        (subst (λ hs. AreLeastHeights c.args.skeleton.now hs c.in_ok-lows.lows.items) c.deref.ensures.value c.in_ok-lows.ensures)
        c.in_ok-lifted.ensures.length
        (λ i l. c.in_ok-lifted.ensures.entries i l ∙ (λ j. lifted_entry c.args.skeleton.now c.args.x.now (c.deref.ensures.value j) (c.deref-2.ensures.value j) i))

pub returns-clause-surface : goal.returns-clause-surface
returns-clause-surface c = surface_over c.args.skeleton.now c.vertices-classes.ensures.skeleton c.args.x.now c.requires c.in_ok-lifted.lifted.items (returns-clause-lifted c).1
