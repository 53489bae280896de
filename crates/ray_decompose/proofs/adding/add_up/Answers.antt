use Rattle.std.proofs.Common.{refl, sym, arith}
use Rattle.ray_decompose.proofs.Faults.{zero_fault, first_fault, no_faults, given_add_up}
use Rattle.ray_decompose.proofs.adding.add_up.Goals as goal

pub returns-then-times-eq0-clause-fault : goal.returns-then-times-eq0-clause-fault
returns-then-times-eq0-clause-fault c = zero_fault _ _ _ _ c.if-times-eq0.true

pub returns-in-Some-clause-fault : goal.returns-in-Some-clause-fault
returns-in-Some-clause-fault c = first_fault _ _ _ _ c.loop-index.index c.in-Some.fault c.if-times-eq0.false c.loop-index-test.true c.loop-index.invariant (sym c.in-Some.ensures)

pub returns-clause-ok : goal.returns-clause-ok
returns-clause-ok c = no_faults _ _ _ _ c.if-times-eq0.false (λ k l. c.loop-index.invariant k (omega arith))

pub returns-clause-adds_up : goal.returns-clause-adds_up
returns-clause-adds_up c = (λ e. given_add_up _ _ _ _ c.requires.terms (no_faults _ _ _ _ c.if-times-eq0.false (λ k l. c.loop-index.invariant k (omega arith))), λ a. refl)
