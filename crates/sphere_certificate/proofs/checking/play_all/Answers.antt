-- Moves that can be played are played in order, and the first that cannot be is returned.
use Rattle.certificate_laws.proofs.Loops.{checks_go_on_lem, checks_refuse_lem}
use Rattle.sphere_certificate.proofs.checking.play_all.Goals as goal

pub returns-in-Err-clause-refused : goal.returns-in-Err-clause-refused
returns-in-Err-clause-refused c =
    checks_refuse_lem c.args.table.now c.args.moves.now c.loop-i.i c.index-moves-i.result c.loop-i.table c.in-Err.fault c.loop-i-test.true c.index-moves-i.is c.loop-i.invariant c.in-Err.ensures.fault

pub loop-i-preserved : goal.loop-i-preserved
loop-i-preserved c =
    checks_go_on_lem c.args.table.now c.args.moves.now c.loop-i.i c.index-moves-i.result c.loop-i.table c.apply.new.table c.loop-i-test.true c.index-moves-i.is c.loop-i.invariant c.in_default.ensures.moved
