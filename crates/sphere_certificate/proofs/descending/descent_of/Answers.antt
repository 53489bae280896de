-- Each pass plays the move of the descent, which makes the table smaller; the last pass has no move.
use Rattle.certificate_laws.proofs.Descents.{descents_lessen_lem}
use Rattle.certificate_laws.proofs.Answered.{descent_accepted}
use Rattle.sphere_certificate.proofs.Descents.{ends_here, one_more, ended, ended_certifies, ended_fewer}
use Rattle.sphere_certificate.proofs.descending.descent_of.Goals as goal

pub play-requires-clause-accepted : goal.play-requires-clause-accepted
play-requires-clause-accepted c = descent_accepted c.loop-next.last c.in-Some.next.played c.in-Some.ensures.next.1

pub loop-next-smaller : goal.loop-next-smaller
loop-next-smaller c = descents_lessen_lem c.loop-next.last c.in-Some.next.played c.play.new.table c.in-Some.ensures.next.1 c.play.ensures

pub loop-next-preserved : goal.loop-next-preserved
loop-next-preserved c = (
  one_more c.args.table.now c.loop-next.moves.items c.push.new.self.items c.loop-next.last c.in-Some.next.played c.play.new.table c.loop-next.invariant.0 c.in-Some.ensures.next c.play.ensures c.in_ok-push.ensures.items,
  c.in_ok-reached-2.ensures,
)

pub returns-clause-descent : goal.returns-clause-descent
returns-clause-descent c =
    ended c.args.table.now c.loop-next.moves.items c.loop-next.last c.loop-next.reached c.loop-next.invariant.0 (ends_here c.loop-next.last c.next_move.result c.next_move.ensures.next c.in_default.is) c.loop-next.invariant.1

pub returns-clause-certificate : goal.returns-clause-certificate
returns-clause-certificate c =
    ended_certifies c.args.table.now c.loop-next.moves.items c.loop-next.last c.loop-next.reached c.in_ok-last.ensures.is_table c.loop-next.invariant.0
    (ends_here c.loop-next.last c.next_move.result c.next_move.ensures.next c.in_default.is) c.loop-next.invariant.1

pub returns-clause-fewer : goal.returns-clause-fewer
returns-clause-fewer c =
    ended_fewer c.args.table.now c.loop-next.moves.items c.loop-next.last c.in_ok-last.ensures.is_table c.loop-next.invariant.0 (ends_here c.loop-next.last c.next_move.result c.next_move.ensures.next c.in_default.is)
