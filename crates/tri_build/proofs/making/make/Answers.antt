-- The inverse moves certify the table that is made.
use Rattle.tri_build.proofs.SoFar.{certified, few_back}
use Rattle.tri_build.proofs.making.make.Goals as goal

pub returns-clause-certified : goal.returns-clause-certified
returns-clause-certified c =
    certified c.args.seed c.args.moves c.in_ok-table.table c.play.new.table c.in_ok-steps.steps.items c.in_ok-certificate.certificate.items c.in_ok-table.ensures c.in_ok-steps.ensures.making c.in_ok-steps.ensures.steps c.in_ok-certificate.ensures

pub returns-clause-limited : goal.returns-clause-limited
returns-clause-limited c =
    few_back c.in_ok-table.table c.play.new.table c.in_ok-steps.steps.items c.in_ok-certificate.certificate.items c.args.moves c.in_ok-steps.ensures.steps c.in_ok-certificate.ensures c.in_ok-steps.ensures.limited
