-- What is returned for the last table is returned for the moves.
use Rattle.std.proofs.Common.{Err}
use Rattle.move_laws.proofs.Played.{all_led_table}
use Rattle.sphere_certificate.specs.Checks.{reported}
use Rattle.sphere_certificate.proofs.CheckAnswers.{checked_on, fault_or_certificate, fault_goes}
use Rattle.sphere_certificate.proofs.checking.check_owned.Goals as goal

pub judge-requires : goal.judge-requires
judge-requires c = all_led_table c.args.table c.args.moves.now c.play_all.new.table c.len.ensures.is_table c.in_default.ensures.led

pub returns-in-Err-clause-no_certificate : goal.returns-in-Err-clause-no_certificate
returns-in-Err-clause-no_certificate c = fault_or_certificate c.args.table c.args.moves.now (reported c.in-Err.fault) c.len.ensures.is_table c.in-Err.ensures.refused

pub returns-clause-fault : goal.returns-clause-fault
returns-clause-fault c = fault_goes c.judge.result (λ e h. checked_on c.args.table c.args.moves.now _ (Err (reported e)) c.in_default.ensures.led h) c.judge.ensures.fault

pub returns-clause-no_certificate : goal.returns-clause-no_certificate
returns-clause-no_certificate c =
    fault_goes c.judge.result
    (λ e h. fault_or_certificate c.args.table c.args.moves.now (reported e) c.len.ensures.is_table (checked_on c.args.table c.args.moves.now _ (Err (reported e)) c.in_default.ensures.led h))
    c.judge.ensures.fault
