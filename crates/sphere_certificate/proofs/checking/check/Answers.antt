-- The copy has the table's rows.
use Rattle.std.proofs.Common.{Err, List, subst}
use Rattle.std.specs.Prelude.{IfErr, OnOk}
use Rattle.out_of_memory.specs.Failures.{IfFault}
use Rattle.table_definitions.specs.Table.{Row}
use Rattle.move_definitions.specs.Certificates.{IsCertificate}
use Rattle.certificate_definitions.specs.Answers.{IsChecked}
use Rattle.sphere_certificate.specs.Checks.{reported}
use Rattle.sphere_certificate.proofs.checking.check.Goals as goal

pub returns-clause-certificate : goal.returns-clause-certificate
returns-clause-certificate c = subst (λ (rows : List Row). OnOk c.check_owned.result (IsCertificate rows c.args.moves.now)) c.in_ok-copy.ensures.same c.check_owned.ensures.certificate

pub returns-clause-fault : goal.returns-clause-fault
returns-clause-fault c =
    subst (λ (rows : List Row). IfErr c.check_owned.result (λ e. IfFault e (λ fault. IsChecked rows c.args.moves.now (Err (reported fault))))) c.in_ok-copy.ensures.same c.check_owned.ensures.fault

pub returns-clause-no_certificate : goal.returns-clause-no_certificate
returns-clause-no_certificate c =
    subst (λ (rows : List Row). IfErr c.check_owned.result (λ e. IfFault e (λ _. IsCertificate rows c.args.moves.now → ⊥))) c.in_ok-copy.ensures.same c.check_owned.ensures.no_certificate
