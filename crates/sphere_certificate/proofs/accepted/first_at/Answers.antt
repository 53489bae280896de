-- The first core whose move is accepted is found.
use Rattle.std.proofs.Common.{◌∙◌, Some, sym, ap}
use Rattle.std.specs.Prelude.{is_some, Option}
use Rattle.move_definitions.specs.Moves.{Move}
use Rattle.move_definitions.specs.Certificates.{is_accepted}
use Rattle.sphere_certificate.specs.declared.accepted.AcceptedMove.{AcceptedMove}
use Rattle.sphere_certificate.proofs.Finding.{core_passed, core_found}
use Rattle.sphere_certificate.proofs.accepted.first_at.Goals as goal

pub returns-in-Some-clause-first : goal.returns-in-Some-clause-first
returns-in-Some-clause-first c =
    ap (λ (m : Move). Some m) c.in-Some.ensures.same
    ∙ sym (core_found (is_accepted c.args.table.now) c.args.tet c.args.cores.now c.loop-core.core-index c.core-item.result c.loop-core-test.true c.core-item.is c.loop-core.invariant (sym c.in-Some.ensures.accepted))

pub loop-core-preserved : goal.loop-core-preserved
loop-core-preserved c =
    core_passed (is_accepted c.args.table.now) c.args.tet c.args.cores.now c.loop-core.core-index c.core-item.result c.loop-core-test.true c.core-item.is c.loop-core.invariant
    (sym c.accept.ensures.accepted ∙ ap (λ (o : Option AcceptedMove). is_some o) c.in_default.is)
