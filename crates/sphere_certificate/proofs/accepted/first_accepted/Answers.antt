-- The first accepted move of a tetrahedron is the first of all, if no tetrahedron before it has one.
use Rattle.std.proofs.Common.{◌∙◌, sym, ap, arith}
use Rattle.std.specs.Prelude.{length, Option, option_map}
use Rattle.move_definitions.specs.Certificates.{is_accepted}
use Rattle.sphere_certificate.specs.declared.accepted.AcceptedMove.{AcceptedMove}
use Rattle.sphere_certificate.proofs.Finding.{found_first, found_none}
use Rattle.sphere_certificate.proofs.accepted.first_accepted.Goals as goal

pub returns-in-Some-clause-first : goal.returns-in-Some-clause-first
returns-in-Some-clause-first c =
    sym (found_first (is_accepted c.args.table.now) c.args.cores.now c.loop-tet.tet (length c.args.table.now) c.in-Some.accepted.played (omega (arith, c.loop-tet-test.true, c.len-tet-end.ensures.value))
    c.loop-tet.invariant (sym c.in-Some.ensures.first))

pub loop-tet-preserved : goal.loop-tet-preserved
loop-tet-preserved c =
    found_none (is_accepted c.args.table.now) c.args.cores.now c.loop-tet.tet c.loop-tet.invariant
    (sym c.first_at.ensures.first ∙ ap (λ (o : Option AcceptedMove). option_map (λ (a : AcceptedMove). a.played) o) c.in_default.is)
