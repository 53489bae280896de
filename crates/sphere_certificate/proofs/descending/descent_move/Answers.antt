-- A move 4-1 is the descent's, and else the first 3-2.
use Rattle.std.proofs.Common.{◌∙◌, sym, ap}
use Rattle.std.specs.Prelude.{Option, option_map}
use Rattle.sphere_certificate.specs.declared.accepted.AcceptedMove.{AcceptedMove}
use Rattle.sphere_certificate.proofs.Descents.{first_search, second_search}
use Rattle.sphere_certificate.proofs.descending.descent_move.Goals as goal

pub returns-in-Some-clause-first : goal.returns-in-Some-clause-first
returns-in-Some-clause-first c = first_search c.args.table.now c.vertices.result c.in-Some.accepted.played c.vertices.ensures c.in-Some.ensures.first

pub returns-in-None-clause-first : goal.returns-in-None-clause-first
returns-in-None-clause-first c =
    second_search c.args.table.now c.vertices.result c.edges.result _ c.vertices.ensures
    (sym c.first_accepted.ensures.first ∙ ap (λ (o : Option AcceptedMove). option_map (λ (a : AcceptedMove). a.played) o) c.in-None.is) c.edges.ensures c.first_accepted-in-None.ensures.first
