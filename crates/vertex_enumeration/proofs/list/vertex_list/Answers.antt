use Rattle.std.proofs.Common.{List, subst, sym}
use Rattle.std.specs.Prelude.{IfOk, IfErr}
use Rattle.cone_definitions.specs.Surfaces.{Clash}
use Rattle.vertex_enumeration.specs.Lists.{enumeration_of, AreAlwaysWithin, IsOnlyListing, AreRefused}
use Rattle.vertex_enumeration.proofs.list.vertex_list.Goals as goal

pub quickest_list-requires-clause-bounded : goal.quickest_list-requires-clause-bounded
quickest_list-requires-clause-bounded g c fit = subst (AreAlwaysWithin c.args.terms.limit.number c.args.system.now) (sym c.in_ok-clashes.ensures.pairs) (c.requires.bounded fit)

pub returns-clause-ok : goal.returns-clause-ok
returns-clause-ok g c =
    subst (λ (pairs : List Clash). IfOk c.quickest_list.result (λ list. IsOnlyListing (enumeration_of c.args.system.now pairs c.args.terms.order.rule c.args.terms.limit.number) list.items))
    c.in_ok-clashes.ensures.pairs c.quickest_list.ensures.ok

pub returns-clause-err : goal.returns-clause-err
returns-clause-err g c =
    subst (λ (pairs : List Clash). IfErr c.quickest_list.result (AreRefused (enumeration_of c.args.system.now pairs c.args.terms.order.rule c.args.terms.limit.number)))
    c.in_ok-clashes.ensures.pairs c.quickest_list.ensures.err
