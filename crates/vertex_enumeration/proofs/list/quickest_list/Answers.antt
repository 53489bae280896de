use Rattle.vertex_enumeration.specs.Lists.{enumeration_of}
use Rattle.vertex_enumeration.proofs.Listings.{only_listing, found_listing}
use Rattle.vertex_enumeration.proofs.list.quickest_list.Goals as goal

pub returns-clause-ok : goal.returns-clause-ok
returns-clause-ok g c =
    found_listing (enumeration_of c.args.system.now c.args.clashes.now.pairs c.args.terms.order.rule c.args.terms.limit.number) c.in-Some.known.items (c.requires.bounded c.if-terms.true) (rw c.in-Some.is at c.in_ok-known.ensures)

pub returns-2-clause-ok : goal.returns-2-clause-ok
returns-2-clause-ok g c =
    only_listing (enumeration_of c.args.system.now c.args.clashes.now.pairs c.args.terms.order.rule c.args.terms.limit.number) c.in_ok-rays.rays.order.items c.in_ok-rays.rays.list.items c.in_ok-rays.ensures.ok
