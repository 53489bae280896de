use Rattle.std.proofs.Common.{arith}
use Rattle.std.proofs.lemmas.Result.{err_from_is_err_and}
use Rattle.move_laws.proofs.FindLaws.{one_facet, none_more, all_facets, no_fault, first_fault, length_below}
use Rattle.pachner_moves.proofs.legality.find_facets.Goals as goal

pub push-requires : goal.push-requires
push-requires c = omega (arith, length_below c.args.table.now c.args.m.now c.loop-label.label c.loop-label.facets.items c.loop-label.invariant.facets)

pub loop-label-preserved : goal.loop-label-preserved
loop-label-preserved c = record {
  facets = one_facet c.args.table.now c.args.m.now c.loop-label.label c.loop-label.facets.items _ c.in_ok-facet.facet (omega arith) c.loop-label.invariant.facets c.in_ok-facet.ensures.facet c.push.ensures.items;
  none = none_more c.args.table.now c.args.m.now c.loop-label.label c.in_ok-facet.ensures.none c.loop-label.invariant.none;
}

pub returns-in_err-facet-clause-fault : goal.returns-in_err-facet-clause-fault
returns-in_err-facet-clause-fault c =
    let p = err_from_is_err_and c.from_residual.result c.from_residual.ensures.1 in
    rw (p.1, p.2) (first_fault c.args.table.now c.args.m.now c.loop-label.label _ (omega arith) (omega arith) c.loop-label.invariant.none c.in_err-facet.ensures.fault)

pub returns-clause-facets : goal.returns-clause-facets
returns-clause-facets c = all_facets c.args.table.now c.args.m.now c.loop-label.label c.loop-label.facets.items (omega arith) (omega arith) c.loop-label.invariant.facets

pub returns-clause-none : goal.returns-clause-none
returns-clause-none c = no_fault c.args.table.now c.args.m.now c.loop-label.label (omega arith) (omega arith) c.loop-label.invariant.none
