use Rattle.std.proofs.lemmas.Result.{err_from_is_err_and}
use Rattle.move_laws.proofs.FindLaws.{pairs_two, pairs_err, pairs_second, pairs_third, pairs_few}
use Rattle.pachner_moves.proofs.legality.check_pairs.Goals as goal

pub returns-then-facets-eq2 : goal.returns-then-facets-eq2
returns-then-facets-eq2 c =
    pairs_two c.args.table.now c.args.facets.now c.index-facets-0.result c.index-facets-1.result c.check_pair.result c.if-facets-eq2.true c.index-facets-0.is c.index-facets-1.is c.check_pair.ensures

pub returns-in_err-check_pair : goal.returns-in_err-check_pair
returns-in_err-check_pair c =
    let p = err_from_is_err_and c.from_residual.result c.from_residual.ensures.1 in
    rw (p.1, p.2)
    (pairs_err c.args.table.now c.args.facets.now c.index-facets-0-then-facets-eq3.result c.index-facets-1-then-facets-eq3.result _ c.if-facets-eq3.true c.index-facets-0-then-facets-eq3.is c.index-facets-1-then-facets-eq3.is
    c.in_err-check_pair.ensures)

pub returns-in_err-check_pair-2 : goal.returns-in_err-check_pair-2
returns-in_err-check_pair-2 c =
    let p = err_from_is_err_and c.from_residual-in_err-check_pair-2.result c.from_residual-in_err-check_pair-2.ensures.1 in
    rw (p.1, p.2)
    (pairs_second c.args.table.now c.args.facets.now c.index-facets-0-then-facets-eq3.result c.index-facets-1-then-facets-eq3.result c.index-facets-0-then-facets-eq3-2.result c.index-facets-2.result _ _ c.if-facets-eq3.true
    c.index-facets-0-then-facets-eq3.is c.index-facets-1-then-facets-eq3.is c.index-facets-0-then-facets-eq3-2.is c.index-facets-2.is c.in_ok-check_pair.ensures c.in_err-check_pair-2.ensures)

pub returns-then-facets-eq3 : goal.returns-then-facets-eq3
returns-then-facets-eq3 c =
    pairs_third c.args.table.now c.args.facets.now c.index-facets-0-then-facets-eq3.result c.index-facets-1-then-facets-eq3.result c.index-facets-0-then-facets-eq3-2.result c.index-facets-2.result
    c.index-facets-1-then-facets-eq3-2.result c.index-facets-2-then-facets-eq3.result _ _ c.check_pair-then-facets-eq3-3.result c.if-facets-eq3.true
    c.index-facets-0-then-facets-eq3.is c.index-facets-1-then-facets-eq3.is c.index-facets-0-then-facets-eq3-2.is c.index-facets-2.is c.index-facets-1-then-facets-eq3-2.is c.index-facets-2-then-facets-eq3.is
    c.in_ok-check_pair.ensures c.in_ok-check_pair-2.ensures c.check_pair-then-facets-eq3-3.ensures

pub returns : goal.returns
returns c = pairs_few c.args.table.now c.args.facets.now tt c.if-facets-eq2.false c.if-facets-eq3.false
