use Rattle.std.proofs.Common.{ap, arith, ◌≡◌, length, List}
use Rattle.std.proofs.lemmas.Result.{err_from_is_err_and}
use Rattle.table_definitions.specs.Table.{Row}
use Rattle.move_definitions.specs.Moves.{Move}
use Rattle.move_laws.proofs.FindLaws.{none_such, facet_fault_first, pair_fault_found, is_legal}
use Rattle.pachner_moves.proofs.legality.legal.Goals as goal

pub returns-then-m-rows-clause-fault : goal.returns-then-m-rows-clause-fault
returns-then-m-rows-clause-fault c =
    let n : length c.rows.result.now ≡ length c.args.table.now = ap (λ (rows : List Row). length rows) c.rows.ensures.rows in
    let t : c.m.inside.tet ≡ c.args.m.tet = ap (λ (m : Move). m.tet) c.m.view_is in
    none_such c.args.table.now c.args.m (omega arith)

pub returns-in_err-facets-clause-fault : goal.returns-in_err-facets-clause-fault
returns-in_err-facets-clause-fault c =
    let n : length c.rows.result.now ≡ length c.args.table.now = ap (λ (rows : List Row). length rows) c.rows.ensures.rows in
    let t : c.m.inside.tet ≡ c.args.m.tet = ap (λ (m : Move). m.tet) c.m.view_is in
    let p = err_from_is_err_and c.from_residual.result c.from_residual.ensures.1 in
    rw (p.1, p.2) (facet_fault_first c.args.table.now c.args.m _ (omega arith) c.in_err-facets.ensures.fault)

pub returns-in_err-check_pairs-clause-fault : goal.returns-in_err-check_pairs-clause-fault
returns-in_err-check_pairs-clause-fault c =
    let n : length c.rows.result.now ≡ length c.args.table.now = ap (λ (rows : List Row). length rows) c.rows.ensures.rows in
    let t : c.m.inside.tet ≡ c.args.m.tet = ap (λ (m : Move). m.tet) c.m.view_is in
    let some = c.in_ok-facets.ensures.some in
    let most = c.in_ok-facets.ensures.most in
    let p = err_from_is_err_and c.from_residual-in_err-check_pairs.result c.from_residual-in_err-check_pairs.ensures.1 in
    rw (p.1, p.2)
    (pair_fault_found c.args.table.now c.args.m c.in_ok-facets.facets.items c.deref.result.now _ (omega arith) (omega arith) (omega arith) c.in_ok-facets.ensures.none c.in_ok-facets.ensures.facets c.deref.ensures.0
    c.in_err-check_pairs.ensures)

pub returns-clause-pattern : goal.returns-clause-pattern
returns-clause-pattern c =
    let n : length c.rows.result.now ≡ length c.args.table.now = ap (λ (rows : List Row). length rows) c.rows.ensures.rows in
    let t : c.m.inside.tet ≡ c.args.m.tet = ap (λ (m : Move). m.tet) c.m.view_is in
    let some = c.in_ok-facets.ensures.some in
    let most = c.in_ok-facets.ensures.most in
    is_legal c.args.table.now c.args.m c.in_ok-facets.facets.items c.deref.result.now c.push.new.self.items c.own_facet.result _ (omega arith) (omega arith) (omega arith)
    c.in_ok-facets.ensures.none c.in_ok-facets.ensures.facets c.deref.ensures.0 c.in_ok-check_pairs.ensures c.own_facet.ensures c.push.ensures.items
