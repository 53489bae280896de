-- One more row is retained, or left out.
use Rattle.std.proofs.Common.{◌∙◌, subst, sym, Contains, []}
use Rattle.std.specs.List.{All}
use Rattle.std.proofs.lemmas.Iterator.Adapters.{YieldsList-from_vec}
use Rattle.std.proofs.lemmas.Iterator.Consumers.{YieldsList-end}
use Rattle.std.proofs.lemmas.List.{map-id}
use Rattle.std.proofs.lemmas.List.Elements.{All-nil}
use Rattle.cone_arithmetic.specs.Sparse.{IsInRange}
use Rattle.cone_row_laws.specs.Solutions.{HaveSameZeros}
use Rattle.row_reduction.proofs.RowLemmas.{distinct_more, stand_more, all_of_these}
use Rattle.row_reduction.specs.Eliminating.{AreKept, no_rows, kept_more}
use Rattle.row_reduction.proofs.blocks.distinct_rows.Goals as goal

pub loop-row-preserved : goal.loop-row-preserved
loop-row-preserved c = record {
  same = distinct_more c.loop-row.yielded c.loop-row.kept.items c.in-Some.row c.push_distinct.new.rows.items c.loop-row.invariant.same c.in_ok-push_distinct.ensures.adds;
  kept = kept_more c.loop-row.yielded c.loop-row.kept.items c.push_distinct.new.rows.items c.in-Some.row c.loop-row.invariant.kept c.in_ok-push_distinct.ensures.keeps;
  stand = stand_more c.loop-row.yielded c.loop-row.kept.items c.in-Some.row c.push_distinct.new.rows.items c.loop-row.invariant.stand c.in_ok-push_distinct.ensures.adds;
}

pub returns-clause-same : goal.returns-clause-same
returns-clause-same c =
    let given = c.into_iter-row-iterator.ensures.into_iter_gives in
    let rows = YieldsList-from_vec c.args.list.rows.items given.0 (given.1 ∙ c.args.list.rows.ok.0) in
    let all = sym (map-id c.loop-row.yielded) ∙ (YieldsList-end rows c.loop-row.yielded _ c.loop-row.yielded_by _ c.next.new.self c.in-None.is c.next.ensures.steps).0 in
    subst (λ rows. HaveSameZeros rows c.loop-row.kept.items) all c.loop-row.invariant.same

pub invariant_of-result : goal.invariant_of-result
invariant_of-result c =
    let given = c.into_iter-row-iterator.ensures.into_iter_gives in
    let rows = YieldsList-from_vec c.args.list.rows.items given.0 (given.1 ∙ c.args.list.rows.ok.0) in
    let all = sym (map-id c.loop-row.yielded) ∙ (YieldsList-end rows c.loop-row.yielded _ c.loop-row.yielded_by _ c.next.new.self c.in-None.is c.next.ensures.steps).0 in
    record {
      in_range = all_of_these (IsInRange c.args.list.columns) c.args.list.rows.items c.loop-row.kept.items
          (subst (λ rows. All (Contains rows) c.loop-row.kept.items) all c.loop-row.invariant.stand) c.args.list.in_range;
    }

pub returns-clause-kept : goal.returns-clause-kept
returns-clause-kept c =
    let given = c.into_iter-row-iterator.ensures.into_iter_gives in
    let rows = YieldsList-from_vec c.args.list.rows.items given.0 (given.1 ∙ c.args.list.rows.ok.0) in
    let all = sym (map-id c.loop-row.yielded) ∙ (YieldsList-end rows c.loop-row.yielded _ c.loop-row.yielded_by _ c.next.new.self c.in-None.is c.next.ensures.steps).0 in
    subst (λ rows. AreKept rows c.loop-row.kept.items) all c.loop-row.invariant.kept

pub loop-row-init : goal.loop-row-init
loop-row-init c = rw c.in_ok-kept.ensures.items (record {
  same = λ x. (λ z. z, λ z. z);
  kept = no_rows;
  stand = All-nil (Contains []);
})
