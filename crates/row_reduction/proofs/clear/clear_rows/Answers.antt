-- A row with a term at the column gets a multiple of the pivot row.
use Rattle.std.proofs.Common.{rules, ◌<◌, ◌≤◌, length, ◌∙◌, refl, w32, FitsSigned}
use Rattle.std.proofs.lemmas.Int.{to_z-of_z}
use Rattle.std.proofs.lemmas.Result.{err_from_is_err_and}
use Rattle.row_reduction.proofs.EliminatingLemmas.{cleared_none, cleared_same, cleared_more, cleared_all, passes_clearing}
use Rattle.row_reduction.proofs.CoefficientLemmas.{cancels_at, none_at}
use Rattle.row_reduction.proofs.RowLemmas.{cleared_at, count_at}
use Rattle.row_reduction.proofs.clear.clear_rows.Goals as goal
use Rattle.row_reduction.proofs.clear.clear_rows.Goals.{in-Some+in_ok-add_at, in_default}

pub loop-i-preserved : goal.loop-i-preserved
loop-i-preserved c =
    let rows = c.loop-i.list.rows.items in
    let start = c.args.list.now.rows.items in
    let i = c.loop-i.i in
    let pivot = c.args.pivot.now in
    let within : i < length rows = search rules in
    elim c.match-factor_for.branch [
      | in-Some+in_ok-add_at w ↦
          let factor = w.in-Some.factor in
          let f : FitsSigned w32 factor = search rules in
          let adds = rw w.row.ensures at (simp to_z-of_z at w.in_ok-add_at.ensures.adds) in
          let cancels = cancels_at rows i c.index.result.now pivot.column within c.index.ensures factor pivot.row w.in-Some.ensures.cancels in
          rw w.list-is (record {
            columns = w.add_at.ensures.columns ∙ c.loop-i.invariant.columns;
            count = count_at _ _ _ _ _ _ adds ∙ c.loop-i.invariant.count;
            cleared = cleared_at _ pivot.row start rows i _ _ within adds c.loop-i.invariant.cleared;
            each = cleared_more pivot.row pivot.column start rows i c.loop-i.invariant.each within c.loop-i.list.columns factor w.add_at.new.list.rows.items cancels adds;
          })
      | in_default w ↦ rw w.list-is (record {
        columns = c.loop-i.invariant.columns;
        count = c.loop-i.invariant.count;
        cleared = c.loop-i.invariant.cleared;
        each = cleared_same pivot.row pivot.column start rows i c.loop-i.invariant.each within
            (none_at rows i c.index.result.now pivot.column within c.index.ensures c.factor_for.result w.in_default.not-Some c.factor_for.ensures.none);
      })
    ]

pub loop-i-init : goal.loop-i-init
loop-i-init c = record {
  columns = refl;
  count = refl;
  cleared = λ x zero. (λ z. z, λ z. z);
  each = cleared_none c.args.pivot.now.row c.args.pivot.now.column c.args.list.now.rows.items;
}

pub returns-in_err-add_at-clause-passed : goal.returns-in_err-add_at-clause-passed
returns-in_err-add_at-clause-passed c =
    let rows = c.loop-i.list.rows.items in
    let i = c.loop-i.i in
    let pivot = c.args.pivot.now in
    let within : i < length rows = search rules in
    let factor = c.in-Some.factor in
    let f : FitsSigned w32 factor = search rules in
    let cancels = cancels_at rows i c.index.result.now pivot.column within c.index.ensures factor pivot.row c.in-Some.ensures.cancels in
    let p = err_from_is_err_and c.from_residual.result c.from_residual.ensures.1 in
    rw (p.1, p.2) (passes_clearing pivot.row pivot.column c.args.list.now.rows.items rows i c.loop-i.invariant.each within factor cancels _
    (rw c.row.ensures at (simp to_z-of_z at c.in_err-add_at.ensures.passed)))

pub returns-clause-each : goal.returns-clause-each
returns-clause-each c =
    let start = c.args.list.now.rows.items in
    let exceeded : length start ≤ c.loop-i.i = search rules in
    cleared_all c.args.pivot.now.row c.args.pivot.now.column start c.loop-i.list.rows.items c.loop-i.i exceeded c.loop-i.invariant.each
