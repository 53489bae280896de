-- One more row is used.
use Rattle.std.proofs.Common.{◌∙◌, refl}
use Rattle.std.proofs.lemmas.Result.{err_from_is_err_and}
use Rattle.row_reduction.specs.Eliminating.{as_they_are}
use Rattle.row_reduction.proofs.EliminatingLemmas.{thinned_again, passes_again}
use Rattle.row_reduction.proofs.RowLemmas.{zeros_follow}
use Rattle.row_reduction.proofs.thin.Thinning.sparsify_row.Goals as goal
use Rattle.row_reduction.proofs.thin.Thinning.sparsify_row.Goals.{then-j-i+then-may_have_changed+in_ok-thinner, else-j-i}

pub loop-j-preserved : goal.loop-j-preserved
loop-j-preserved c = elim c.if-j-i.branch [
  | then-j-i+then-may_have_changed+in_ok-thinner w ↦ rw w.self-is (record {
    columns = w.in_ok-thinner.ensures.columns ∙ c.loop-j.invariant.columns;
    count = w.in_ok-thinner.ensures.count ∙ c.loop-j.invariant.count;
    same = zeros_follow _ _ _ c.loop-j.invariant.same w.in_ok-thinner.ensures.same;
    thinned = thinned_again _ _ _ c.loop-j.invariant.thinned w.in_ok-thinner.ensures.thinned;
  })
  | else-j-i w ↦ rw w.self-is c.loop-j.invariant
]

pub loop-j-init : goal.loop-j-init
loop-j-init c = record {
  columns = refl;
  count = refl;
  same = λ x. (λ z. z, λ z. z);
  thinned = as_they_are;
}

pub returns-in_err-thinner-clause-passed : goal.returns-in_err-thinner-clause-passed
returns-in_err-thinner-clause-passed c =
    let p = err_from_is_err_and c.from_residual.result c.from_residual.ensures.1 in
    rw (p.1, p.2) (passes_again _ _ c.loop-j.invariant.thinned _ c.in_err-thinner.ensures.passed)
