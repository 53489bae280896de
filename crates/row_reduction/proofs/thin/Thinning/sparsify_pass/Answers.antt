-- One more row is made sparser.
use Rattle.std.proofs.Common.{◌∙◌, refl}
use Rattle.std.proofs.lemmas.Result.{err_from_is_err_and}
use Rattle.row_reduction.specs.Eliminating.{as_they_are}
use Rattle.row_reduction.proofs.EliminatingLemmas.{thinned_again, passes_again}
use Rattle.row_reduction.proofs.RowLemmas.{zeros_follow}
use Rattle.row_reduction.proofs.thin.Thinning.sparsify_pass.Goals as goal

pub loop-i-preserved : goal.loop-i-preserved
loop-i-preserved c = record {
  columns = c.in_ok-thinner.ensures.columns ∙ c.loop-i.invariant.columns;
  count = c.in_ok-thinner.ensures.count ∙ c.loop-i.invariant.count;
  same = zeros_follow _ _ _ c.loop-i.invariant.same c.in_ok-thinner.ensures.same;
  thinned = thinned_again _ _ _ c.loop-i.invariant.thinned c.in_ok-thinner.ensures.thinned;
}

pub loop-i-init : goal.loop-i-init
loop-i-init c = record {
  columns = refl;
  count = refl;
  same = λ x. (λ z. z, λ z. z);
  thinned = as_they_are;
}

pub returns-in_err-thinner-clause-passed : goal.returns-in_err-thinner-clause-passed
returns-in_err-thinner-clause-passed c =
    let p = err_from_is_err_and c.from_residual.result c.from_residual.ensures.1 in
    rw (p.1, p.2) (passes_again _ _ c.loop-i.invariant.thinned _ c.in_err-thinner.ensures.passed)
