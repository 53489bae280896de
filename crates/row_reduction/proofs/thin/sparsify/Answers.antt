-- One more pass.
use Rattle.std.proofs.Common.{◌∙◌, refl}
use Rattle.std.proofs.lemmas.Result.{err_from_is_err_and}
use Rattle.row_reduction.specs.Eliminating.{as_they_are}
use Rattle.row_reduction.proofs.EliminatingLemmas.{thinned_again, passes_again}
use Rattle.row_reduction.proofs.RowLemmas.{zeros_follow}
use Rattle.row_reduction.proofs.thin.sparsify.Goals as goal
use Rattle.row_reduction.proofs.thin.sparsify.Goals.{else-loop-pass-test, then-loop-pass-test+in_ok-sparsify_pass+then-not-branch}

pub loop-pass-preserved : goal.loop-pass-preserved
loop-pass-preserved c = record {
  columns = c.in_ok-sparsify_pass.ensures.columns ∙ c.loop-pass.invariant.columns;
  same = zeros_follow _ _ _ c.loop-pass.invariant.same c.in_ok-sparsify_pass.ensures.same;
  thinned = thinned_again _ _ _ c.loop-pass.invariant.thinned c.in_ok-sparsify_pass.ensures.thinned;
}

pub returns-clause-same : goal.returns-clause-same
returns-clause-same c = elim c.loop-pass-test.branch [
  | else-loop-pass-test w ↦ rw w.thinning-is c.loop-pass.invariant.same
  | then-loop-pass-test+in_ok-sparsify_pass+then-not-branch w ↦ rw w.thinning-is (zeros_follow _ _ _ c.loop-pass.invariant.same w.in_ok-sparsify_pass.ensures.same)
]

pub returns-clause-columns : goal.returns-clause-columns
returns-clause-columns c = elim c.loop-pass-test.branch [
  | else-loop-pass-test w ↦ rw w.thinning-is c.loop-pass.invariant.columns
  | then-loop-pass-test+in_ok-sparsify_pass+then-not-branch w ↦ rw w.thinning-is (w.in_ok-sparsify_pass.ensures.columns ∙ c.loop-pass.invariant.columns)
]

pub loop-pass-init : goal.loop-pass-init
loop-pass-init c = record {
  columns = refl;
  same = λ x. (λ z. z, λ z. z);
  thinned = as_they_are;
}

pub returns-clause-thinned : goal.returns-clause-thinned
returns-clause-thinned c = elim c.loop-pass-test.branch [
  | else-loop-pass-test w ↦ rw w.thinning-is c.loop-pass.invariant.thinned
  | then-loop-pass-test+in_ok-sparsify_pass+then-not-branch w ↦ rw w.thinning-is (thinned_again _ _ _ c.loop-pass.invariant.thinned w.in_ok-sparsify_pass.ensures.thinned)
]

pub returns-in_err-sparsify_pass-clause-passed : goal.returns-in_err-sparsify_pass-clause-passed
returns-in_err-sparsify_pass-clause-passed c =
    let p = err_from_is_err_and c.from_residual-in_err-sparsify_pass.result c.from_residual-in_err-sparsify_pass.ensures.1 in
    rw (p.1, p.2) (passes_again _ _ c.loop-pass.invariant.thinned _ c.in_err-sparsify_pass.ensures.passed)
