-- Both blocks have the solutions of the system, and each step preserves them.
use Rattle.std.proofs.Common.{◌++◌, ◌∙◌, subst, sym}
use Rattle.std.specs.List.{All}
use Rattle.std.proofs.lemmas.Result.{err_from_is_err_and}
use Rattle.std.proofs.lemmas.List.Elements.{All-append}
use Rattle.std.proofs.lemmas.List.Sorted.{All-permutation}
use Rattle.cone_arithmetic.specs.Sparse.{IsInRange}
use Rattle.cone_row_laws.specs.Solutions.{HaveSameZeros}
use Rattle.cone_row_laws.proofs.Zeros.{same_from_zeros}
use Rattle.row_reduction.proofs.RowLemmas.{zeros_follow, front_replaced, back_reordered}
use Rattle.row_reduction.proofs.EliminatingLemmas.{then_passed}
use Rattle.row_reduction.proofs.blocks.solve.Goals as goal

pub invariant_of-system_of : goal.invariant_of-system_of
invariant_of-system_of c =
    let blocks = c.in_ok-unsolved.field-0 in
    let rows = c.in_ok-columns.field-0 in
    let last = c.put_further_last.new.rows.items in
    let same = blocks.same_columns ∙ sym c.in_ok-columns.ensures.columns in
    let solved = All-permutation (IsInRange blocks.solved.columns) _ _ c.put_further_last.ensures blocks.solved.in_range in
    record {
      in_range = rw c.in_ok-append.ensures.items (All-append (IsInRange rows.columns) rows.rows.items last rows.in_range (subst (λ n. All (IsInRange n) last) same solved));
    }

pub returns-clause-same : goal.returns-clause-same
returns-clause-same c =
    let start = c.args.system.now.rows in
    let unsolved = c.in_ok-unsolved.field-0.unsolved.rows.items in
    let solved = c.in_ok-unsolved.field-0.solved.rows.items in
    let first = c.in_ok-columns.field-0.rows.items in
    let last = c.put_further_last.new.rows.items in
    let system = c.in_ok-system_of.field-0 in
    let made = front_replaced unsolved first solved c.in_ok-columns.ensures.same in
    let in_turn = back_reordered first solved last c.put_further_last.ensures in
    let all = zeros_follow start (unsolved ++ solved) (first ++ last) c.in_ok-unsolved.ensures.same (zeros_follow (unsolved ++ solved) (first ++ solved) (first ++ last) made in_turn) in
    same_from_zeros c.args.system.now.columns start system.rows (subst (HaveSameZeros start) (sym (c.in_ok-system_of.ensures.rows ∙ c.in_ok-append.ensures.items)) all)

pub returns-in_err-columns-clause-passed : goal.returns-in_err-columns-clause-passed
returns-in_err-columns-clause-passed c =
    let p = err_from_is_err_and c.from_residual-in_err-columns.result c.from_residual-in_err-columns.ensures.1 in
    rw (p.1, p.2) (then_passed c.args.system.now.rows c.args.pivots.now _ _ c.in_ok-unsolved.ensures.eliminated _ c.in_err-columns.ensures.passed)
