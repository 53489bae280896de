use Rattle.std.proofs.Common.{ℕ, List, nat_cmp, is_lt, Bool, rules}
use Rattle.std.specs.Cmp.Lexicographic.{slice_cmp}
use Rattle.std.proofs.lemmas.Cmp.{nat_list_cmp_total}
use Rattle.std.proofs.lemmas.List.Sorted.{ranks_by, answers_always}
use Rattle.std.proofs.lemmas.Result.{on_ok_weaker}
use Rattle.lazy_columns.proofs.engine.sort.Goals as goal

pub returns-clause-sorted : goal.returns-clause-sorted
returns-clause-sorted c =
    let before : List ℕ → List ℕ → Bool = λ a b. is_lt (slice_cmp nat_cmp a b) in
    on_ok_weaker c.sort_by.result
    (λ sorted. sorted before (ranks_by nat_list_cmp_total (λ (x : List ℕ). x)) (answers_always _ _ _ (λ f a r f' called. search rules)))
    c.sort_by.ensures.sorted
