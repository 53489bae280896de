use Rattle.std.proofs.Common.{nat_cmp, is_lt, Bool, rules}
use Rattle.std.specs.Cmp.Lexicographic.{slice_cmp}
use Rattle.std.proofs.lemmas.Cmp.{nat_list_cmp_total}
use Rattle.std.proofs.lemmas.List.Sorted.{ranks_by, answers_always}
use Rattle.std.proofs.lemmas.Result.{on_ok_weaker}
use Rattle.ray_steps.specs.declared.rays.RayWithSupport.{RayWithSupport}
use Rattle.ray_steps.proofs.RayLemmas.{sorted_rays}
use Rattle.ray_steps.proofs.lists.sort_rays.Goals as goal

pub returns-clause-sorted : goal.returns-clause-sorted
returns-clause-sorted c =
    let before : RayWithSupport → RayWithSupport → Bool = λ a b. is_lt (slice_cmp nat_cmp a.ray b.ray) in
    on_ok_weaker c.sort_by.result
    (λ sorted. sorted_rays c.sort_by.new.self.items (sorted before (ranks_by nat_list_cmp_total (λ (k : RayWithSupport). k.ray)) (answers_always _ _ _ (λ f a r f' called. search rules))))
    c.sort_by.ensures.sorted
