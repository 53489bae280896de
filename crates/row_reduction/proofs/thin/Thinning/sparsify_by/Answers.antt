-- The other row is unchanged.
use Rattle.std.proofs.Common.{rules, [], sym, ◌∙◌, subst, subst₂, slice_set, w32, FitsSigned}
use Rattle.std.proofs.lemmas.Int.{to_z-of_z}
use Rattle.std.proofs.lemmas.List.{get_or_default}
use Rattle.std.proofs.lemmas.Result.{err_from_is_err_and}
use Rattle.cone_arithmetic.specs.Sparse.{IsSparse}
use Rattle.row_reduction.specs.Eliminating.{Thins, as_they_are}
use Rattle.row_reduction.proofs.EliminatingLemmas.{thinned_once, passes_once}
use Rattle.row_reduction.proofs.ThinLemmas.{thinned_at}
use Rattle.row_reduction.proofs.thin.Thinning.sparsify_by.Goals as goal

pub returns-in_ok-sum-in-Some-clause-same : goal.returns-in_ok-sum-in-Some-clause-same
returns-in_ok-sum-in-Some-clause-same c =
    let rows = c.args.self.now.list.rows.items in
    let is = c.index-in-Some.ensures ∙ sym (get_or_default rows c.args.j [] c.index-in-Some.result.now c.requires.other_place) in
    thinned_at c.args.self.now.list.columns rows c.args.i c.args.j _ c.index-in-Some.result.now (slice_set rows c.args.i c.in_ok-sum-in-Some.sum) c.requires.place c.requires.other_place c.requires.separate
    is c.in_ok-sum-in-Some.ensures.adds

pub returns-in_ok-sum-in-Some-clause-thinned : goal.returns-in_ok-sum-in-Some-clause-thinned
returns-in_ok-sum-in-Some-clause-thinned c =
    let rows = c.args.self.now.list.rows.items in
    let f : FitsSigned w32 c.in-Some.factor = search rules in
    let is = c.index-in-Some.ensures ∙ sym (get_or_default rows c.args.j [] c.index-in-Some.result.now c.requires.other_place) in
    let row_is = c.entries.ensures.entries ∙ c.index.ensures ∙ sym (get_or_default rows c.args.i [] c.index.result.now c.requires.place) in
    let other_is = c.entries-2.ensures.entries ∙ c.index-2.ensures ∙ sym (get_or_default rows c.args.j [] c.index-2.result.now c.requires.other_place) ∙ sym is in
    let thins = subst₂ (λ row other. Thins row c.in-Some.factor other) row_is other_is c.in-Some.ensures in
    let sparse = subst IsSparse (c.index.ensures ∙ sym (get_or_default rows c.args.i [] c.index.result.now c.requires.place)) c.entries.ensures.sparse in
    let other_sparse = subst IsSparse (c.index-2.ensures ∙ sym (get_or_default rows c.args.j [] c.index-2.result.now c.requires.other_place)) c.entries-2.ensures.sparse in
    thinned_once c.args.self.now.list.columns rows c.args.i c.args.j c.in-Some.factor c.index-in-Some.result.now c.requires.place c.requires.other_place c.requires.separate is thins (slice_set rows c.args.i c.in_ok-sum-in-Some.sum)
    sparse other_sparse (simp to_z-of_z at c.in_ok-sum-in-Some.ensures.adds)

pub returns-in_err-sum-in-Some-clause-passed : goal.returns-in_err-sum-in-Some-clause-passed
returns-in_err-sum-in-Some-clause-passed c =
    let rows = c.args.self.now.list.rows.items in
    let f : FitsSigned w32 c.in-Some.factor = search rules in
    let is = c.index-in-Some.ensures ∙ sym (get_or_default rows c.args.j [] c.index-in-Some.result.now c.requires.other_place) in
    let row_is = c.entries.ensures.entries ∙ c.index.ensures ∙ sym (get_or_default rows c.args.i [] c.index.result.now c.requires.place) in
    let other_is = c.entries-2.ensures.entries ∙ c.index-2.ensures ∙ sym (get_or_default rows c.args.j [] c.index-2.result.now c.requires.other_place) ∙ sym is in
    let thins = subst₂ (λ row other. Thins row c.in-Some.factor other) row_is other_is c.in-Some.ensures in
    let p = err_from_is_err_and c.from_residual.result c.from_residual.ensures.1 in
    rw (p.1, p.2) (passes_once c.args.self.now.list.columns rows c.args.i c.args.j c.in-Some.factor c.index-in-Some.result.now c.requires.place c.requires.other_place c.requires.separate is thins _
    (simp to_z-of_z at c.in_err-sum-in-Some.ensures.passed))

pub returns-in-None-clause-thinned : goal.returns-in-None-clause-thinned
returns-in-None-clause-thinned c = as_they_are
