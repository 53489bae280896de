-- One entry more.
use Rattle.std.proofs.Common.{ℕ, ◌≤◌, List, [], ◌∷◌, ◌++◌, get_or, sum, sym, ap, ◌∙◌, arith}
use Rattle.std.proofs.lemmas.List.{take_more, take_all}
use Rattle.std.proofs.lemmas.List.Sums.{get_or-le-sum_by}
use Rattle.surface_pieces.proofs.counts.entries_of.Goals as goal

pub overflow_cast-entry : goal.overflow_cast-entry
overflow_cast-entry c =
    let low : get_or c.args.x.now c.loop-entry.entry-index 0 ≤ sum c.args.x.now = get_or-le-sum_by (λ n. n) c.args.x.now c.loop-entry.entry-index 0 c.loop-entry-test.true in
    omega (arith, c.requires)

pub loop-entry-preserved : goal.loop-entry-preserved
loop-entry-preserved c =
    c.in_ok-push.ensures.items ∙ ap (λ (ys : List ℕ). ys ++ get_or c.args.x.now c.loop-entry.entry-index 0 ∷ []) c.loop-entry.invariant
    ∙ sym (take_more c.args.x.now c.loop-entry.entry-index 0 c.loop-entry-test.true)

pub returns : goal.returns
returns c = c.loop-entry.invariant ∙ take_all c.loop-entry.entry-index c.args.x.now c.loop-entry-test.false
