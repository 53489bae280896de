use Rattle.std.proofs.Common.{◌≡◌, [], ◌∷◌, ◌++◌, sym, ap, ◌∙◌, arith}
use Rattle.support_table.specs.Narrow.{columns_of}
use Rattle.support_table.proofs.NarrowLoops.{columns_push, columns_skip}
use Rattle.support_table.proofs.narrow.columns_of.Goals.{then-is_set+in_ok-push, else-is_set}
use Rattle.support_table.proofs.narrow.columns_of.Goals as goal

pub loop-column-preserved : goal.loop-column-preserved
loop-column-preserved c =
    let words = c.args.words.now in
    let n = c.loop-column.column in
    elim c.if-is_set.branch [
      | then-is_set+in_ok-push w ↦ ap (λ v. v.items) w.used-is ∙ w.in_ok-push.ensures.items ∙ ap (λ ks. ks ++ n ∷ []) c.loop-column.invariant ∙ columns_push words n (sym c.is_set.ensures ∙ w.if-is_set.true)
      | else-is_set w ↦ ap (λ v. v.items) w.used-is ∙ c.loop-column.invariant ∙ columns_skip words n (sym c.is_set.ensures ∙ w.if-is_set.false)
    ]

pub returns : goal.returns
returns c =
    let low = c.loop-column.auto.column-end in
    let e : c.loop-column.column ≡ c.args.columns = omega (arith, low, c.loop-column-test.false) in
    c.loop-column.invariant ∙ ap (λ n. columns_of n c.args.words.now) e
