-- One more entry is equal, or decides.
use Rattle.std.proofs.Common.{true, sym, subst, ap₂, ◌∙◌, arith, ◌≡◌, nat_cmp, get_or}
use Rattle.std.specs.Prelude.{◌==◌, not}
use Rattle.std.specs.Ordering.{ordering_index}
use Rattle.cone_arithmetic.proofs.OrderLemmas.{tied, order_more, order_here, order_ended}
use Rattle.cone_arithmetic.specs.RayEntries.{numbers_of}
use Rattle.cone_arithmetic.proofs.packed.compare_each.Goals as goal

pub loop-column-preserved : goal.loop-column-preserved
loop-column-preserved c =
    let is : c.cmp-order.result ≡ nat_cmp (get_or (numbers_of c.args.a.now) c.loop-column.column 0) (get_or (numbers_of c.args.b.now) c.loop-column.column 0) =
    c.cmp-order.ensures ∙ ap₂ nat_cmp c.entry.ensures c.entry-in-loop-column.ensures in
    c.loop-column.invariant ∙ order_more (numbers_of c.args.a.now) (numbers_of c.args.b.now) c.loop-column.column (omega arith) (omega arith)
    (sym is ∙ tied c.cmp-order.result (sym c.ne.ensures ∙ c.if-ne.false))

pub returns-then-ne : goal.returns-then-ne
returns-then-ne c =
    let is : c.cmp-order.result ≡ nat_cmp (get_or (numbers_of c.args.a.now) c.loop-column.column 0) (get_or (numbers_of c.args.b.now) c.loop-column.column 0) =
    c.cmp-order.ensures ∙ ap₂ nat_cmp c.entry.ensures c.entry-in-loop-column.ensures in
    is ∙ sym (c.loop-column.invariant ∙ order_here (numbers_of c.args.a.now) (numbers_of c.args.b.now) c.loop-column.column (omega arith) (omega arith)
    (subst (λ r. not (ordering_index r == 1) ≡ true) is (sym c.ne.ensures ∙ c.if-ne.true)))

pub returns : goal.returns
returns c = c.cmp.ensures ∙ ap₂ nat_cmp c.count-3.ensures c.count-4.ensures ∙ sym (c.loop-column.invariant ∙ order_ended (numbers_of c.args.a.now) (numbers_of c.args.b.now) c.loop-column.column (omega arith))
