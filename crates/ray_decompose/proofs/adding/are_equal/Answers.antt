use Rattle.std.proofs.Common.{◌*◌, ◌<◌, length, subst, sym}
use Rattle.std.proofs.lemmas.Bool.{false≢true}
use Rattle.ray_decompose.proofs.Faults.{entry_is, too_much, wide}
use Rattle.ray_decompose.specs.declared.adding.Given.{Given}
use Rattle.ray_decompose.proofs.adding.are_equal.Goals as goal

pub returns-in-None : goal.returns-in-None
returns-in-None c = (
  λ i. absurd (false≢true i),
  λ e. absurd (too_much c.args.column.terms.now c.args.sum c.loop-term.left c.args.column.index c.loop-term.term-index c.term-item.result c.loop-term-test.true c.term-item.is c.loop-term.invariant
      (subst (λ n. c.loop-term.left < c.term-item.result.count * n) (entry_is c.term-item.result.entries.items c.args.column.index c.index.result.now
      (subst (λ (g : Given). c.args.column.index < length g.entries.items) (sym c.term-item.is) (wide c.args.column.x.now c.args.column.terms.now c.args.column.index c.args.column.in_range c.args.column.widths c.loop-term.term-index c.term-item.result c.loop-term-test.true)) c.index.ensures) c.in-None.ensures.none) e),
)
