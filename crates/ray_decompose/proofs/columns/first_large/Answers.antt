-- One column more.
use Rattle.std.proofs.Common.{◌*◌, refl}
use Rattle.std.proofs.lemmas.Bool.{false≢true}
use Rattle.ray_decompose.proofs.Vectors.{within_more, within_all}
use Rattle.ray_decompose.proofs.columns.first_large.Goals as goal

pub loop-column-preserved : goal.loop-column-preserved
loop-column-preserved c = within_more c.args.x.now (c.args.first * c.args.second) c.args.limit c.loop-column.column c.loop-column.invariant (λ large. false≢true (c.if-passes.ensures.1 large))

pub returns-clause-none : goal.returns-clause-none
returns-clause-none c = within_all c.args.x.now (c.args.first * c.args.second) c.args.limit c.loop-column.column c.loop-column.invariant c.loop-column-test.false

pub returns-then-passes-clause-some : goal.returns-then-passes-clause-some
returns-then-passes-clause-some c = record { large = c.if-passes.ensures.0 refl; first = c.loop-column.invariant }
