-- The weight of one class more.
use Rattle.std.proofs.Common.{◌≡◌, sym, ap, ◌∙◌, arith}
use Rattle.std.specs.Prelude.{sum_by}
use Rattle.table_definitions.specs.Lists.{below}
use Rattle.table_definitions.specs.Classes.{least}
use Rattle.surface_definitions.specs.Characteristic.{weight}
use Rattle.surface_properties.specs.Capped.{capped}
use Rattle.surface_properties.proofs.CappedSums.{capped_zero, capped_more}
use Rattle.surface_properties.proofs.vectors.DiscVector.points.Goals as goal

pub loop-class-init : goal.loop-class-init
loop-class-init c = sym capped_zero

pub loop-class-preserved : goal.loop-class-preserved
loop-class-preserved c =
    c.add-total.ensures
    ∙ capped_more (λ k. weight c.args.self.now.coords.system c.args.self.now.entries.now (least c.args.skeleton.now.edges.classes k)) c.loop-class.class c.loop-class.total c.weight.result c.loop-class.invariant
    (c.weight.ensures ∙ ap (λ i. capped (weight c.args.self.now.coords.system c.args.self.now.entries.now i)) c.first_edge.ensures.value)

pub returns : goal.returns
returns c =
    let all : c.loop-class.class ≡ c.args.skeleton.now.edges.count = omega (arith, c.loop-class-test.false, c.loop-class.auto.class-end, c.edges-class-end.ensures.count) in
    c.loop-class.invariant ∙ ap (λ n. capped (sum_by (λ k. weight c.args.self.now.coords.system c.args.self.now.entries.now (least c.args.skeleton.now.edges.classes k)) (below n))) all
