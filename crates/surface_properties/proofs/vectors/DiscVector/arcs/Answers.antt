-- The faces of one tetrahedron more.
use Rattle.std.proofs.Common.{◌≡◌, ℕ, length, sym, ap, ◌∙◌, arith}
use Rattle.std.specs.Prelude.{sum_by}
use Rattle.table_definitions.specs.Lists.{below}
use Rattle.surface_properties.specs.Capped.{capped}
use Rattle.surface_properties.specs.Counted.{counted, counted_in}
use Rattle.surface_properties.proofs.CappedSums.{capped_zero, capped_more, capped_four}
use Rattle.surface_properties.proofs.ArcSums.{arcs_are}
use Rattle.surface_properties.proofs.vectors.DiscVector.arcs.Goals as goal

pub loop-tet-init : goal.loop-tet-init
loop-tet-init c = sym capped_zero

pub loop-tet-preserved : goal.loop-tet-preserved
loop-tet-preserved c =
    c.add-total.ensures
    ∙ capped_more (counted_in c.args.self.now.table.now c.args.self.now.coords.system c.args.self.now.entries.now) c.loop-tet.tet c.loop-tet.total c.add-four.result c.loop-tet.invariant
    (c.add-four.ensures ∙ capped_four (count 0) (count 1) (count 2) (count 3) c.arcs_if_first-one.result c.arcs_if_first.result c.arcs_if_first-in-loop-tet.result c.arcs_if_first-in-loop-tet-2.result c.add-two.result c.add-three.result
    c.arcs_if_first-one.ensures c.arcs_if_first.ensures c.arcs_if_first-in-loop-tet.ensures c.arcs_if_first-in-loop-tet-2.ensures c.add-two.ensures c.add-three.ensures)
  where
    count : ℕ → ℕ
    count f = counted c.args.self.now.table.now c.args.self.now.coords.system c.args.self.now.entries.now (record { tet = c.loop-tet.tet; face = f })

pub returns : goal.returns
returns c =
    let all : c.loop-tet.tet ≡ length c.args.self.now.table.now = omega (arith, c.loop-tet-test.false, c.loop-tet.auto.tet-end, c.len-tet-end.ensures.value) in
    c.loop-tet.invariant ∙ ap (λ n. capped (sum_by (counted_in c.args.self.now.table.now c.args.self.now.coords.system c.args.self.now.entries.now) (below n))) all ∙ ap capped (sym (arcs_are c.args.self.now.table.now c.args.self.now.coords.system c.args.self.now.entries.now))
