-- One more line.
use Rattle.std.proofs.Common.{◌<◌, length, arith}
use Rattle.surface_vector_definitions.specs.Texts.{component_line}
use Rattle.surface_pieces.specs.ComponentLists.{no_component}
use Rattle.vector_commands.proofs.Grown.{lines_more}
use Rattle.vector_commands.proofs.descriptions.Described.append_components.Goals as goal

pub loop-component-preserved : goal.loop-component-preserved
loop-component-preserved c =
    lines_more (component_line c.args.self.now.skeleton.now c.args.self.now.coords.system) c.args.self.now.pieces.now c.loop-component.component no_component c.args.out.now.items c.loop-component.out.items
    c.append_component.new.out.items inside c.loop-component.invariant c.in_ok-append_component.ensures
  where
    inside : c.loop-component.component < length c.args.self.now.pieces.now
    inside = omega (arith, c.loop-component-test.true, c.components-component-end.ensures)
