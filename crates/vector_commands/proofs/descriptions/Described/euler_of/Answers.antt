-- A sole component is the surface, and otherwise no sum of the component exceeds the limit.
use Rattle.std.proofs.Common.{rules, length, sym, ap, ◌∙◌}
use Rattle.std.proofs.lemmas.Int.{to_z-of_z}
use mir.Syntax.{w128}
use mir.Val.{SFits}
use Rattle.text_definitions.specs.Written.{limit}
use Rattle.surface_vector_definitions.specs.Properties.{characteristic, first_large}
use Rattle.vector_commands.proofs.DescribedSurfaces.{only_euler}
use Rattle.vector_commands.proofs.descriptions.Described.euler_of.Goals as goal

pub returns-then-count-eq1 : goal.returns-then-count-eq1
returns-then-count-eq1 c =
    to_z-of_z w128 c.args.self.now.properties.now.euler whole
    ∙ only_euler c.args.self.now.skeleton.now c.args.self.now.coords.system c.args.self.now.vector.now c.args.self.now.properties.now c.args.self.now.pieces.now c.args.component
    c.args.self.now.whole c.args.self.now.small (sym c.components-count.ensures ∙ c.if-count-eq1.true) c.requires
  where
    whole : SFits w128 c.args.self.now.properties.now.euler
    whole = search rules

pub characteristic-requires-clause-width : goal.characteristic-requires-clause-width
characteristic-requires-clause-width c = ap length c.vector.ensures ∙ c.args.self.now.small.width c.args.component c.requires

pub characteristic-requires-clause-small : goal.characteristic-requires-clause-small
characteristic-requires-clause-small c = ap (first_large limit c.args.self.now.skeleton.now c.args.self.now.coords.system) c.vector.ensures ∙ c.args.self.now.small.small c.args.component c.requires

pub returns : goal.returns
returns c = to_z-of_z w128 c.characteristic.result whole ∙ c.characteristic.ensures ∙ ap (characteristic c.args.self.now.skeleton.now c.args.self.now.coords.system) c.vector.ensures
  where
    whole : SFits w128 c.characteristic.result
    whole = search rules
