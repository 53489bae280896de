-- Off the tree a class is a generator if and only if its least face is glued.
use Rattle.std.proofs.Common.{ap, ap₂, sym, ◌∙◌}
use Rattle.std.proofs.lemmas.Bool.{false≢true}
use Rattle.table_definitions.specs.Table.{glue}
use Rattle.table_definitions.specs.Places.{face_of}
use Rattle.presentation_laws.proofs.Firsts.{generator_is}
use Rattle.edge_group.proofs.faces.is_generator.Goals as goal

pub returns-then-not-in_tree-class : goal.returns-then-not-in_tree-class
returns-then-not-in_tree-class c =
    generator_is c.args.of.skeleton.now c.table.ensures.skeleton c.args.of.class c.args.of.in_range c.glue.result c.is_some.result
    (c.glue.ensures.value ∙ ap₂ glue c.table.ensures.rows (c.face_of-first.ensures.value ∙ ap face_of (c.args.of.least.least_member c.args.of.class c.args.of.in_range))) c.is_some.ensures
    (λ held. false≢true (sym c.if-not-in_tree-class.true ∙ (c.requires.reported c.args.of.class).1 held))
