-- A gluing of a component is to a tetrahedron of the component.
use Rattle.std.proofs.Common.{Contains, subst, sym, ◌∙◌, ◌≤◌, length, arith}
use Rattle.table_definitions.specs.Table.{Gluing}
use Rattle.component_laws.proofs.Members.{member_below, glued_member}
use Rattle.component_signature.proofs.Searching.{part_with, few_numbers}
use Rattle.component_signature.proofs.renumbered.renumbered_glue.Goals as goal

pub glue-requires : goal.glue-requires
glue-requires c = record { in_range = member_below c.args.table.now c.requires.table (part_with c.args.table.now c.args.numbers.now) c.requires.part c.args.face.tet c.requires.there }

pub place_in-requires-clause-ascending : goal.place_in-requires-clause-ascending
place_in-requires-clause-ascending c = c.requires.part.ascending

pub place_in-requires-clause-limited : goal.place_in-requires-clause-limited
place_in-requires-clause-limited c = let f : length c.args.numbers.now ≤ 1000 = few_numbers c.args.table.now c.args.numbers.now c.requires.table c.requires.part in omega arith

pub place_in-requires-clause-there : goal.place_in-requires-clause-there
place_in-requires-clause-there c =
    subst (λ (g : Gluing). Contains c.args.numbers.now g.tet) (sym c.glue-in-Some.view_is)
    (glued_member c.args.table.now c.requires.table (part_with c.args.table.now c.args.numbers.now) c.requires.part c.args.face.tet c.args.face.face c.in-Some.glue c.requires.there (sym c.glue.ensures.value ∙ c.in-Some.is))
