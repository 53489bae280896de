-- The renumbered rows of a component are a table.
use Rattle.std.proofs.Common.{subst, sym, ap, ◌∙◌}
use Rattle.table_definitions.specs.Table.{IsTable}
use Rattle.component_definitions.specs.Parts.{rows_of}
use Rattle.component_laws.proofs.Members.{part_is_table}
use Rattle.component_signature.specs.Components as components
use Rattle.component_signature.proofs.split.part_of.Goals as goal

pub from_sound_rows-requires : goal.from_sound_rows-requires
from_sound_rows-requires c =
    subst IsTable (sym (c.in_ok-rows.ensures ∙ ap (rows_of c.args.table.now) (c.deref.ensures.value ∙ c.in_ok-numbers.ensures)))
    (part_is_table c.args.table.now c.requires.table (components.part_of c.args.table.now c.args.classes.now c.args.class) c.requires.part)
