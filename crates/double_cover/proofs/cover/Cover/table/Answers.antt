-- The cover is a table, and its sheets are its signs.
use Rattle.std.proofs.Common.{◌*◌, List, ◌∙◌, ap, length, sym, subst, subst₂}
use Rattle.table_definitions.specs.Table.{Row, IsTable}
use Rattle.skeleton_definitions.specs.Orientation.{AreSigns}
use Rattle.cover_definitions.specs.Cover.{sheet_signs}
use Rattle.cover_laws.proofs.Sheets.{length-cover}
use Rattle.cover_laws.proofs.Covered.{cover_is_table, cover_signs}
use Rattle.double_cover.proofs.cover.Cover.table.Goals as goal

pub returns-clause-is_table : goal.returns-clause-is_table
returns-clause-is_table c = subst IsTable (sym c.self.invariant.2) (cover_is_table c.self.inside.base c.self.invariant.1 c.self.invariant.0)

pub returns-clause-signs : goal.returns-clause-signs
returns-clause-signs c =
    subst₂ AreSigns (sym c.self.invariant.2) (ap (λ rows. sheet_signs (length rows)) c.self.view_is) (cover_signs c.self.inside.base c.self.invariant.1)

pub returns-clause-size : goal.returns-clause-size
returns-clause-size c = ap length c.self.invariant.2 ∙ length-cover c.self.inside.base ∙ ap (λ (rows : List Row). 2 * length rows) c.self.view_is
