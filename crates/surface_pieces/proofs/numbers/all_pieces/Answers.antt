-- One column more.
use Rattle.std.proofs.Common.{◌++◌, List, sym, ap, ◌∙◌}
use Rattle.surface_definitions.specs.Pieces.{NormalDisc}
use Rattle.surface_laws.proofs.PieceNumbers.{of_column}
use Rattle.surface_pieces.proofs.Counted.{column_next}
use Rattle.surface_pieces.proofs.numbers.all_pieces.Goals as goal

pub loop-column-preserved : goal.loop-column-preserved
loop-column-preserved c =
    c.in_ok-append_column.ensures ∙ ap (λ (ps : List NormalDisc). ps ++ of_column c.args.surface.now.entries.now c.loop-column.column) c.loop-column.invariant
    ∙ sym (column_next c.args.surface.now.entries.now c.loop-column.column)
