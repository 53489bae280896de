-- Pieces are numbered column by column.
use Rattle.std.proofs.Common.{◌+◌, sym, ap, ◌∙◌}
use Rattle.std.specs.Prelude.{slice_index}
use Rattle.surface_definitions.specs.Pieces.{NormalDisc}
use Rattle.surface_laws.proofs.Offsets.{piece_numbers}
use Rattle.surface_pieces.proofs.surface.ListedDisc.number_of.Goals as goal

pub returns : goal.returns
returns c =
    ap (λ (p : NormalDisc). slice_index c.args.self.now.pieces.starts.now p.column + p.number) c.piece.view_is
    ∙ ap (λ n. n + c.args.self.now.piece.number) (c.args.self.now.pieces.counted.before c.args.self.now.piece.column c.args.self.now.there.column)
    ∙ sym ((piece_numbers c.args.self.now.pieces.surface.entries.now).number c.args.self.now.piece.column c.args.self.now.piece.number c.args.self.now.there.column c.args.self.now.there.number)
