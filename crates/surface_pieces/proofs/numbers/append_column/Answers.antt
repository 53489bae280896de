-- One piece more.
use Rattle.std.proofs.Common.{List, [], ◌∷◌, ◌++◌, map, sym, ap, ◌∙◌, append_assoc}
use Rattle.table_definitions.specs.Lists.{below}
use Rattle.surface_definitions.specs.Pieces.{NormalDisc}
use Rattle.surface_laws.proofs.PieceNumbers.{piece_at}
use Rattle.surface_pieces.proofs.Counted.{piece_next}
use Rattle.surface_pieces.proofs.numbers.append_column.Goals as goal

pub loop-number-preserved : goal.loop-number-preserved
loop-number-preserved c =
    c.in_ok-push.ensures.items ∙ ap (λ (ps : List NormalDisc). ps ++ piece_at c.args.column c.loop-number.number ∷ []) c.loop-number.invariant
    ∙ append_assoc c.args.listed.now.items (map (piece_at c.args.column) (below c.loop-number.number)) (piece_at c.args.column c.loop-number.number ∷ [])
    ∙ ap (λ (ps : List NormalDisc). c.args.listed.now.items ++ ps) (sym (piece_next c.args.column c.loop-number.number))
