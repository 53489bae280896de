-- One row more.
use Rattle.std.proofs.Common.{◌≡◌, List, length, Option, ap, ◌∙◌, subst, arith}
use Rattle.std.specs.List.{slice_index_or}
use Rattle.std.proofs.lemmas.List.{length_push}
use Rattle.surface_definitions.specs.Pieces.{NormalDisc, discs_of}
use Rattle.surface_laws.proofs.PieceNumbers.{no_piece}
use Rattle.surface_pieces.specs.Across.{Across}
use Rattle.surface_pieces.specs.Joinings.{IsJoinedRow}
use Rattle.surface_pieces.proofs.SlotsOfArcs.{slots_few}
use Rattle.surface_pieces.proofs.RowsOfPieces.{item_is, item_piece, rows_push}
use Rattle.surface_pieces.proofs.rows.joined_rows.Goals as goal

pub joined_row-requires : goal.joined_row-requires
joined_row-requires g c = (omega (arith, c.requires, slots_few c.args.pieces.now.surface.coords.system), c.requires)

pub invariant_of-disc : goal.invariant_of-disc
invariant_of-disc g c = record { there = item_piece c.args.pieces.now.surface.entries.now c.args.pieces.now.listed.now c.loop-piece.piece-index c.piece-item.result c.args.pieces.now.all c.loop-piece-test.true c.piece-item.is }

pub loop-piece-preserved : goal.loop-piece-preserved
loop-piece-preserved g c = record {
  size = ap (λ (rs : List (List (Option Across))). length rs) c.in_ok-push.ensures.items ∙ length_push c.loop-piece.joined.items c.joined_row.result ∙ (let s = c.loop-piece.invariant.size in omega arith);
  each = rows_push (λ i row. IsJoinedRow c.args.pieces.now.surface.table.now c.args.pieces.now.surface.coords.system c.args.pieces.now.surface.entries.now (slice_index_or (discs_of c.args.pieces.now.surface.entries.now) i no_piece) row) c.loop-piece.joined.items c.push.new.self.items c.joined_row.result
      c.loop-piece.piece-index c.loop-piece.invariant.size c.loop-piece.invariant.each
      (subst (λ (p : NormalDisc). IsJoinedRow c.args.pieces.now.surface.table.now c.args.pieces.now.surface.coords.system c.args.pieces.now.surface.entries.now p c.joined_row.result)
      (item_is c.args.pieces.now.surface.entries.now c.args.pieces.now.listed.now c.loop-piece.piece-index c.piece-item.result c.args.pieces.now.all c.loop-piece-test.true c.piece-item.is) c.joined_row.ensures)
      c.in_ok-push.ensures.items;
}

pub returns : goal.returns
returns g c = record { size = c.loop-piece.invariant.size ∙ all; each = λ i l. c.loop-piece.invariant.each i (omega (arith, all)) }
  where
    all : c.loop-piece.piece-index ≡ length (discs_of c.args.pieces.now.surface.entries.now)
    all = omega (arith, c.loop-piece-test.false, c.loop-piece.auto.piece-index-end, ap (λ (ps : List NormalDisc). length ps) c.args.pieces.now.all)
