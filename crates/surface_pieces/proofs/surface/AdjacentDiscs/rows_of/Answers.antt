-- One row more.
use Rattle.std.proofs.Common.{◌≡◌, ◌<◌, ℕ, List, [], length, Option, sym, ap, ◌∙◌, subst, arith}
use Rattle.std.specs.List.{slice_index_or}
use Rattle.std.proofs.lemmas.List.{length_push, get_or_default}
use Rattle.surface_pieces.specs.Across.{Across}
use Rattle.surface_pieces.specs.Searches.{piece_in}
use Rattle.surface_pieces.specs.Readings.{IsReadRow}
use Rattle.surface_pieces.proofs.RowsOfPieces.{rows_push, piece_low}
use Rattle.surface_pieces.proofs.surface.AdjacentDiscs.rows_of.Goals as goal

pub row_of-requires : goal.row_of-requires
row_of-requires g c = omega (arith, c.args.self.now.bounded_slots)

pub loop-number-preserved : goal.loop-number-preserved
loop-number-preserved g c = record {
  size = ap (λ (rs : List (List (Option ℕ))). length rs) c.in_ok-push.ensures.items ∙ length_push c.loop-number.rows.items c.row_of.result ∙ (let s = c.loop-number.invariant.size in omega arith);
  each = rows_push (λ i row. IsReadRow c.args.kind i (slice_index_or c.args.self.now.rows.now (piece_in c.args.kind i) []) row) c.loop-number.rows.items c.push.new.self.items c.row_of.result
      c.loop-number.number c.loop-number.invariant.size c.loop-number.invariant.each
      (subst (λ (joined : List (Option Across)). IsReadRow c.args.kind c.loop-number.number joined c.row_of.result) place c.row_of.ensures)
      c.in_ok-push.ensures.items;
}
  where
    inside : c.piece_in.result < length c.args.self.now.rows.now
    inside = subst (λ k. k < length c.args.self.now.rows.now) (sym c.piece_in.ensures)
        (piece_low c.args.kind c.loop-number.number (length c.args.self.now.rows.now) (subst (λ n. c.loop-number.number < n) c.numbers-numbers.ensures.value c.loop-number-test.true))

    place : c.index-joined-piece_in.result ≡ slice_index_or c.args.self.now.rows.now (piece_in c.args.kind c.loop-number.number) []
    place = c.index-joined-piece_in.is ∙ get_or_default c.args.self.now.rows.now c.piece_in.result c.index-joined-piece_in.result [] inside
        ∙ ap (λ k. slice_index_or c.args.self.now.rows.now k []) c.piece_in.ensures
