-- One piece more.
use Rattle.std.proofs.Common.{◌≡◌, ℕ, ◌+◌, ◌<◌, List, length, set, slice_index, sym, ap, ◌∙◌, subst, arith}
use Rattle.std.specs.List.{slice_index_or}
use Rattle.std.specs.Vec.{with_items}
use Rattle.std.proofs.lemmas.List.{with_items_is}
use Rattle.surface_definitions.specs.Pieces.{NormalDisc, discs_of}
use Rattle.surface_laws.specs.PieceLaws.{IsPieceOf}
use Rattle.surface_laws.proofs.PieceNumbers.{no_piece}
use Rattle.surface_laws.proofs.Offsets.{piece_numbers}
use Rattle.surface_pieces.proofs.RowsOfPieces.{item_is, item_piece}
use Rattle.surface_pieces.proofs.Tallies.{IsTally, tally, tally_low, tallies_start, tallies_next, tallies_end, held}
use Rattle.surface_pieces.proofs.vectors.vectors_of.Goals as goal

pub loop-number-init : goal.loop-number-init
loop-number-init c = tallies_start c.args.of.pieces.surface.entries.now c.args.of.components.now c.args.of.count c.in_ok-vectors.vectors.items c.in_ok-vectors.ensures

pub count_piece-requires-clause-in_range : goal.count_piece-requires-clause-in_range
count_piece-requires-clause-in_range c = omega (arith, column, of_vector.column, own.width, ap (λ (ys : List ℕ). length ys) c.deref_mut.ensures.value)
  where
    k : ℕ
    k = slice_index c.args.of.components.now c.loop-number.number

    inside : c.loop-number.number < length c.args.of.pieces.listed.now
    inside = omega arith

    low : k < c.args.of.count
    low = c.args.of.in_range c.loop-number.number (omega (arith, c.args.of.size, inside))

    of_vector : IsPieceOf c.args.of.pieces.surface.entries.now c.index-pieces-number.result
    of_vector = item_piece c.args.of.pieces.surface.entries.now c.args.of.pieces.listed.now c.loop-number.number c.index-pieces-number.result c.args.of.pieces.all inside c.index-pieces-number.is

    column : c.piece.inside.column ≡ (c.index-pieces-number.result).column
    column = ap (λ (p : NormalDisc). p.column) (c.piece.view_is ∙ sym c.index-pieces-number.is)

    own : IsTally c.args.of.pieces.surface.entries.now c.args.of.components.now c.loop-number.number k (c.index_mut-vector.result.now).items
    own = held c.args.of.pieces.surface.entries.now c.args.of.components.now c.args.of.count c.loop-number.number c.loop-number.vectors.items c.index_mut-vector.result.now c.loop-number.invariant low c.index_mut-vector.ensures.value

pub count_piece-requires-clause-limited : goal.count_piece-requires-clause-limited
count_piece-requires-clause-limited c =
    let there : c.piece.inside.column < length c.args.of.pieces.surface.entries.now = omega (arith, column, of_vector.column) in
    let limited : slice_index c.deref_mut.result.now c.piece.inside.column ≡ tally c.args.of.pieces.surface.entries.now c.args.of.components.now c.loop-number.number k c.piece.inside.column =
    ap (λ (ys : List ℕ). slice_index ys c.piece.inside.column) c.deref_mut.ensures.value ∙ own.entry c.piece.inside.column there in
    omega (arith, tally_low c.args.of.pieces.surface.entries.now c.args.of.components.now c.loop-number.number k c.piece.inside.column, inside, ap (λ (ps : List NormalDisc). length ps) c.args.of.pieces.all, (piece_numbers c.args.of.pieces.surface.entries.now).count, c.args.of.pieces.surface.limited)
  where
    k : ℕ
    k = slice_index c.args.of.components.now c.loop-number.number

    inside : c.loop-number.number < length c.args.of.pieces.listed.now
    inside = omega arith

    low : k < c.args.of.count
    low = c.args.of.in_range c.loop-number.number (omega (arith, c.args.of.size, inside))

    of_vector : IsPieceOf c.args.of.pieces.surface.entries.now c.index-pieces-number.result
    of_vector = item_piece c.args.of.pieces.surface.entries.now c.args.of.pieces.listed.now c.loop-number.number c.index-pieces-number.result c.args.of.pieces.all inside c.index-pieces-number.is

    column : c.piece.inside.column ≡ (c.index-pieces-number.result).column
    column = ap (λ (p : NormalDisc). p.column) (c.piece.view_is ∙ sym c.index-pieces-number.is)

    own : IsTally c.args.of.pieces.surface.entries.now c.args.of.components.now c.loop-number.number k (c.index_mut-vector.result.now).items
    own = held c.args.of.pieces.surface.entries.now c.args.of.components.now c.args.of.count c.loop-number.number c.loop-number.vectors.items c.index_mut-vector.result.now c.loop-number.invariant low c.index_mut-vector.ensures.value

pub loop-number-preserved : goal.loop-number-preserved
loop-number-preserved c =
    tallies_next c.args.of.pieces.surface.entries.now c.args.of.components.now c.args.of.count c.loop-number.number c.loop-number.vectors.items c.index_mut-vector.result.now
    (with_items c.index_mut-vector.result.now c.count_piece.new.vector) c.loop-number.invariant low
    (subst (λ (p : NormalDisc). p.column < length c.args.of.pieces.surface.entries.now) item of_vector.column) c.index_mut-vector.ensures.value
    (with_items_is c.index_mut-vector.result.now c.count_piece.new.vector (c.count_piece.auto.vector ∙ ap (λ (ys : List ℕ). length ys) c.deref_mut.ensures.value ∙ sym (c.index_mut-vector.result.now).ok.0)
    ∙ c.count_piece.ensures ∙ (λ i. set (c.deref_mut.ensures.value i) (place i) (slice_index (c.deref_mut.ensures.value i) (place i) + 1)))
  where
    k : ℕ
    k = slice_index c.args.of.components.now c.loop-number.number

    inside : c.loop-number.number < length c.args.of.pieces.listed.now
    inside = omega arith

    low : k < c.args.of.count
    low = c.args.of.in_range c.loop-number.number (omega (arith, c.args.of.size, inside))

    of_vector : IsPieceOf c.args.of.pieces.surface.entries.now c.index-pieces-number.result
    of_vector = item_piece c.args.of.pieces.surface.entries.now c.args.of.pieces.listed.now c.loop-number.number c.index-pieces-number.result c.args.of.pieces.all inside c.index-pieces-number.is

    column : c.piece.inside.column ≡ (c.index-pieces-number.result).column
    column = ap (λ (p : NormalDisc). p.column) (c.piece.view_is ∙ sym c.index-pieces-number.is)

    own : IsTally c.args.of.pieces.surface.entries.now c.args.of.components.now c.loop-number.number k (c.index_mut-vector.result.now).items
    own = held c.args.of.pieces.surface.entries.now c.args.of.components.now c.args.of.count c.loop-number.number c.loop-number.vectors.items c.index_mut-vector.result.now c.loop-number.invariant low c.index_mut-vector.ensures.value

    item : c.index-pieces-number.result ≡ slice_index_or (discs_of c.args.of.pieces.surface.entries.now) c.loop-number.number no_piece
    item = item_is c.args.of.pieces.surface.entries.now c.args.of.pieces.listed.now c.loop-number.number c.index-pieces-number.result c.args.of.pieces.all inside c.index-pieces-number.is

    place : c.piece.inside.column ≡ (slice_index_or (discs_of c.args.of.pieces.surface.entries.now) c.loop-number.number no_piece).column
    place = column ∙ ap (λ (p : NormalDisc). p.column) item

pub returns : goal.returns
returns c =
    tallies_end c.args.of.pieces.surface.entries.now c.args.of.components.now c.args.of.count c.loop-number.number c.loop-number.vectors.items (omega (arith, c.loop-number-test.false, c.loop-number.auto.number-end, c.args.of.size)) c.loop-number.invariant
