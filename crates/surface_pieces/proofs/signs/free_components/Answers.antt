-- One piece more.
use Rattle.std.proofs.Common.{◌≡◌, ◌+◌, ◌*◌, ◌<◌, Bool, false, List, length, set, slice_index, ap, sym, ◌∙◌, subst, arith}
use Rattle.std.specs.Prelude.{◌==◌, if◌then◌else◌}
use Rattle.std.proofs.lemmas.Bool.{eqb-true, eqb-false}
use Rattle.std.proofs.lemmas.List.{with_items_is, get_or_default}
use Rattle.surface_pieces.proofs.Freeing.{AreFreeUpTo, free_start, free_next}
use Rattle.surface_pieces.proofs.signs.free_components.Goals as goal

pub loop-piece-init : goal.loop-piece-init
loop-piece-init c = free_start c.args.by.signed.now c.args.by.components.now.classes.items c.args.by.components.now.count c.in_ok-free.free.items (c.in_ok-free.ensures.items_if_clones_equal (λ y e. e))

pub loop-piece-preserved : goal.loop-piece-preserved
loop-piece-preserved c =
    subst (AreFreeUpTo c.args.by.signed.now c.args.by.components.now.classes.items c.args.by.components.now.count (c.loop-piece.piece + 1))
    (sym (with_items_is c.loop-piece.free c.mark.new.free (c.mark.auto.free ∙ ap (λ (bs : List Bool). length bs) c.deref_mut.ensures.value ∙ sym c.loop-piece.free.ok.0)))
    (free_next c.args.by.signed.now c.args.by.components.now.classes.items c.args.by.components.now.count c.loop-piece.piece c.loop-piece.free.items c.loop-piece.invariant
    (c.args.by.in_range c.loop-piece.piece inside) same c.mark.new.free
    (eqb-true (slice_index c.args.by.signed.now (2 * c.loop-piece.piece)) (slice_index c.args.by.signed.now (2 * c.loop-piece.piece + 1)))
    (eqb-false (slice_index c.args.by.signed.now (2 * c.loop-piece.piece)) (slice_index c.args.by.signed.now (2 * c.loop-piece.piece + 1)))
    (c.mark.ensures ∙ (λ i. if same then set (c.deref_mut.ensures.value i) (index i) false else c.deref_mut.ensures.value i)))
  where
    same : Bool
    same = slice_index c.args.by.signed.now (2 * c.loop-piece.piece) == slice_index c.args.by.signed.now (2 * c.loop-piece.piece + 1)

    inside : c.loop-piece.piece < length c.args.by.components.now.classes.items
    inside = omega (arith, c.loop-piece-test.true, c.len-piece-end.ensures, c.args.by.components.now.classes.ok.0)

    index : c.index.result.now ≡ slice_index c.args.by.components.now.classes.items c.loop-piece.piece
    index = c.index.ensures ∙ get_or_default c.args.by.components.now.classes.items c.loop-piece.piece c.index.result.now 0 inside
