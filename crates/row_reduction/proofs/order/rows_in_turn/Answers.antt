-- One more row is taken.
use Rattle.std.proofs.Common.{◌++◌, List, Option, length, sym, ap, ◌∙◌, subst, subst₂}
use Rattle.std.specs.List.Sorted.{IsPermutation}
use Rattle.std.proofs.lemmas.List.Sorted.{IsPermutation-refl, IsPermutation-trans}
use Rattle.cone_definitions.specs.Rows.{Row}
use Rattle.row_reduction.specs.RowsLeft.{rows_left}
use Rattle.row_reduction.proofs.RowsLeftLemmas.{all_left, written_back}
use Rattle.row_reduction.proofs.order.rows_in_turn.Goals as goal

pub loop-place-init : goal.loop-place-init
loop-place-init c =
    subst₂ (λ (done : List Row) (left : List Row). IsPermutation c.args.rows.items (done ++ left))
    (sym c.in_ok-ordered.ensures.items) (sym (ap rows_left c.in_ok-left.ensures ∙ all_left c.args.rows.items)) (IsPermutation-refl c.args.rows.items)

pub loop-place-preserved : goal.loop-place-preserved
loop-place-preserved c =
    let before = c.loop-place.left.items in
    let here = subst (λ (slots : List (Option Row)). IsPermutation (c.loop-place.ordered.items ++ rows_left slots) (c.take_row.new.ordered.items ++ rows_left c.take_row.new.left)) c.deref_mut.ensures.value c.in_ok-take_row.ensures.permutation in
    let back = written_back c.take_row.new.left before c.loop-place.left.len (c.take_row.ensures.size ∙ ap length c.deref_mut.ensures.value) (sym c.loop-place.left.ok.0) in
    subst (λ (slots : List (Option Row)). IsPermutation c.args.rows.items (c.take_row.new.ordered.items ++ rows_left slots)) (sym back)
    (IsPermutation-trans _ _ _ c.loop-place.invariant here)
