-- The row is moved, or its slot is empty.
use Rattle.std.proofs.Common.{◌<◌, ◌++◌, List, Option, None, length, sym, ◌∙◌, subst₂, arith}
use Rattle.std.specs.Prelude.{slice_set}
use Rattle.std.specs.List.Sorted.{IsPermutation}
use Rattle.std.proofs.lemmas.List.{get_or_default}
use Rattle.cone_definitions.specs.Rows.{Row}
use Rattle.row_reduction.specs.RowsLeft.{rows_left}
use Rattle.row_reduction.proofs.RowsLeftLemmas.{left_taken}
use Rattle.row_reduction.proofs.order.take_row.Goals as goal

pub returns-in_ok-push-clause-permutation : goal.returns-in_ok-push-clause-permutation
returns-in_ok-push-clause-permutation c =
    let inside : c.args.place < length c.args.left.now = omega (arith, c.if-place-left.false) in
    subst₂ (λ (next : List Row) (slot : Option Row). IsPermutation (c.args.ordered.now.items ++ rows_left c.args.left.now) (next ++ rows_left (slice_set c.args.left.now c.args.place slot)))
    (sym c.in_ok-push.ensures.items) (sym c.in-Some.ensures.after)
    (left_taken c.args.ordered.now.items c.args.left.now c.args.place c.in-Some.row inside (c.in-Some.ensures.value ∙ get_or_default c.args.left.now c.args.place c.index-left-place.result None inside))
