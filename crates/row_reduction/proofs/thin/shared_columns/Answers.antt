-- One more column that both rows have.
use Rattle.std.proofs.Common.{rules, ◌≡◌, ℕ, ◌+◌, ◌<◌, ◌≤◌, ◌⊎◌, length, ℤ, pos, negsuc, inl, inr, refl, arith, w32, FitsSigned}
use Rattle.std.proofs.lemmas.Int.{to_z-of_z}
use Rattle.cone_definitions.specs.Rows.{Row}
use Rattle.row_reduction.specs.Eliminating.{CancelsTerm, IsUnit, is_shared, is_cancelled}
use Rattle.row_reduction.specs.Merging.{term_at, IsCoefficientSum}
use Rattle.row_reduction.proofs.CoefficientLemmas.{thins_shared}
use Rattle.row_reduction.proofs.CountLemmas.{count_kept, shared_more, cancelled_more}
use Rattle.row_reduction.proofs.thin.shared_columns.Goals as goal
use Rattle.row_reduction.proofs.thin.shared_columns.Goals.{then-place-other+then-other-place, else-place-other}

-- what is cancelled once one more is counted
one_more : (row other : Row) (i j : ℕ) (factor : ℤ) → i < length row → j < length other → (term_at other j).0 ≡ (term_at row i).0 → IsUnit factor → (some next : ℕ)
    → (next ≤ some) ⊎ ((next ≤ some + 1) × IsCoefficientSum (term_at row i).1 factor (term_at other j).1 (pos 0)) → (0 < some → CancelsTerm row factor other) → 0 < next → CancelsTerm row factor other
one_more row other i j factor within other_within same unit some next (inl l) before more = before (omega (arith, l, more))
one_more row other i j factor within other_within same unit some next (inr h) before more = thins_shared row other i j factor within other_within same unit h.1

pub loop-column-preserved : goal.loop-column-preserved
loop-column-preserved c = elim c.if-place-other.branch [
  | then-place-other+then-other-place w ↦
      let row = c.args.row.now in
      let other = c.args.other.now in
      let i = c.loop-column.column-index in
      let j = c.place_from-place.result in
      let f : FitsSigned w32 (term_at row i).1 = search rules in
      let g : FitsSigned w32 (term_at other j).1 = search rules in
      let same = simp to_z-of_z at w.with_column-shared.ensures.same in
      let opposite = simp to_z-of_z at w.with_column-shared.ensures.opposite in
      rw w.shared-is (record {
        within = c.place_from-place.ensures;
        same = one_more row other i j (negsuc 0) c.loop-column-test.true w.if-place-other.true w.if-other-place.true (inr refl) _ _ same c.loop-column.invariant.same;
        opposite = one_more row other i j (pos 1) c.loop-column-test.true w.if-place-other.true w.if-other-place.true (inl refl) _ _ opposite c.loop-column.invariant.opposite;
        any_shared = shared_more row other i j c.loop-column-test.true w.if-place-other.true w.if-other-place.true _ _ c.loop-column.invariant.any_shared w.with_column-shared.ensures.any;
        same_cancelled = cancelled_more row other i j c.loop-column-test.true w.if-place-other.true w.if-other-place.true (negsuc 0) _ _ c.loop-column.invariant.same_cancelled same;
        opposite_cancelled = cancelled_more row other i j c.loop-column-test.true w.if-place-other.true w.if-other-place.true (pos 1) _ _ c.loop-column.invariant.opposite_cancelled opposite;
      })
  | else-place-other w ↦
      let row = c.args.row.now in
      let other = c.args.other.now in
      let i = c.loop-column.column-index in
      rw w.shared-is (record {
        within = c.place_from-place.ensures;
        same = c.loop-column.invariant.same;
        opposite = c.loop-column.invariant.opposite;
        any_shared = count_kept (is_shared other) row i (0, pos 0) _ c.loop-column-test.true c.loop-column.invariant.any_shared;
        same_cancelled = count_kept (is_cancelled (negsuc 0) other) row i (0, pos 0) _ c.loop-column-test.true c.loop-column.invariant.same_cancelled;
        opposite_cancelled = count_kept (is_cancelled (pos 1) other) row i (0, pos 0) _ c.loop-column-test.true c.loop-column.invariant.opposite_cancelled;
      })
]
