-- One more entry.
use Rattle.std.proofs.Common.{◌≡◌, ◌+◌, ◌<◌, ◌++◌, ◌∷◌, [], length, ap, ◌∙◌, arith, below_more}
use Rattle.std.specs.Prelude.{slice_index}
use Rattle.std.proofs.lemmas.List.{length-append, get_or_push, get_or_append_left}
use Rattle.quad_lift.specs.Agreements.{lifted_entry}
use Rattle.quad_lift.proofs.quad_vector.Heights.entries.Goals as goal

pub loop-column-preserved : goal.loop-column-preserved
loop-column-preserved c = record {
  size = ap length grows ∙ length-append c.loop-column.entries.items (c.entry.result ∷ []) ∙ ap (λ n. n + 1) c.loop-column.invariant.size;
  each = below_more (λ i. slice_index c.push.new.self.items i ≡ lifted_entry c.args.self.now.vector.skeleton.now c.args.self.now.vector.entries.now c.args.self.now.values.now c.args.lows.now i) c.loop-column.column
      (λ i l. let inside : i < length c.loop-column.entries.items = omega (arith, c.loop-column.invariant.size) in
      ap (λ ys. slice_index ys i) grows ∙ get_or_append_left c.loop-column.entries.items (c.entry.result ∷ []) 0 i inside ∙ c.loop-column.invariant.each i l)
      (ap (λ ys. slice_index ys c.loop-column.column) grows ∙ get_or_push c.loop-column.entries.items c.entry.result 0 c.loop-column.column c.loop-column.invariant.size ∙ c.entry.ensures);
}
  where
    grows : c.push.new.self.items ≡ c.loop-column.entries.items ++ c.entry.result ∷ []
    grows = c.in_ok-push.ensures.items
