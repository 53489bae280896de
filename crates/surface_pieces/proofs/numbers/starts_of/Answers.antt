-- One more sum.
use Rattle.std.proofs.Common.{◌≡◌, ℕ, ◌+◌, ◌<◌, ◌≤◌, List, [], ◌∷◌, ◌++◌, length, get_or, take, inl, inr, sum, slice_index, refl, sym, ap, ◌∙◌, arith, length-append}
use Rattle.std.proofs.lemmas.Bool.{cases_lt}
use Rattle.std.proofs.lemmas.List.{get_or_append_left, get_or_push}
use Rattle.std.proofs.lemmas.List.Sums.{sum_by_more, sum_by-take-le}
use Rattle.surface_pieces.proofs.numbers.starts_of.Goals as goal

-- the number of pieces before a column does not change if one more is listed
starts_more : (xs starts next : List ℕ) (k before : ℕ) → length starts ≡ k → before ≡ sum (take k xs) → next ≡ starts ++ before ∷ []
    → ((c : ℕ) → c < k → slice_index starts c ≡ sum (take c xs)) → (c : ℕ) → c < k + 1 → slice_index next c ≡ sum (take c xs)
starts_more xs starts next k before size all is each c l = elim (cases_lt c k) [
  | inl less ↦ ap (λ (ys : List ℕ). slice_index ys c) is ∙ get_or_append_left starts (before ∷ []) 0 c (omega arith) ∙ each c less
  | inr more ↦ (let last : c ≡ k = omega arith in
      (λ i. slice_index (is i) ((last ∙ sym size) i)) ∙ get_or_push starts before 0 (length starts) refl ∙ all ∙ ap (λ n. sum (take n xs)) (sym last))
]

pub overflow_add-before : goal.overflow_add-before
overflow_add-before c =
    let more : sum (take (c.loop-entry.entry-index + 1) c.args.surface.now.entries.now) ≡ sum (take c.loop-entry.entry-index c.args.surface.now.entries.now) + get_or c.args.surface.now.entries.now c.loop-entry.entry-index 0 =
    sum_by_more (λ n. n) c.args.surface.now.entries.now c.loop-entry.entry-index 0 c.loop-entry-test.true in
    let low : sum (take (c.loop-entry.entry-index + 1) c.args.surface.now.entries.now) ≤ sum c.args.surface.now.entries.now = sum_by-take-le (λ n. n) c.args.surface.now.entries.now (c.loop-entry.entry-index + 1) in
    omega (arith, c.loop-entry.invariant.all, c.args.surface.now.limited)

pub loop-entry-preserved : goal.loop-entry-preserved
loop-entry-preserved c = record {
  size = ap (λ (ys : List ℕ). length ys) c.in_ok-push.ensures.items ∙ length-append c.loop-entry.starts.items (c.loop-entry.before ∷ []) ∙ ap (λ n. n + 1) c.loop-entry.invariant.size;
  all = ap (λ n. n + get_or c.args.surface.now.entries.now c.loop-entry.entry-index 0) c.loop-entry.invariant.all ∙ sym (sum_by_more (λ n. n) c.args.surface.now.entries.now c.loop-entry.entry-index 0 c.loop-entry-test.true);
  each = starts_more c.args.surface.now.entries.now c.loop-entry.starts.items c.push.new.self.items c.loop-entry.entry-index c.loop-entry.before
      c.loop-entry.invariant.size c.loop-entry.invariant.all c.in_ok-push.ensures.items c.loop-entry.invariant.each;
}

pub returns : goal.returns
returns c =
    let whole : c.loop-entry.entry-index ≡ length c.args.surface.now.entries.now = omega (arith, c.loop-entry-test.false) in
    record {
      size = c.loop-entry.invariant.size ∙ whole;
      before = λ k l. c.loop-entry.invariant.each k (omega (arith, whole));
    }
