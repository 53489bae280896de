-- none of the signs so far is positive
use Rattle.std.proofs.Common.{◌≡◌, ℕ, ◌<◌, slice_index_or}
use Rattle.ray_steps.specs.declared.signs.Sign.TheVariants.{Zero, Positive}
use Rattle.ray_steps.proofs.negated.has_positive.Given as goal

abbrev pub invariant-loop-place : goal.invariant-loop-place
invariant-loop-place l = (k value : ℕ) → k < l.place → ¬ (slice_index_or l.signs k Zero ≡ Positive value)
