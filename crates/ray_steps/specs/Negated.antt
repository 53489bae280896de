-- The signs of a negated row.
use Rattle.std.specs.Prelude.{◌≡◌, ℕ, List, slice_index_or}
use Rattle.ray_steps.specs.declared.signs.Sign.{Sign}
use Rattle.ray_steps.specs.declared.signs.Sign.TheVariants.{Zero, Positive, Negative}

-- positive and negative are exchanged, and the absolute value stays
abbrev pub negated_sign : Sign → Sign
negated_sign Zero = Zero
negated_sign (Positive value) = Negative value
negated_sign (Negative value) = Positive value

-- some sign is positive
abbrev pub HasPositive : List Sign → Type 0
HasPositive signs = (place : ℕ) × (value : ℕ) × (slice_index_or signs place Zero ≡ Positive value)
