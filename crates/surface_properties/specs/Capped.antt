-- Sums that saturate at one more than the greatest entry.
use Rattle.std.specs.Prelude.{ℕ, ◌+◌, min}
use Rattle.text_definitions.specs.Written.{limit}

-- the number, or 2^127 if it exceeds 2^127 - 1
unfoldable pub capped : ℕ → ℕ
capped n = min n (limit + 1)
