-- Decimals with a sign.
use Rattle.std.specs.Prelude.{ℕ, ◌^◌}

-- their magnitudes are below it, so that 32 bits hold them
abbrev pub signed_bound : ℕ
signed_bound = 2 ^ 31
