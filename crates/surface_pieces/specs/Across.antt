-- The disc across an arc.
use Rattle.std.specs.Prelude.{ℕ, Bool}

-- the number of the disc, and which signs are equal on both sides of the arc
pub record Across : Type 0 where
  pub piece : ℕ
  pub keeps_sides : Bool
  pub keeps_orientation : Bool
