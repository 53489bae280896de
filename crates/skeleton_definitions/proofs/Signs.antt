-- A sign, and a number that is 0 for the sign and 1 for its opposite.
use Rattle.std.proofs.Common.{◌≡◌, ℕ, zero, suc, ◌-◌, ◌<◌, Bool, true, false, ap, ◌∙◌, arith}
use Rattle.std.specs.Prelude.{not, if◌then◌else◌}
use Rattle.std.proofs.Math.Bool.{not-not}

-- the sign b for the number 0, and its opposite for any other
abbrev pub says : ℕ → Bool → Bool
says zero b = b
says (suc s) b = not b

-- the value does not change if the sign and the number are both retained, or both changed
pub says_behind : (odd : Bool) (s : ℕ) (here there : Bool) → s < 2 → there ≡ (if odd then here else not here) → says (if odd then s else 1 - s) there ≡ says s here
says_behind true s here there l e = ap (says s) e
says_behind false zero here there l e = ap not e ∙ not-not here
says_behind false (suc zero) here there l e = e
says_behind false (suc (suc s)) here there l e = absurd (omega arith)
