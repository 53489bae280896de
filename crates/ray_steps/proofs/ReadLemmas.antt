-- What holds at the indices that a step reads, for plain values: the prover need not search for it in long functions.
use Rattle.std.proofs.Common.{◌≡◌, ℕ, ◌+◌, ◌-◌, ◌<◌, ◌≤◌, List, length, get_or, subst, sym, ◌∙◌, ap, arith}
use Rattle.std.specs.List.{All}
use Rattle.ray_steps.specs.declared.rays.RayWithSupport.{RayWithSupport}
use Rattle.ray_steps.specs.declared.signs.Sign.{Sign}
use Rattle.ray_steps.specs.Rays.{AreOfWidth}
use Rattle.ray_steps.specs.Signs.{AreNegativePlaces}

-- an index from the list of the negative rays is in range
pub place_within : (signs : List Sign) (places read : List ℕ) (m : ℕ) → AreNegativePlaces signs (length signs) places → read ≡ places → m < length read → get_or read m 0 < length signs
place_within signs places read m h same less = subst (All (λ place. place < length signs)) (sym same) h.in_range m 0 less

-- an index from the list of the negative rays is in range for the list of rays
pub place_of_kept : (signs : List Sign) (ray_list : List RayWithSupport) (places read : List ℕ) (m : ℕ) → length signs ≡ length ray_list → AreNegativePlaces signs (length signs) places → read ≡ places → m < length read →
    get_or read m 0 < length ray_list
place_of_kept signs ray_list places read m count h same less = subst (λ n. get_or read m 0 < n) count (place_within signs places read m h same less)

-- fewer indices are left
pub fewer_left : (places read : List ℕ) (m n : ℕ) → read ≡ places → m < length read → m + 1 ≤ n → length places - n < length places - m
fewer_left places read m n same less more = let k = ap length same in omega arith

-- the width of a ray that was read
pub read_width : (ray_list : List RayWithSupport) (k columns : ℕ) (kept : RayWithSupport) → k < length ray_list → kept ≡ get_or ray_list k kept → AreOfWidth columns ray_list → length kept.ray ≡ columns
read_width ray_list k columns kept within is widths = ap (λ x. length x.ray) is ∙ widths k kept within
