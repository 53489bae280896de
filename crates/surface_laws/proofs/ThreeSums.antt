-- The three quads of a tetrahedron in a sum of all.
use Rattle.std.proofs.Common.{◌≡◌, ℕ, ◌+◌, ◌*◌, ◌≤◌, List, length, take, sym, ap, ◌∙◌, arith}
use Rattle.std.specs.Prelude.{sum, slice_index}
use Rattle.std.proofs.lemmas.List.Sums.{sum_by_more}

-- the quads of tetrahedron t
abbrev pub three_of : List ℕ → ℕ → ℕ
three_of xs t = slice_index xs (3 * t) + slice_index xs (3 * t + 1) + slice_index xs (3 * t + 2)

-- one tetrahedron more
pub three_more : (xs : List ℕ) (t : ℕ) → 3 * (t + 1) ≤ length xs → sum (take (3 * (t + 1)) xs) ≡ sum (take (3 * t) xs) + three_of xs t
three_more xs t l =
    let e : 3 * (t + 1) ≡ (3 * t + 2) + 1 = omega arith in
    let f : (3 * t + 1) + 1 ≡ 3 * t + 2 = omega arith in
    let a : sum (take (3 * (t + 1)) xs) ≡ sum (take (3 * t + 2) xs) + slice_index xs (3 * t + 2) = ap (λ i. sum (take i xs)) e ∙ sum_by_more (λ n. n) xs (3 * t + 2) 0 (omega arith) in
    let b : sum (take (3 * t + 2) xs) ≡ sum (take (3 * t + 1) xs) + slice_index xs (3 * t + 1) = ap (λ i. sum (take i xs)) (sym f) ∙ sum_by_more (λ n. n) xs (3 * t + 1) 0 (omega arith) in
    let c : sum (take (3 * t + 1) xs) ≡ sum (take (3 * t) xs) + slice_index xs (3 * t) = sum_by_more (λ n. n) xs (3 * t) 0 (omega arith) in
    omega arith
