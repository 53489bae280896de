-- The number of lines of an input is at most its number of bytes plus 1.
use Rattle.std.proofs.Common.{ℕ, ◌+◌, ◌≤◌, Bool, true, false, List, [], ◌∷◌, length, arith}
use Rattle.std.specs.Prelude.{if◌then◌else◌}
use Rattle.std.proofs.lemmas.List.Splits.{length-slice_split}
use Rattle.std.proofs.lemmas.List.Sums.{count_by-le-length}
use Rattle.text_definitions.specs.Text.{Line, is_line_feed, without_cr, is_skipped, pieces, line_of, lines_from, lines_of}

lines_fewer : (n : ℕ) (ps : List (List ℕ)) → length (lines_from n ps) ≤ length ps
unfolding lines_from
lines_fewer n [] = omega arith
lines_fewer n (p ∷ ps) = by (is_skipped (without_cr p)) (lines_fewer (n + 1) ps)
  where
    by : (b : Bool) → length (lines_from (n + 1) ps) ≤ length ps
        → length (if◌then◌else◌ {A = List Line} b (lines_from (n + 1) ps) (line_of n (without_cr p) ∷ lines_from (n + 1) ps)) ≤ length (p ∷ ps)
    by true h = omega arith
    by false h = omega arith

pub few_lines : (bytes : List ℕ) → length (lines_of bytes) ≤ length bytes + 1
few_lines bytes = omega (arith, lines_fewer 1 (pieces bytes), length-slice_split is_line_feed bytes, count_by-le-length is_line_feed bytes)
