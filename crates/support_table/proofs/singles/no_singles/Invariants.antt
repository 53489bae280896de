-- the empty sets so far
use Rattle.std.proofs.Common.{◌≡◌, false, length, replicate}
use Rattle.std.specs.List.{All}
use Rattle.support_table.proofs.singles.no_singles.Given as goal

abbrev pub invariant-loop-number : goal.invariant-loop-number
invariant-loop-number l = record { count : length l.singles.items ≡ l._number; none : All (λ single. single ≡ replicate l.rays.columns false) l.singles.items }
