-- the bits that are left are those of columns of the ray
use Rattle.std.proofs.Common.{◌≡◌, ℕ, ◌+◌}
use Rattle.std.specs.Int.{bit_at}
use Rattle.support_bits.specs.Columns.{HasColumn}
use Rattle.support_table.specs.Residuals.{support_at}
use Rattle.support_table.proofs.BitLemmas.{AreBefore}
use Rattle.support_table.proofs.pairs.has_partner_of_word.Given as goal

abbrev pub invariant-loop-rest : goal.invariant-loop-rest
invariant-loop-rest l = record {
  before : AreBefore l.column (l.first + 64) l.rest;
  columns : (i : ℕ) → bit_at l.rest i ≡ 1 → HasColumn (support_at l.pairs.found.table.now.supports l.place) (l.column + i);
}

abbrev pub decreases-loop-rest : goal.decreases-loop-rest
decreases-loop-rest l = l.rest
