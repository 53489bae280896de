use Rattle.std.proofs.Common.{◌+◌, ◌<◌, suc, subst, sym, ◌∙◌, arith, w64}
use Rattle.std.specs.Int.{trailing_zeros}
use Rattle.std.proofs.Math.Facts.{Fits-lt-pow}
use Rattle.std.proofs.lemmas.Nat.Bits.{bit_at-trailing_zeros}
use Rattle.support_bits.specs.Columns.{HasColumn}
use Rattle.support_bits.proofs.WordLemmas.{bit_after}
use Rattle.support_table.specs.Residuals.{support_at}
use Rattle.support_table.proofs.BitLemmas.{before_first, next_before, before_more}
use Rattle.support_table.proofs.pairs.has_partner_of_word.Goals as goal

pub loop-rest-init : goal.loop-rest-init
loop-rest-init c = record {
  before = before_first c.args.first c.args.word c.ranges.word.fits;
  columns = c.requires.columns;
}

pub overflow_add-next : goal.overflow_add-next
overflow_add-next c =
    let some : 0 < c.loop-rest.rest = omega (arith, c.loop-rest-test.true) in
    let next = next_before c.loop-rest.column (c.args.first + 64) c.loop-rest.rest c.loop-rest.invariant.before some (Fits-lt-pow c.loop-rest.auto.rest-fits) in
    omega (arith, next, c.requires.first)

pub overflow_add-column : goal.overflow_add-column
overflow_add-column c =
    let some : 0 < c.loop-rest.rest = omega (arith, c.loop-rest-test.true) in
    let next = next_before c.loop-rest.column (c.args.first + 64) c.loop-rest.rest c.loop-rest.invariant.before some (Fits-lt-pow c.loop-rest.auto.rest-fits) in
    omega (arith, next, c.requires.first)

pub has_partner-requires-clause-column : goal.has_partner-requires-clause-column
has_partner-requires-clause-column c =
    let some : 0 < c.loop-rest.rest = omega (arith, c.loop-rest-test.true) in
    c.loop-rest.invariant.columns (trailing_zeros w64 c.loop-rest.rest) (bit_at-trailing_zeros w64 c.loop-rest.rest some (Fits-lt-pow c.loop-rest.auto.rest-fits)).1

pub loop-rest-preserved : goal.loop-rest-preserved
loop-rest-preserved c =
    let column = c.loop-rest.column in
    let rest = c.loop-rest.rest in
    record {
      before = before_more column (c.args.first + 64) rest c.loop-rest.invariant.before;
      columns = λ i one. subst (HasColumn (support_at c.args.pairs.found.table.now.supports c.args.place)) (omega arith)
          (c.loop-rest.invariant.columns (trailing_zeros w64 rest + suc i) (sym (bit_after rest (trailing_zeros w64 rest) i) ∙ one));
    }
