use Rattle.std.proofs.Common.{◌^◌, ◌≤◌, length, ◌∙◌, arith}
use Rattle.cone_bound_laws.specs.Caps.{row_size}
use Rattle.number_bounds.proofs.Past.{if_none, any_at, attained_more, attained_all}
use Rattle.number_bounds.proofs.Tallies.{greatest_more, all_small}
use Rattle.number_bounds.proofs.sizes.greatest_size.Goals as goal

pub loop-number-preserved : goal.loop-number-preserved
loop-number-preserved c =
    let m = c.max-greatest.ensures in
    let same = c.entries.ensures.entries ∙ c.row.ensures.row in
    record {
      small = greatest_more c.args.system.now.rows c.loop-number.number c.loop-number.greatest c.max-greatest.result c.in_ok-size_of.field-0 c.entries.result.now c.loop-number.invariant.small
          (omega (arith, m), omega (arith, m)) c.in_ok-size_of.ensures.some same;
      attained = attained_more c.args.system.now.rows c.loop-number.number c.loop-number.greatest c.max-greatest.result c.in_ok-size_of.field-0 c.entries.result.now c.loop-number.invariant.attained
          (omega (arith, m)) c.in_ok-size_of.ensures.some same;
    }

pub returns : goal.returns
returns c =
    let exceeded : length c.args.system.now.rows ≤ c.loop-number.number = omega (arith, c.len-number-end.ensures, c.loop-number-test.false) in
    record {
      some = all_small c.args.system.now.rows c.loop-number.number c.loop-number.greatest c.loop-number.invariant.small exceeded;
      attained = attained_all c.args.system.now.rows c.loop-number.number c.loop-number.greatest c.loop-number.invariant.attained
          (omega (arith, c.loop-number.auto.number-end, c.len-number-end.ensures));
      none = tt;
    }

pub returns-in_err-size_of-clause-none : goal.returns-in_err-size_of-clause-none
returns-in_err-size_of-clause-none c =
    if_none c.from_residual.result (any_at (λ row. 2 ^ 64 ≤ row_size row) c.args.system.now.rows c.loop-number.number (omega (arith, c.loop-number-test.true, c.len-number-end.ensures))
    (rw (c.entries.ensures.entries ∙ c.row.ensures.row) at c.in_err-size_of.ensures.none))
