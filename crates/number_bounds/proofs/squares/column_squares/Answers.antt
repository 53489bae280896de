use Rattle.std.proofs.Common.{◌^◌, ◌≤◌, length, ap, sym, ◌∙◌, arith}
use Rattle.std.proofs.lemmas.List.{take_all}
use Rattle.cone_square_laws.specs.Squares.{sum_of_squares}
use Rattle.cone_arithmetic.proofs.EntryLemmas.{refilled}
use Rattle.number_bounds.proofs.Past.{column_past}
use Rattle.number_bounds.proofs.Tallies.{rows_more}
use Rattle.number_bounds.proofs.squares.column_squares.Goals as goal

pub loop-number-preserved : goal.loop-number-preserved
loop-number-preserved c =
    let kept = refilled c.loop-number.squares.len c.add_row.new.squares c.loop-number.squares.items
    (c.add_row.auto.squares ∙ ap length c.deref_mut.ensures.value ∙ sym c.loop-number.squares.ok.0) in
    record {
      count = ap length kept ∙ c.add_row.auto.squares ∙ ap length c.deref_mut.ensures.value ∙ c.loop-number.invariant.count;
      each = rows_more c.args.system.now.rows c.loop-number.number c.entries.result.now c.loop-number.squares.items _ c.add_row.new.squares _
          (omega (arith, c.loop-number-test.true, c.len-number-end.ensures)) (c.entries.ensures.entries ∙ c.row.ensures.row) c.loop-number.invariant.each
          c.deref_mut.ensures.value (c.add_row.ensures.added c.if-not-add_row.false) kept;
    }

pub returns-then-not-add_row-clause-none : goal.returns-then-not-add_row-clause-none
returns-then-not-add_row-clause-none c =
    let heavy = c.add_row.ensures.exceeded c.if-not-add_row.true in (
      heavy.0,
      omega (arith, heavy.1, ap length c.deref_mut.ensures.value, c.loop-number.invariant.count),
      column_past c.args.system.now.rows c.loop-number.number heavy.0 (2 ^ 64) c.entries.result.now c.loop-number.squares.items c.deref_mut.result.now
          (omega (arith, c.loop-number-test.true, c.len-number-end.ensures)) (c.entries.ensures.entries ∙ c.row.ensures.row) (c.loop-number.invariant.each heavy.0) c.deref_mut.ensures.value heavy.2,
    )

pub returns-clause-some : goal.returns-clause-some
returns-clause-some c =
    let exceeded : length c.args.system.now.rows ≤ c.loop-number.number = omega (arith, c.len-number-end.ensures, c.loop-number-test.false) in
    record {
      count = c.loop-number.invariant.count;
      each = λ j. c.loop-number.invariant.each j ∙ ap (λ rows. sum_of_squares rows j) (take_all c.loop-number.number c.args.system.now.rows exceeded);
    }
