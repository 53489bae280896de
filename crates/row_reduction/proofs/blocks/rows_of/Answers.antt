-- One more row.
use Rattle.std.proofs.Common.{◌<◌, ◌≤◌, ◌∙◌, length, subst, sym, arith}
use Rattle.std.proofs.lemmas.List.{take_all}
use Rattle.std.proofs.lemmas.List.Elements.{All-push}
use Rattle.cone_arithmetic.specs.Sparse.{IsInRange}
use Rattle.row_reduction.proofs.RowLemmas.{rows_pushed}
use Rattle.row_reduction.proofs.blocks.rows_of.Goals as goal

pub loop-i-preserved : goal.loop-i-preserved
loop-i-preserved c =
    let within : c.loop-i.i < length c.args.system.now.rows = omega (arith, c.loop-i-test.true, c.len-i-end.ensures) in
    record {
      same = rows_pushed c.args.system.now.rows c.loop-i.rows.items c.push.new.self.items c.loop-i.i c.in_ok-copy.field-0 within c.loop-i.invariant.same c.in_ok-push.ensures.items
          (c.in_ok-copy.ensures ∙ c.row.ensures.row);
      in_range = rw c.in_ok-push.ensures.items (All-push (IsInRange c.args.system.now.columns) c.loop-i.rows.items c.in_ok-copy.field-0 c.loop-i.invariant.in_range
          (subst (IsInRange c.args.system.now.columns) (sym c.in_ok-copy.ensures) c.row.ensures.in_range));
    }

pub returns-clause-same : goal.returns-clause-same
returns-clause-same c =
    let exceeded : length c.args.system.now.rows ≤ c.loop-i.i = omega (arith, c.loop-i-test.false, c.len-i-end.ensures) in
    c.loop-i.invariant.same ∙ take_all c.loop-i.i c.args.system.now.rows exceeded
