use Rattle.std.proofs.Common.{ℕ, ◌-◌, ◌≤◌, length, ◌∙◌, arith}
use Rattle.std.proofs.lemmas.List.{length-take, length-drop}
use Rattle.text_io.proofs.KnownBytes.{write_more}
use Rattle.text_io.proofs.transfer.write_all.Goals as goal

pub loop-written-preserved : goal.loop-written-preserved
loop-written-preserved g c =
    let count : c.in_ok-written.field-0 ≤ length c.args.bytes.now - c.loop-written.written =
    omega (arith, length-take {A = ℕ}, length-drop {A = ℕ}, c.in_ok-written.ensures.count.1) in
    record {
      within = omega arith;
      grown = write_more _ _ _ c.args.bytes.now c.loop-written.written c.in_ok-written.field-0 count c.loop-written.invariant.grown c.in_ok-written.ensures.appended;
      calm = c.in_ok-written.ensures.ok ∙ c.loop-written.invariant.calm;
      unmoved = λ none. absurd (omega (arith, c.in_ok-written.ensures.count.0));
    }
