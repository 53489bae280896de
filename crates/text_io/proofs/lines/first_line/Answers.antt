use Rattle.std.proofs.Common.{◌<◌, length, ◌∙◌, sym, arith}
use Rattle.std.proofs.lemmas.Bool.Decides.{nat_tests}
use Rattle.text_io.proofs.LineSteps.{found_line, passed_line, no_lines}
use Rattle.text_io.proofs.lines.first_line.Goals as goal

pub returns-then-not-skips : goal.returns-then-not-skips
returns-then-not-skips c =
    let some : 0 < length c.loop-later.later.now = grind (arith, nat_tests) in (
      sym c.loop-later.invariant.same
          ∙ found_line _ c.loop-later.later.now c.split_line.result.0.now c.split_line.result.1.now c.line_content-line.result.now
          c.split_line.ensures.line c.split_line.ensures.after c.line_content-line.ensures.content (sym c.skips.ensures ∙ c.if-not-skips.true),
      omega (arith, c.split_line.ensures.shorter some),
      omega (arith, c.split_line.ensures.within),
    )

pub loop-later-preserved : goal.loop-later-preserved
loop-later-preserved c =
    let some : 0 < length c.loop-later.later.now = grind (arith, nat_tests) in
    record {
      same =
          sym (passed_line _ c.loop-later.later.now c.split_line.result.0.now c.split_line.result.1.now c.line_content-line.result.now
          c.split_line.ensures.line c.split_line.ensures.after c.line_content-line.ensures.content (sym c.skips.ensures ∙ c.if-not-skips.false))
          ∙ c.loop-later.invariant.same;
      numbers = omega (arith, c.split_line.ensures.shorter some);
      shorter = omega (arith, c.split_line.ensures.shorter some);
    }

pub returns : goal.returns
returns c = sym c.loop-later.invariant.same ∙ no_lines _ c.loop-later.later.now (grind (arith, nat_tests))
