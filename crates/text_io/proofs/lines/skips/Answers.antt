use Rattle.std.proofs.Common.{sym, arith}
use Rattle.text_io.proofs.Blanks.{is_skipped-blank, is_skipped-first}
use Rattle.text_io.proofs.lines.skips.Goals as goal

pub returns-in-empty : goal.returns-in-empty
returns-in-empty c = sym (is_skipped-blank c.args.line.now _ c.without_blanks.ensures.rest (omega arith))

pub returns-in-len1-up : goal.returns-in-len1-up
returns-in-len1-up c = sym (is_skipped-first c.args.line.now _ c.without_blanks.ensures.rest (omega arith))
