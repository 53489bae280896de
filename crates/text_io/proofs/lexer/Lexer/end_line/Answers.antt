use Rattle.text_io.proofs.LexerSteps.{end_line-end, end_line-stray, end_line-word}
use Rattle.text_io.proofs.lexer.Lexer.end_line.Goals as goal

pub returns-in-End : goal.returns-in-End
returns-in-End c = rw (← c.self.view_is) (end_line-end c.self.inside _ (rw c.in-End.is at c.front_of-column.ensures))

pub returns-in-Stray : goal.returns-in-Stray
returns-in-Stray c =
    rw (c.fault.ensures, ← c.self.view_is) (end_line-stray c.self.inside _ (rw c.in-Stray.is at c.front_of-column.ensures))

pub returns-in-Word : goal.returns-in-Word
returns-in-Word c =
    rw (c.fault-in-Word.ensures, ← c.self.view_is)
    (end_line-word c.self.inside _ c.in-Word.field-0 c.in-Word.field-1 (rw c.in-Word.is at c.front_of-column.ensures))
