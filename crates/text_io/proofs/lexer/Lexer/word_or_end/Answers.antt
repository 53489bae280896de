use Rattle.std.proofs.Common.{refl}
use Rattle.text_io.proofs.LexerSteps.{word-stray, word-word, ended, left-stray, left-word}
use Rattle.text_io.proofs.lexer.Lexer.word_or_end.Goals as goal

pub returns-in-End : goal.returns-in-End
returns-in-End c = rw (← c.self.view_is) (ended c.self.inside _ (rw c.in-End.is at c.front_of-column.ensures), refl)

pub returns-in-Stray : goal.returns-in-Stray
returns-in-Stray c =
    rw (c.fault.ensures, ← c.self.view_is)
    (left-stray c.self.inside _ (rw c.in-Stray.is at c.front_of-column.ensures), word-stray c.self.inside _ (rw c.in-Stray.is at c.front_of-column.ensures))

pub returns-in-Word : goal.returns-in-Word
returns-in-Word c =
    rw (← c.self.view_is)
    (left-word c.self.inside _ c.in-Word.word c.in-Word.after (rw c.in-Word.is at c.front_of-column.ensures), word-word c.self.inside _ c.in-Word.word c.in-Word.after (rw c.in-Word.is at c.front_of-column.ensures))
