use Rattle.text_io.proofs.LexerSteps.{word_at-ended}
use Rattle.text_io.proofs.lexer.Lexer.word.Goals as goal

pub returns-in-None : goal.returns-in-None
returns-in-None c =
    let h = rw c.in-None.is at c.in_ok-word.ensures in rw (c.fault.ensures, c.line_end.ensures, h.1) (word_at-ended _ h.0)
