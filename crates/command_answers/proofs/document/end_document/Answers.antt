-- The line that was begun is the one that must not follow the document.
use Rattle.std.proofs.Common.{sym, subst, Result}
use Rattle.text_definitions.specs.declared.LexFault.{LexFault}
use Rattle.text_definitions.specs.Reading.{Reading, Moves}
use Rattle.command_answers.proofs.LastLine.{no_line_at-begun}
use Rattle.command_answers.proofs.document.end_document.Goals as goal

pub returns : goal.returns
returns c = subst (λ (read : Result Reading LexFault). Moves c.end_line.result c.end_line.new.self read)
    (sym (no_line_at-begun c.args.lexer.now c.next_line.new.self c.if-not-next_line.ensures.found)) c.end_line.ensures
