use Rattle.std.proofs.Common.{◌≡◌, [], ◌∷◌, ◌++◌, sym}
use Rattle.text_definitions.proofs.Lines.{without_cr-at_cr, without_cr-other}
use Rattle.text_io.proofs.lines.line_content.Goals as goal

pub returns-then-last-eq13-clause-content : goal.returns-then-last-eq13-clause-content
returns-then-last-eq13-clause-content c =
    let whole : c.args.piece.now ≡ c.in-Some.content.now ++ c.in-Some.last.now ∷ [] = c.in-Some.ensures.cases.0 in
    rw (whole, c.if-last-eq13.true) (sym (without_cr-at_cr c.in-Some.content.now))

pub returns-else-last-eq13-clause-content : goal.returns-else-last-eq13-clause-content
returns-else-last-eq13-clause-content c =
    let whole : c.args.piece.now ≡ c.in-Some.content.now ++ c.in-Some.last.now ∷ [] = c.in-Some.ensures.cases.0 in
    rw whole (sym (without_cr-other c.in-Some.content.now _ c.if-last-eq13.false))
