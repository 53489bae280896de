-- Each pass of the loop reads one number.
use Rattle.std.proofs.Common.{sym, ◌∙◌, arith}
use Rattle.std.proofs.lemmas.Result.{err_from_is_err_and}
use Rattle.text_definitions.specs.Written.{limit}
use Rattle.text_definitions.proofs.Readers.{number_at-takes, tokens-fewer, with_front-more, with_front-end, with_front-fault}
use Rattle.table_definitions.proofs.TableFoundLaws.{lexed_with}
use Rattle.text_document_definitions.proofs.EachLine.{fault_lexed}
use Rattle.command_answers.proofs.vectors.read_numbers.Goals as goal

pub loop-numbers-smaller : goal.loop-numbers-smaller
loop-numbers-smaller c =
    let h = rw c.in-Some.is at c.in_ok-number.ensures in omega (arith, tokens-fewer _ _ (number_at-takes limit c.loop-numbers.lexer _ h.1))

pub loop-numbers-preserved : goal.loop-numbers-preserved
loop-numbers-preserved c =
    let h = rw c.in-Some.is at c.in_ok-number.ensures in
    rw c.in_ok-push.ensures.items (with_front-more c.loop-numbers.numbers.items limit c.loop-numbers.lexer _ h.1 ∙ c.loop-numbers.invariant)

pub returns : goal.returns
returns c =
    let h = rw c.in_default.is at c.in_ok-number.ensures in
    rw h.1 (lexed_with _ _ (sym c.loop-numbers.invariant ∙ with_front-end _ _ c.loop-numbers.lexer h.0))

pub returns-in_err-number : goal.returns-in_err-number
returns-in_err-number c =
    let p = err_from_is_err_and c.from_residual.result c.from_residual.ensures.1 in
    let h = c.in_err-number.ensures in
    rw (p.1, p.2) (λ other. fault_lexed _ _ (sym c.loop-numbers.invariant ∙ with_front-fault _ _ c.loop-numbers.lexer _ h.0 h.1))
