-- Each pass of the loop reads one term.
use Rattle.std.proofs.Common.{[], ◌∷◌, sym, ◌∙◌}
use Rattle.std.proofs.lemmas.Result.{err_from_is_err_and}
use Rattle.std.proofs.lemmas.List.{map-append}
use Rattle.text_document_definitions.specs.Blocks.{term_at}
use Rattle.ray_decompose.specs.Sums.{term_of, terms_of}
use Rattle.table_definitions.proofs.TableReadingLaws.{lexed_ok}
use Rattle.table_definitions.proofs.TableFoundLaws.{lexed_with}
use Rattle.sum_commands.proofs.TermLines.{terms_end, terms_more, term_fails}
use Rattle.sum_commands.proofs.blocks.read_terms.Goals as goal

pub loop-number-preserved : goal.loop-number-preserved
loop-number-preserved c =
    rw (c.in_ok-push.ensures.items, map-append term_of c.loop-number.terms.items (c.in_ok-term.term ∷ []))
    (terms_more (terms_of c.loop-number.terms.items) c.loop-number._number c.args.count c.loop-number.lexer (term_of c.in_ok-term.term, c.read_term.new.lexer) c.loop-number-test.true
    (lexed_ok (term_at c.loop-number.lexer) (term_of c.in_ok-term.term, c.read_term.new.lexer) c.in_ok-term.ensures) ∙ c.loop-number.invariant)

pub returns : goal.returns
returns c = lexed_with _ _ (sym c.loop-number.invariant ∙ terms_end (terms_of c.loop-number.terms.items) c.loop-number._number c.args.count c.loop-number.lexer c.loop-number-test.false)

pub returns-in_err-term : goal.returns-in_err-term
returns-in_err-term c = let p = err_from_is_err_and c.from_residual.result c.from_residual.ensures.1 in rw (p.1, p.2)
    (term_fails (terms_of c.loop-number.terms.items) c.loop-number._number c.args.count c.loop-number.lexer _ _ c.loop-number-test.true c.in_err-term.ensures c.loop-number.invariant)
