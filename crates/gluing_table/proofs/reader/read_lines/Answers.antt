use Rattle.std.proofs.Common.{◌-◌, sym, ap, List, ◌∙◌, arith, Result}
use Rattle.table_definitions.specs.Table.{Row}
use Rattle.table_definitions.specs.TableText.{lexed}
use Rattle.table_definitions.specs.declared.TextFault.{TextFault}
use Rattle.text_definitions.specs.declared.LexFault.{LexFault}
use Rattle.text_definitions.specs.Reading.{Reading}
use Rattle.std.proofs.lemmas.Result.{err_from_is_err_and}
use Rattle.gluing_table.proofs.RowsRead.{with_rows-start, with_rows-more, with_rows-fault, with_rows-end}
use Rattle.gluing_table.proofs.reader.read_lines.Goals as goal

abbrev read_rows : Result (List Row × Reading) LexFault → Result (List Row × Reading) TextFault
read_rows r = lexed r

pub loop-line-init : goal.loop-line-init
loop-line-init c = with_rows-start c.in_ok-rows.rows.items c.args.count _ c.args.lexer.now c.in_ok-rows.ensures.items (omega arith)

pub loop-line-preserved : goal.loop-line-preserved
loop-line-preserved c =
    with_rows-more c.loop-line.rows.items _ _ (c.args.count - c.loop-line._line) _ c.loop-line.lexer _ c.in_ok-push.ensures.items (omega arith) c.in_ok-row.ensures
    ∙ c.loop-line.invariant

pub returns-in_err-row : goal.returns-in_err-row
returns-in_err-row c =
    let p = err_from_is_err_and c.from_residual-in_err-row.result c.from_residual-in_err-row.ensures.1 in
    rw (p.1, p.2) (λ other. ap read_rows (sym c.loop-line.invariant ∙ with_rows-fault c.loop-line.rows.items (c.args.count - c.loop-line._line) c.loop-line.lexer _ (omega arith) c.in_err-row.ensures))

pub returns : goal.returns
returns c = ap read_rows (sym c.loop-line.invariant ∙ with_rows-end c.loop-line.rows.items (c.args.count - c.loop-line._line) c.loop-line.lexer (omega arith))
