-- The first line is read, and then the rows.
use Rattle.std.proofs.Common.{rules, arith, true, Ok, ◌≡◌, sym, subst}
use Rattle.std.specs.Prelude.{codes}
use Rattle.text_definitions.specs.Reading.{same_word}
use Rattle.cone_core.specs.ConeReads.{GivesCone}
use Rattle.cone_core.proofs.ConeLemmas.{number_at-within, cone_at-is, cone_of_none}
use Rattle.cone_core.proofs.reader.read_cone.Goals as goal

pub overflow_cast-columns : goal.overflow_cast-columns
overflow_cast-columns c = let within = number_at-within 10000 c.word.new.self _ c.in_ok-columns.ensures in grind arith

pub overflow_cast-count : goal.overflow_cast-count
overflow_cast-count c = let within = number_at-within 10000 c.number.new.self _ c.in_ok-count.ensures in grind arith

pub returns-then-columns-eq0 : goal.returns-then-columns-eq0
returns-then-columns-eq0 c =
    let named : same_word c.in_ok-word.word.now (codes "cone") ≡ true = search rules in
    let first = cone_at-is c.args.lexer.now _ _ _ _ c.in_ok-word.ensures named c.in_ok-columns.ensures c.in_ok-count.ensures c.in_ok-end_line.ensures in
    subst (GivesCone (Ok c.in_ok-system.system) c.end_line.new.self) (sym first)
    (cone_of_none c.in_ok-columns.field-0 c.in_ok-count.field-0 c.end_line.new.self c.in_ok-system.system c.if-columns-eq0.true c.in_ok-system.ensures.columns c.in_ok-system.ensures.rows)
