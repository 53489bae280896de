-- The tables so far, followed by those that are left, are those of the input, and there are at most as many as lines.
use Rattle.std.proofs.Common.{◌≡◌, ◌+◌, ◌≤◌, List, length}
use Rattle.table_definitions.specs.Table.{Row}
use Rattle.text_document_definitions.specs.Documents.{tables_from}
use Rattle.table_commands.specs.Groups.{AreGrouped}
use Rattle.table_commands.proofs.EachTable.{with_tables}
use Rattle.table_commands.proofs.groups.read_groups.Given as goal

abbrev pub invariant-loop-alloc : goal.invariant-loop-alloc
invariant-loop-alloc l =
    (tables : List (List Row)) × AreGrouped tables l.groups × (length tables + length l.lexer.later ≤ length l.fn.lexer.later)
    × (with_tables tables (tables_from l.lexer.later l.lexer) ≡ tables_from l.fn.lexer.later l.fn.lexer)

abbrev pub decreases-loop-alloc : goal.decreases-loop-alloc
decreases-loop-alloc l = length l.lexer.later
