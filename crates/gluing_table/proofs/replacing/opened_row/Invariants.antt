-- The number is raised above those so far.
use Rattle.table_definitions.specs.Replaceable.{numbers_of}
use Rattle.gluing_table.proofs.Opened.{IsOpened}
use Rattle.gluing_table.proofs.replacing.opened_row.Given as goal

abbrev pub invariant-loop-taken : goal.invariant-loop-taken
invariant-loop-taken l = IsOpened (numbers_of l.gone) l.taken-index l.place l.number
