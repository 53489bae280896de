-- The number is raised above those of the removed rows so far.
use Rattle.gluing_table.proofs.Opened.{IsOpened}
use Rattle.gluing_table.proofs.replacing.opened_number.Given as goal

abbrev pub invariant-loop-taken : goal.invariant-loop-taken
invariant-loop-taken l = IsOpened l.gone l.taken-index l.place l.number
