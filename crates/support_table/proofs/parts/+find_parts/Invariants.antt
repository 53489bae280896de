use Rattle.support_table.specs.Parts.{IsPart, AreFoundFor}
use Rattle.support_table.proofs.parts.+find_parts.Given as goal

abbrev pub decreases-find_parts : goal.decreases-find_parts
decreases-find_parts l = l.depth

-- what is left of the outer rays has this part, and each list so far is right
abbrev pub invariant-loop : goal.invariant-loop
invariant-loop l = IsPart l.parting.search.rays.now l.parting.search.outers.now l.chosen.items l.part × AreFoundFor l.parting.search.rays.now.supports l.parting.search.outers.now l.parting.search.selected.now l.parting.search.most l.found.items
