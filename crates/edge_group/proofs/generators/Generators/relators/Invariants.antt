use Rattle.std.proofs.Common.{take, map}
use Rattle.std.specs.List.{AllZip}
use Rattle.presentation_definitions.specs.Presentations.{IsRelator}
use Rattle.edge_group.specs.Fields.{letters_of}
use Rattle.edge_group.proofs.generators.Generators.relators.Given as goal

abbrev pub invariant-loop-class : goal.invariant-loop-class
invariant-loop-class l = AllZip (IsRelator l.self.skeleton l.self.classes) (take l.class-index l.edges) (map letters_of l.relators.items)
