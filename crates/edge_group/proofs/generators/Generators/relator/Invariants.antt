use Rattle.std.proofs.Common.{◌≡◌, take, filter_map}
use Rattle.presentation_definitions.specs.Presentations.{letter_of}
use Rattle.table_definitions.specs.Table.{face_number}
use Rattle.edge_group.proofs.generators.Generators.relator.Given as goal
use Rattle.skeleton_definitions.specs.Corners.{left_through}

abbrev pub invariant-loop-corner : goal.invariant-loop-corner
invariant-loop-corner l = l.letters.items ≡ filter_map (λ k. letter_of l.self.skeleton l.self.classes (face_number (left_through k))) (take l.corner-index l.corners)
