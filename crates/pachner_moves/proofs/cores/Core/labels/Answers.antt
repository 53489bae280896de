use Rattle.std.proofs.Common.{ap, ◌∙◌, List, ℕ}
use Rattle.table_definitions.specs.Permutation.{inverse}
use Rattle.move_definitions.specs.Moves.{vertices_by_label}
use Rattle.pachner_moves.specs.Cores.{core_of}
use Rattle.pachner_moves.proofs.MaskLaws.{labels_permute, labels_index, some_same}
use Rattle.pachner_moves.proofs.cores.Core.labels.Goals as goal

pub returns-clause-value : goal.returns-clause-value
returns-clause-value c =
    some_same c.of_index.result _ (inverse (vertices_by_label (core_of c.self.inside.mask))) c.in-Some.is
    (c.of_index.ensures.found (inverse (vertices_by_label (core_of c.self.inside.mask))) (labels_permute c.self.inside.mask c.self.invariant.1) (labels_index c.self.inside.mask c.self.invariant.1))
    ∙ ap (λ (vs : List ℕ). inverse (vertices_by_label vs)) c.self.view_is
