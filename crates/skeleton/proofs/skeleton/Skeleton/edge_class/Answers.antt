use Rattle.std.proofs.Common.{sym, ◌∙◌}
use Rattle.std.proofs.lemmas.Bool.{false≢true}
use Rattle.skeleton_class_laws.proofs.DirectionLemmas.{direction_none, direction_told}
use Rattle.skeleton.proofs.skeleton.Skeleton.edge_class.Goals as goal

pub returns-then-joins_reverse-clause-direction : goal.returns-then-joins_reverse-clause-direction
returns-then-joins_reverse-clause-direction c =
    direction_none _ _ _ c.first_edge-first.result c.class_of_edge-class.ensures.class c.first_edge-first.ensures.value (c.joins_reverse.ensures.0 c.if-joins_reverse.true)

pub returns-clause-direction : goal.returns-clause-direction
returns-clause-direction c =
    direction_told _ _ _ c.first_edge-first.result _ c.class_of_edge-class.ensures.class c.first_edge-first.ensures.value
    (λ j. false≢true (sym c.if-joins_reverse.false ∙ c.joins_reverse.ensures.1 j)) c.joins_reverse-against.ensures
