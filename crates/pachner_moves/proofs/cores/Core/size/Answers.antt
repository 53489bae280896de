use Rattle.move_definitions.specs.Moves.{IsCore}
use Rattle.std.proofs.Common.{subst, ap, ◌∙◌, List, ℕ, length}
use Rattle.pachner_moves.proofs.MaskLaws.{size_is, is_core}
use Rattle.pachner_moves.proofs.cores.Core.size.Goals as goal

pub returns-clause-value : goal.returns-clause-value
returns-clause-value c = size_is c.self.inside.mask c.self.invariant.1 ∙ ap (λ (vs : List ℕ). length vs) c.self.view_is

pub returns-clause-core : goal.returns-clause-core
returns-clause-core c = subst (λ (vs : List ℕ). IsCore vs) c.self.view_is (is_core c.self.inside.mask c.self.invariant.0 c.self.invariant.1)
