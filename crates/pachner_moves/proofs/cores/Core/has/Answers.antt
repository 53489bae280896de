use Rattle.std.proofs.Common.{ap, ◌∙◌, List, ℕ, arith}
use Rattle.table_definitions.specs.Lists.{has}
use Rattle.pachner_moves.proofs.MaskLaws.{has_is}
use Rattle.pachner_moves.proofs.cores.Core.has.Goals as goal

pub returns : goal.returns
returns c = has_is c.self.inside.mask c.args.v c.self.invariant.1 (omega arith) ∙ ap (λ (vs : List ℕ). has vs c.args.v) c.self.view_is
