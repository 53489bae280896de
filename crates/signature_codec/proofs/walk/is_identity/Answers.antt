use Rattle.std.proofs.Common.{ap, ◌∙◌}
use Rattle.std.specs.Prelude.{nat_eq}
use lib.Pointwise.{pointwise}
use Rattle.table_definitions.proofs.ListFacts.{pointwise-same_list}
use Rattle.table_definitions.specs.Permutation.{identity}
use Rattle.signature_codec.proofs.walk.is_identity.Goals as goal

pub returns : goal.returns
returns c = c.eq.ensures ∙ ap (pointwise nat_eq c.args.perm) c.perm_at.ensures ∙ pointwise-same_list c.args.perm identity
