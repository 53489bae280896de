use Rattle.tri_build.proofs.Vertices.{none_there, before_it, behind_it}
use Rattle.tri_build.proofs.standing.vertex_without.Goals as goal

pub returns-then-label-missing : goal.returns-then-label-missing
returns-then-label-missing c = none_there c.args.missing.number c.args.label.number c.args.missing.one_of_five c.args.label.one_of_five c.if-label-missing.true

pub returns-then-label-missing-2 : goal.returns-then-label-missing-2
returns-then-label-missing-2 c = before_it c.args.missing.number c.args.label.number c.args.missing.one_of_five c.args.label.one_of_five c.if-label-missing-2.true

pub returns-else-label-missing-2 : goal.returns-else-label-missing-2
returns-else-label-missing-2 c = behind_it c.args.missing.number c.args.label.number c.args.missing.one_of_five c.args.label.one_of_five c.if-label-missing.false c.if-label-missing-2.false
