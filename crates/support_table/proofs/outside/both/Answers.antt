use Rattle.support_table.proofs.OutsideLemmas.{both_of}
use Rattle.support_table.proofs.outside.both.Goals as goal

pub returns : goal.returns
returns c = both_of c.args.a c.args.b
