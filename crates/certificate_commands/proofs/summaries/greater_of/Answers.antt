-- One more entry.
use Rattle.std.proofs.Common.{arith}
use Rattle.certificate_commands.proofs.Greatest.{one_entry}
use Rattle.certificate_commands.proofs.summaries.greater_of.Goals as goal

pub loop-entry-preserved : goal.loop-entry-preserved
loop-entry-preserved c =
    let m = c.max-greatest.ensures in
    one_entry c.args.least c.args.entries.now c.loop-entry.entry-index c.loop-entry.greatest c.max-greatest.result (omega arith) c.loop-entry.invariant (omega arith) (omega arith) (λ most a b. omega arith)
