-- One more vector.
use Rattle.certificate_commands.proofs.Greatest.{one_vector}
use Rattle.certificate_commands.proofs.summaries.greatest_entry.Goals as goal

pub loop-ray-preserved : goal.loop-ray-preserved
loop-ray-preserved c =
    one_vector c.args.list.now c.loop-ray.ray-index c.ray-item.result c.loop-ray.greatest c.greater_of-greatest.result c.loop-ray-test.true c.ray-item.is c.loop-ray.invariant
    (rw c.entries.ensures.entries at c.greater_of-greatest.ensures)
