use Rattle.std.proofs.Common.{true}
use Rattle.std.specs.Prelude.{slice_set}
use Rattle.std.proofs.lemmas.Result.{on_ok_weaker}
use Rattle.canonical_labelling.proofs.Orbiting.{follows_from}
use Rattle.canonical_labelling.proofs.orbits.mark_orbit.Goals as goal

pub returns-clause-marked : goal.returns-clause-marked
returns-clause-marked c = on_ok_weaker c.close.result
    (λ h. follows_from c.args.orbits.now.automorphisms.items c.mark.new.orbits.automorphisms.items (slice_set c.args.orbits.now.marked.items c.args.number true) c.mark.new.orbits.marked.items c.close.new.orbits.marked.items
    c.in_ok-mark.ensures.automorphisms c.in_ok-mark.ensures.marked h)
    c.close.ensures.marked
