use Rattle.std.proofs.Common.{◌∙◌}
use Rattle.canonical_labelling.proofs.Orbiting.{follows_on}
use Rattle.canonical_labelling.proofs.orbits.close.Goals as goal

pub loop-i-preserved : goal.loop-i-preserved
loop-i-preserved c =
    let inv = c.loop-i.invariant in
    let e = c.in_ok-mark_images.ensures in
    record {
      marked = follows_on c.args.orbits.now.automorphisms.items c.loop-i.orbits.automorphisms.items c.args.orbits.now.marked.items c.loop-i.orbits.marked.items c.mark_images.new.orbits.marked.items inv.automorphisms inv.size inv.marked e.marked;
      size = e.size ∙ inv.size;
      automorphisms = e.automorphisms ∙ inv.automorphisms;
    }
