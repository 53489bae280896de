-- One more image of the marked start is marked.
use Rattle.std.proofs.Common.{◌≡◌, ◌<◌, true, false, length, arith, ap, subst, sym, ◌∙◌}
use Rattle.std.specs.Prelude.{slice_index}
use Rattle.std.specs.List.{slice_index_or}
use Rattle.std.proofs.lemmas.List.{get_or_default, length-set}
use Rattle.canonical_labelling.proofs.Orbiting.{marked_below, size_of, image_follows, follows_on}
use Rattle.canonical_labelling.proofs.orbits.mark_images.Goals as goal

pub carried_number-number-requires-clause-in_range : goal.carried_number-number-requires-clause-in_range
carried_number-number-requires-clause-in_range c =
    let inv = c.loop-j.invariant in
    let o = c.loop-j.orbits in
    let grows = inv.grows in
    let start : c.args.i < length o.numbers.items = omega (arith, grows, c.requires) in
    let there : c.loop-j.j < length o.automorphisms.items = omega (arith, c.loop-j-test.true, c.len-j-end.ensures, c.args.orbits.now.automorphisms.ok, ap length inv.automorphisms) in
    let size = size_of o.automorphisms.items (length o.marked.items) c.loop-j.j c.index-by.result.now there c.index-by.ensures o.sizes in
    let is : c.index.result.now ≡ slice_index o.numbers.items c.args.i = c.index.ensures ∙ get_or_default o.numbers.items c.args.i c.index.result.now 0 start in
    let below = marked_below o.marked.items (slice_index o.numbers.items c.args.i) (o.listed c.args.i start) in
    omega (arith, size, is, below)

pub loop-j-preserved : goal.loop-j-preserved
loop-j-preserved c =
    let inv = c.loop-j.invariant in
    let o = c.loop-j.orbits in
    let e = c.in_ok-mark.ensures in
    let before = inv.grows in
    let after = e.grows in
    let start : c.args.i < length o.numbers.items = omega (arith, before, c.requires) in
    let there : c.loop-j.j < length o.automorphisms.items = omega (arith, c.loop-j-test.true, c.len-j-end.ensures, c.args.orbits.now.automorphisms.ok, ap length inv.automorphisms) in
    let is : c.index.result.now ≡ slice_index o.numbers.items c.args.i = c.index.ensures ∙ get_or_default o.numbers.items c.args.i c.index.result.now 0 start in
    let here = image_follows o.automorphisms.items o.marked.items c.mark.new.orbits.marked.items c.index-by.result.now c.loop-j.j c.index.result.now c.carried_number-number.result there c.index-by.ensures
    (subst (λ k. slice_index_or o.marked.items k false ≡ true) (sym is) (o.listed c.args.i start)) c.carried_number-number.ensures.value e.marked in
    record {
      marked = follows_on c.args.orbits.now.automorphisms.items o.automorphisms.items c.args.orbits.now.marked.items o.marked.items c.mark.new.orbits.marked.items inv.automorphisms inv.size inv.marked here;
      size = ap length e.marked ∙ length-set o.marked.items c.carried_number-number.result true ∙ inv.size;
      automorphisms = e.automorphisms ∙ inv.automorphisms;
      grows = omega (arith, before, after);
    }
