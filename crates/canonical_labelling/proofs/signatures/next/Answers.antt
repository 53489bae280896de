use Rattle.std.proofs.Common.{◌<◌, false, length, arith, sym, subst, ◌∙◌}
use Rattle.std.proofs.lemmas.List.{get_or_default}
use Rattle.signature_definitions.specs.Labellings.{Start}
use Rattle.signature_laws.specs.Starts.{IsSmallerFrom}
use Rattle.canonical_labelling.proofs.Searching.{search_passes, search_walks, orbits_marked}
use Rattle.canonical_labelling.proofs.signatures.next.Goals as goal

pub returns-then-index-clause-search : goal.returns-then-index-clause-search
returns-then-index-clause-search c =
    let size = c.requires.search.orbits.size in
    let low = c.requires.in_range in
    let inside : c.args.number < length c.args.orbits.now.marked.items = omega (arith, size, low) in
    search_passes c.args.connected.table.now c.args.number c.args.best.by c.args.best.text.items c.args.orbits.now c.requires.search
    (sym (c.index.ensures ∙ get_or_default c.args.orbits.now.marked.items c.args.number c.index.result.now false inside) ∙ c.if-index.true)

pub returns-clause-search : goal.returns-clause-search
returns-clause-search c =
    let e = c.in_ok-best.ensures in
    let m = c.in_ok-mark_orbit.ensures in
    search_walks c.args.connected.table.now c.args.number c.args.best.by c.in_ok-best.best.by c.args.best.text.items c.in_ok-best.best.text.items c.args.orbits.now c.smaller_text.new.orbits c.mark_orbit.new.orbits c.args.connected.is_table c.requires.in_range c.requires.search
    (subst (λ (s : Start). IsSmallerFrom c.args.connected.table.now s c.args.best.text.items c.in_ok-best.best.text.items) c.numbered_start.ensures e.lesser) e.found e.orbits e.marks
    (orbits_marked c.args.connected.table.now c.smaller_text.new.orbits c.mark_orbit.new.orbits e.orbits m.size m.automorphisms) m.marked
