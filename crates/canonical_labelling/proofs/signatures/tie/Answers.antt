use Rattle.std.proofs.Common.{◌*◌, length, arith, sym, ap, subst, ◌∙◌}
use Rattle.table_definitions.specs.Relabelling.{IsRelabelling}
use Rattle.table_definitions.proofs.Carried.{length-images}
use Rattle.canonical_labelling.proofs.Searching.{found_relabels, found_size, tie_by, orbits_added}
use Rattle.canonical_labelling.proofs.signatures.tie.Goals as goal

pub invariant_of-pair : goal.invariant_of-pair
invariant_of-pair c =
    let size = found_size c.args.traversal.now.table.now c.args.best.now.by c.args.best.now.text.items c.requires.found in
    let limited = c.args.traversal.now.is_table.limited in
    record {
      limited = omega (arith, size, limited);
      equal = length-images (length c.args.traversal.now.table.now) c.in_ok-second.second c.in_ok-second.ensures.bijection ∙ sym size;
    }

pub between-requires : goal.between-requires
between-requires c =
    let found = c.requires.found in
    subst (λ n. IsRelabelling n c.args.best.now.by) (sym (found_size c.args.traversal.now.table.now c.args.best.now.by c.args.best.now.text.items found)) (found_relabels c.args.traversal.now.table.now c.args.best.now.by c.args.best.now.text.items found)

pub add_automorphism-requires : goal.add_automorphism-requires
add_automorphism-requires c =
    let t = c.args.traversal.now in
    let s = c.in_ok-second.ensures in
    let auto = tie_by t.table.now t.start c.args.best.now.by c.in_ok-second.second c.in_ok-by.by c.args.best.now.text.items (record {
      table = t.is_table;
      connected = t.connected;
      in_range = t.in_range;
      permutes = s.permutes;
      bijection = s.bijection;
      numbers = s.numbers;
    }) c.requires.found c.requires.equal c.in_ok-by.ensures in
    ap (λ n. 24 * n) (length-images (length c.args.traversal.now.table.now) c.in_ok-by.by auto.0) ∙ sym c.requires.orbits.size

pub returns-clause-orbits : goal.returns-clause-orbits
returns-clause-orbits c =
    let t = c.args.traversal.now in
    let s = c.in_ok-second.ensures in
    let e = c.in_ok-add_automorphism.ensures in
    let auto = tie_by t.table.now t.start c.args.best.now.by c.in_ok-second.second c.in_ok-by.by c.args.best.now.text.items (record {
      table = t.is_table;
      connected = t.connected;
      in_range = t.in_range;
      permutes = s.permutes;
      bijection = s.bijection;
      numbers = s.numbers;
    }) c.requires.found c.requires.equal c.in_ok-by.ensures in
    orbits_added t.table.now c.in_ok-by.by c.args.orbits.now c.add_automorphism.new.orbits c.requires.orbits auto e.size e.automorphisms

pub returns-clause-marks : goal.returns-clause-marks
returns-clause-marks c = λ text h.
    let t = c.args.traversal.now in
    let s = c.in_ok-second.ensures in
    let e = c.in_ok-add_automorphism.ensures in
    let auto = tie_by t.table.now t.start c.args.best.now.by c.in_ok-second.second c.in_ok-by.by c.args.best.now.text.items (record {
      table = t.is_table;
      connected = t.connected;
      in_range = t.in_range;
      permutes = s.permutes;
      bijection = s.bijection;
      numbers = s.numbers;
    }) c.requires.found c.requires.equal c.in_ok-by.ensures in
    let all = orbits_added c.args.traversal.now.table.now c.in_ok-by.by c.args.orbits.now c.add_automorphism.new.orbits c.requires.orbits auto e.size e.automorphisms in
    e.marked c.args.traversal.now.table.now text c.args.traversal.now.is_table all.automorphisms (sym c.requires.orbits.size) h
