use Rattle.std.proofs.Common.{◌<◌, length, get_or, set, refl, sym, ap, ◌∙◌, arith}
use Rattle.std.specs.Prelude.{Some, Vec}
use Rattle.std.specs.declared.alloc.Global.{Global}
use Rattle.support_table.specs.declared.candidates.Candidate.{Candidate}
use Rattle.support_table.specs.declared.parts.Found.{Found}
use Rattle.support_table.specs.Near.{chosen_at}
use Rattle.support_table.proofs.PartLemmas.{found_set}
use Rattle.support_table.proofs.chunks.find_chunk.Goals as goal

pub minimal_of-requires-clause-candidates : goal.minimal_of-requires-clause-candidates
minimal_of-requires-clause-candidates c =
    let e = c.ray_at-ray.ensures in
    let lists = c.in_ok-lists.ensures in
    let items = c.deref-list-items.ensures.value in
    let list = c.list-item.result in
    let n = c.loop-bit.bit in
    let within : n < length c.args.chunk.chosen.now = omega (arith, c.loop-bit-test.true, ap length items, lists.count) in
    let read = c.deref.ensures.value ∙ ap (λ (v : Vec Candidate Global). v.items) (c.list-item.is ∙ ap (λ ls. get_or ls n list) items) in
    rw (e.rays, e.support, e.joined, e.own, e.most, read) (lists.each n list within)

pub loop-bit-preserved : goal.loop-bit-preserved
loop-bit-preserved c =
    let chunk = c.args.chunk in
    let search = chunk.search in
    let e = c.ray_at-ray.ensures in
    let n = c.loop-bit.bit in
    let k = get_or chunk.chosen.now n 0 in
    let it = chosen_at search.outers.now chunk.chosen.now n in
    let found = c.loop-bit.found.items in
    let entry : Found = record { places = Some c.in_ok-places.places } in
    let less : n < length chunk.chosen.now = omega (arith, c.loop-bit-test.true, ap length c.deref-list-items.ensures.value, c.in_ok-lists.ensures.count) in
    let within = chunk.are_outers n 0 less in
    found_set search.rays.now.supports search.outers.now search.selected.now search.most found _ k it entry c.loop-bit.invariant within refl (search.are_outers.places k _ within)
    (rw (sym e.rays, sym e.support, sym e.joined, sym e.own, sym e.most) c.in_ok-places.ensures) (ap (λ p. set found p entry) e.own)
