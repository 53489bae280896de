use Rattle.std.proofs.Common.{◌≡◌, ◌*◌, length, arith, ap, ◌∙◌}
use Rattle.std.specs.Prelude.{count_by}
use Rattle.table_definitions.specs.Lists.{below}
use Rattle.table_definitions.specs.Places.{face_of, is_boundary}
use Rattle.canonical_labelling.specs.Counts.{boundary_count}
use Rattle.canonical_labelling.proofs.CountLemmas.{counted_on, counted_few}
use Rattle.canonical_labelling.proofs.counts.boundary_count.Goals as goal

pub loop-place-preserved : goal.loop-place-preserved
loop-place-preserved c = record {
  is = counted_on (λ k. is_boundary c.args.table.now (face_of k)) c.loop-place.place c.loop-place.count c.from-count.result c.is_boundary.result c.loop-place.invariant.is c.from-count.ensures c.is_boundary.ensures;
  limited = counted_few c.loop-place.count c.from-count.result c.loop-place.place c.is_boundary.result c.loop-place.invariant.limited c.from-count.ensures;
}

pub returns : goal.returns
unfolding boundary_count
returns c =
    let end : c.loop-place.place ≡ 4 * length c.args.table.now = omega (arith, c.len-place-end.ensures.value, c.loop-place-test.false, c.loop-place.auto.place-end) in
    c.loop-place.invariant.is ∙ ap (λ n. count_by (λ k. is_boundary c.args.table.now (face_of k)) (below n)) end
