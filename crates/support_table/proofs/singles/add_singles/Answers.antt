use Rattle.std.proofs.Common.{◌+◌, ◌<◌, w64, length, refl, subst, ap, ◌∙◌, arith}
use Rattle.std.specs.Int.{trailing_zeros}
use Rattle.std.proofs.Math.Facts.{Fits-lt-pow}
use Rattle.support_bits.specs.Columns.{Meets}
use Rattle.support_table.specs.Residuals.{support_at}
use Rattle.support_table.proofs.BitLemmas.{from_first, from_more, set_at}
use Rattle.support_table.proofs.SingleLemmas.{singles_at, all_singles_set}
use Rattle.support_table.proofs.singles.add_singles.Goals as goal

pub loop-rest-init : goal.loop-rest-init
loop-rest-init c = record {
  below = omega arith;
  left = from_first c.args.word;
  singles = c.requires.singles;
}

pub add_single-requires-clause-separate : goal.add_single-requires-clause-separate
add_single-requires-clause-separate c meets =
    let chunk = c.args.chunk in
    let rest = c.loop-rest.rest in
    let next = c.loop-rest.bit + trailing_zeros w64 rest in
    let some : 0 < rest = omega (arith, c.loop-rest-test.true) in
    let inside : next < length chunk.chosen.now = omega (arith, c.if-next-chunk.false) in
    let zero_is = c.requires.separate next (set_at c.args.word c.loop-rest.bit rest c.loop-rest.invariant.left some (Fits-lt-pow c.loop-rest.auto.rest-fits)) in
    let one = (c.requires.near.clash next inside).1 (subst (Meets (support_at chunk.part.now.table.supports c.args.near.place)) c.ray_at.ensures.joined meets) in
    omega (arith, zero_is, one)

pub loop-rest-preserved : goal.loop-rest-preserved
loop-rest-preserved c =
    let chunk = c.args.chunk in
    let search = chunk.search in
    let rays = search.rays.now in
    let outers = search.outers.now in
    let chosen = chunk.chosen.now in
    let ray = c.ray_at.result in
    let rest = c.loop-rest.rest in
    let next = c.loop-rest.bit + trailing_zeros w64 rest in
    let inside : next < length chosen = omega (arith, c.if-next-chunk.false) in
    record {
      below = omega (arith, inside);
      left = from_more c.args.word c.loop-rest.bit rest c.loop-rest.invariant.left;
      singles = all_singles_set rays outers chosen search.most c.loop-rest.singles.items _ next c.add_single.new.single c.loop-rest.invariant.singles refl inside (c.add_single.ensures.columns ∙ ap (λ t. t.columns) c.ray_at.ensures.rays)
          (singles_at rays outers chosen search.most next ray.rays.now ray.support.now ray.joined.now c.add_single.new.single ray.own ray.most c.ray_at.ensures.rays c.ray_at.ensures.support c.ray_at.ensures.joined c.ray_at.ensures.own
          c.ray_at.ensures.most c.add_single.ensures.singles);
    }
