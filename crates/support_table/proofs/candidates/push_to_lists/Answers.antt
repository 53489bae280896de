use Rattle.std.proofs.Common.{◌≡◌, ◌+◌, ◌<◌, ◌≤◌, Vec, w64, length, get_or, subst, arith}
use Rattle.std.proofs.Math.Facts.{Fits-lt-pow}
use Rattle.std.specs.Int.{trailing_zeros}
use Rattle.std.specs.declared.alloc.Global.{Global}
use Rattle.support_bits.specs.Columns.{Meets}
use Rattle.support_table.specs.declared.candidates.Candidate.{Candidate}
use Rattle.support_table.specs.Candidates.{IsCandidatePushed}
use Rattle.support_table.specs.Near.{chosen_at}
use Rattle.support_table.specs.Residuals.{support_at}
use Rattle.support_table.proofs.BitLemmas.{AreFrom, before_first, next_before, before_more, from_first, from_more, set_at}
use Rattle.support_table.proofs.ListLemmas.{unset_before, unset_from, pushed_none, pushed_pass, pushed_set}
use Rattle.support_table.proofs.candidates.push_to_lists.Goals as goal

pub loop-rest-init : goal.loop-rest-init
loop-rest-init c = record {
  within = omega arith;
  before = before_first 0 c.args.word c.ranges.word.fits;
  left = from_first c.args.word;
  lists = pushed_none c.args.chunk.search.rays.now.supports c.args.chunk.search.outers.now c.args.chunk.chosen.now c.args.chunk.search.most (get_or c.args.chunk.part.now.places.items c.args.near.place 0) c.args.word c.args.lists.now.items;
}

pub overflow_add-next : goal.overflow_add-next
overflow_add-next c =
    let some : 0 < c.loop-rest.rest = omega (arith, c.loop-rest-test.true) in
    let next = next_before c.loop-rest.bit 64 c.loop-rest.rest c.loop-rest.invariant.before some (Fits-lt-pow c.loop-rest.auto.rest-fits) in
    omega (arith, next)

pub returns-then-next-chunk : goal.returns-then-next-chunk
returns-then-next-chunk c =
    let chunk = c.args.chunk in
    let bit = c.loop-rest.bit in
    let rest = c.loop-rest.rest in
    let invariant = c.loop-rest.invariant in
    let some : 0 < rest = omega (arith, c.loop-rest-test.true) in
    let next : length chunk.chosen.now ≤ bit + trailing_zeros w64 rest = c.if-next-chunk.true in
    pushed_pass chunk.search.rays.now.supports chunk.search.outers.now chunk.chosen.now chunk.search.most (get_or chunk.part.now.places.items c.args.near.place 0) c.args.word c.args.lists.now.items
    bit (length chunk.chosen.now) c.loop-rest.lists.items invariant.lists invariant.within
    (λ b low less. unset_before c.args.word bit rest invariant.left some (Fits-lt-pow c.loop-rest.auto.rest-fits) b low (omega arith))

pub push_candidate-requires-clause-separate : goal.push_candidate-requires-clause-separate
push_candidate-requires-clause-separate c meets =
    let chunk = c.args.chunk in
    let bit = c.loop-rest.bit in
    let rest = c.loop-rest.rest in
    let some : 0 < rest = omega (arith, c.loop-rest-test.true) in
    let one = set_at c.args.word bit rest c.loop-rest.invariant.left some (Fits-lt-pow c.loop-rest.auto.rest-fits) in
    let none = c.requires.separate (bit + trailing_zeros w64 rest) one in
    let clash = (c.requires.near.clash (bit + trailing_zeros w64 rest) (omega (arith, c.if-next-chunk.false))).1 (subst (Meets (support_at chunk.part.now.table.supports c.args.near.place)) c.ray_at.ensures.joined meets) in
    omega (arith, none, clash)

pub loop-rest-preserved : goal.loop-rest-preserved
loop-rest-preserved c =
    let chunk = c.args.chunk in
    let supports = chunk.search.rays.now.supports in
    let outers = chunk.search.outers.now in
    let chosen = chunk.chosen.now in
    let most = chunk.search.most in
    let place = get_or chunk.part.now.places.items c.args.near.place 0 in
    let bit = c.loop-rest.bit in
    let rest = c.loop-rest.rest in
    let next = bit + trailing_zeros w64 rest in
    let it = chosen_at outers chosen next in
    let invariant = c.loop-rest.invariant in
    let some : 0 < rest = omega (arith, c.loop-rest-test.true) in
    let fits = Fits-lt-pow c.loop-rest.auto.rest-fits in
    let less : next < length chosen = omega (arith, c.if-next-chunk.false) in
    let list = c.index_mut.result.now in
    let new = c.push_candidate.new.list in
    let pushed = rw (c.ray_at.ensures.rays, c.ray_at.ensures.support, c.ray_at.ensures.joined, c.ray_at.ensures.own, c.ray_at.ensures.most) at c.in_ok-push_candidate.ensures in
    record {
      within = omega arith;
      before = before_more bit 64 rest invariant.before;
      left = from_more c.args.word bit rest invariant.left;
      lists = pushed_set supports outers chosen most place c.args.word c.args.lists.now.items next c.loop-rest.lists.items new list
          (pushed_pass supports outers chosen most place c.args.word c.args.lists.now.items bit next c.loop-rest.lists.items invariant.lists (omega arith) (unset_before c.args.word bit rest invariant.left some fits))
          (omega (arith, c.requires.count)) (set_at c.args.word bit rest invariant.left some fits)
          (subst (λ (v : Vec Candidate Global). IsCandidatePushed supports it.support it.joined it.place most place v.items new.items) c.index_mut.ensures.value pushed);
    }

pub returns : goal.returns
returns c =
    let chunk = c.args.chunk in
    let none : c.loop-rest.rest ≡ 0 = omega (arith, c.loop-rest-test.false) in
    pushed_pass chunk.search.rays.now.supports chunk.search.outers.now chunk.chosen.now chunk.search.most (get_or chunk.part.now.places.items c.args.near.place 0) c.args.word c.args.lists.now.items
    c.loop-rest.bit (length chunk.chosen.now) c.loop-rest.lists.items c.loop-rest.invariant.lists c.loop-rest.invariant.within
    (λ b low less. unset_from c.args.word c.loop-rest.bit (subst (AreFrom c.args.word c.loop-rest.bit) none c.loop-rest.invariant.left) b low)
