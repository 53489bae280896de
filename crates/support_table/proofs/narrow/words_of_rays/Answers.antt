use Rattle.std.proofs.Common.{◌+◌, ◌/◌, sym, ap, ◌∙◌, arith}
use Rattle.support_table.specs.Residuals.{support_at}
use Rattle.support_table.proofs.NarrowLoops.{marked_more, rays_marked}
use Rattle.support_table.proofs.narrow.words_of_rays.Goals as goal

pub add_bits-requires : goal.add_bits-requires
add_bits-requires c = c.words_at.ensures.words.count ∙ ap (λ n. (n + 63) / 64) c.words_at.ensures.width ∙ sym c.loop-place.invariant.count

pub loop-place-preserved : goal.loop-place-preserved
loop-place-preserved c =
    let rays = c.args.rays.now in
    marked_more rays.columns (support_at rays.supports) c.loop-place.place c.loop-place.words.items c.words_at.result.now _ c.loop-place.invariant c.add_bits.ensures c.words_at.ensures.words c.words_at.ensures.width

pub returns : goal.returns
returns c =
    let rays = c.args.rays.now in
    rays_marked rays.columns c.loop-place.place rays.supports c.loop-place.words.items c.loop-place.invariant (omega (arith, c.loop-place-test.false, c.len-place-end.ensures))
