use Rattle.std.proofs.Common.{◌≡◌, ◌+◌, ◌/◌, length, take, sym, ap, ◌∙◌, arith}
use Rattle.std.proofs.lemmas.List.{length-map, length-take}
use Rattle.support_bits.specs.Words.{bit_of}
use Rattle.support_table.specs.Narrow.{narrowed}
use Rattle.support_table.specs.Residuals.{support_at}
use Rattle.support_table.specs.Tables.{Table}
use Rattle.support_table.proofs.NarrowLoops.{narrowed_from_words, table_more, table_all}
use Rattle.support_table.proofs.narrow.narrowed_table.Goals as goal

pub loop-place-init : goal.loop-place-init
loop-place-init c = c.new-table.ensures

pub narrowed-requires-clause-in_range : goal.narrowed-requires-clause-in_range
narrowed-requires-clause-in_range c k d less =
    let below = c.requires.each k d less in
    let count : length c.words_at.result.now ≡ (c.args.rays.now.columns + 63) / 64 = c.words_at.ensures.words.count ∙ ap (λ n. (n + 63) / 64) c.words_at.ensures.width in
    omega (arith, below, count)

pub push-requires-clause-columns : goal.push-requires-clause-columns
push-requires-clause-columns c = ap length c.in_ok-support.ensures ∙ length-map c.args.used.now (bit_of c.words_at.result.now) ∙ sym (ap (λ (t : Table). t.columns) c.loop-place.invariant)

pub push-requires-clause-room : goal.push-requires-clause-room
push-requires-clause-room c =
    let supports = c.args.rays.now.supports in
    let place = c.loop-place.place in
    let count = ap (λ (t : Table). length t.supports) c.loop-place.invariant ∙ length-map (take place supports) (narrowed c.args.used.now) in
    omega (arith, count, length-take place supports, c.loop-place-test.true)

pub loop-place-preserved : goal.loop-place-preserved
loop-place-preserved c =
    let rays = c.args.rays.now in
    let used = c.args.used.now in
    let place = c.loop-place.place in
    table_more used rays place c.loop-place.table c.push.new.self c.in_ok-support.support c.loop-place.invariant (omega (arith, c.loop-place-test.true, c.len-place-end.ensures))
    (c.in_ok-support.ensures ∙ narrowed_from_words c.words_at.result.now used (support_at rays.supports place) c.words_at.ensures.words) c.in_ok-push.ensures.pushed

pub returns : goal.returns
returns c = table_all c.args.used.now c.args.rays.now c.loop-place.place c.loop-place.table c.loop-place.invariant (omega (arith, c.loop-place-test.false, c.len-place-end.ensures))
