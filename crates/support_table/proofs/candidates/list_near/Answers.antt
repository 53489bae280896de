use Rattle.std.proofs.Common.{◌≡◌, ◌+◌, ◌*◌, ◌/◌, bit_and, length, get_or, refl, subst, sym, ap, ◌∙◌, arith}
use Rattle.support_table.specs.Masks.{IsMarkOf, AreByteMasks}
use Rattle.support_table.specs.Residuals.{support_at}
use Rattle.support_table.proofs.ListLemmas.{not_left, lists_none, lists_next, lists_all}
use Rattle.support_table.proofs.candidates.list_near.Goals as goal

pub loop-ray-init : goal.loop-ray-init
loop-ray-init c =
    let chunk = c.args.chunk in
    lists_none chunk.search.rays.now chunk.search.outers.now chunk.chosen.now chunk.search.most chunk.part.now c.args.near.now c.in_ok-lists.lists.items c.in_ok-lists.ensures.count c.in_ok-lists.ensures.empty

pub mask_of-mark-requires : goal.mask_of-mark-requires
mask_of-mark-requires c =
    let chunk = c.args.chunk in
    let wide : length c.words_at.result.now ≡ (chunk.search.rays.now.columns + 63) / 64 = c.words_at.ensures.words.count ∙ ap (λ n. (n + 63) / 64) (c.words_at.ensures.width ∙ chunk.copied.columns) in
    omega (arith, c.requires.hits.bytes.count, wide)

pub push_to_lists-requires-clause-separate : goal.push_to_lists-requires-clause-separate
push_to_lists-requires-clause-separate c b one =
    let it = get_or c.args.near.now c.loop-ray.ray-index (record { place = 0; clash = 0; two = 0 }) in
    not_left it.clash (bit_and c.mask_of-mark.result it.two) c.ruled_out.result b c.ruled_out.ensures c.ruled_out.type_inv one

pub loop-ray-preserved : goal.loop-ray-preserved
loop-ray-preserved c =
    let chunk = c.args.chunk in
    let part = chunk.part.now in
    let m = c.loop-ray.ray-index in
    let it = get_or c.args.near.now m (record { place = 0; clash = 0; two = 0 }) in
    let hits = c.requires.hits in
    let wide : length c.words_at.result.now ≡ (chunk.search.rays.now.columns + 63) / 64 = c.words_at.ensures.words.count ∙ ap (λ n. (n + 63) / 64) (c.words_at.ensures.width ∙ chunk.copied.columns) in
    let marked : IsMarkOf hits.masks (support_at part.table.supports it.place) c.mask_of-mark.result =
    c.mask_of-mark.ensures hits.masks (support_at part.table.supports it.place) (subst (λ n. AreByteMasks hits.masks (8 * n) c.args.hits.now) (sym wide) hits.bytes) c.words_at.ensures.words in
    lists_next chunk.search.rays.now chunk.search.outers.now chunk.chosen.now chunk.search.most part c.args.near.now c.requires.part c.requires.near c.args.hits.now hits m c.loop-ray-test.true it refl
    c.mask_of-mark.result c.ruled_out.result c.loop-ray.lists.items c.push_to_lists.new.lists.items c.loop-ray.invariant marked chunk.short c.ruled_out.ensures c.ruled_out.type_inv c.in_ok-push_to_lists.ensures

pub returns : goal.returns
returns c =
    let chunk = c.args.chunk in
    lists_all chunk.search.rays.now chunk.search.outers.now chunk.chosen.now chunk.search.most chunk.part.now c.args.near.now c.requires.part c.requires.near c.loop-ray.ray-index c.loop-ray.lists.items c.loop-ray.invariant c.loop-ray-test.false
