-- Each word adds its ones, no count is more than the bits so far, and the bits of all words are the columns.
use Rattle.std.proofs.Common.{◌≡◌, ◌+◌, ◌*◌, ◌<◌, ◌≤◌, ◌^◌, length, get_or, ap, ◌∙◌, arith, bit_or}
use Rattle.std.proofs.Math.Facts.{Fits-lt-pow}
use Rattle.std.specs.Int.Count.{ones}
use Rattle.std.proofs.lemmas.Nat.{or_lt, ones-le}
use Rattle.support_table.specs.Counts.{bits_in_either}
use Rattle.support_table.proofs.BitCounts.{bits_more, bits_within, columns_from_bits}
use Rattle.support_table.proofs.counts.union_count.Goals as goal

pub overflow_add-count : goal.overflow_add-count
overflow_add-count c = let a = c.args.a.now in let b = c.args.b.now in let k = c.loop-k.k in
    let fits : bit_or (get_or a k 0) (get_or b k 0) < 2 ^ 64 = or_lt 64 _ _ (Fits-lt-pow (c.type_inv.a k)) (Fits-lt-pow (c.type_inv.b k)) in
    let limited : ones (bit_or (get_or a k 0) (get_or b k 0)) ≤ 64 = ones-le 64 _ fits in
    let so_far : bits_in_either (64 * k) a b ≤ 64 * k = bits_within (64 * k) a b in
    let i = c.loop-k.invariant in
    let e = c.from-count.ensures in grind (arith, limited, so_far, i, e, c.requires.short)

pub loop-k-preserved : goal.loop-k-preserved
loop-k-preserved c = let a = c.args.a.now in let b = c.args.b.now in let k = c.loop-k.k in
    let fits : bit_or (get_or a k 0) (get_or b k 0) < 2 ^ 64 = or_lt 64 _ _ (Fits-lt-pow (c.type_inv.a k)) (Fits-lt-pow (c.type_inv.b k)) in
    let more : bits_in_either (64 * (k + 1)) a b ≡ bits_in_either (64 * k) a b + ones (bit_or (get_or a k 0) (get_or b k 0)) = bits_more a b k fits in
    let i : c.loop-k.count ≡ bits_in_either (64 * k) a b = c.loop-k.invariant in
    let e : c.from-count.result ≡ ones (bit_or (get_or a k 0) (get_or b k 0)) = c.from-count.ensures in omega (arith, more, i, e)

pub returns : goal.returns
returns c = λ s t of_s of_t same.
    let all : c.loop-k.k ≡ length c.args.a.now = omega (arith, c.loop-k-test.false) in
    c.loop-k.invariant ∙ ap (λ n. bits_in_either (64 * n) c.args.a.now c.args.b.now) all ∙ columns_from_bits s t c.args.a.now c.args.b.now of_s of_t same
