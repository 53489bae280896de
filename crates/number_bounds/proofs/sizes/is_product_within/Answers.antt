use Rattle.std.proofs.Common.{◌≡◌, ◌^◌, ◌*◌, ap, ◌∙◌, mul_comm, arith}
use Rattle.number_bounds.proofs.Past.{is_within, is_past, reached}
use Rattle.number_bounds.proofs.sizes.is_product_within.Goals as goal

pub returns-in-Some : goal.returns-in-Some
returns-in-Some c =
    is_within c.in-Some.most (c.args.size * c.args.product) c.args.limit
    (c.in-Some.ensures.1 ∙ ap (λ n. c.args.product * n) c.from.ensures ∙ mul_comm c.args.product c.args.size)

pub returns-in-None : goal.returns-in-None
returns-in-None c =
    let same : c.args.product * c.from.result ≡ c.args.size * c.args.product = ap (λ n. c.args.product * n) c.from.ensures ∙ mul_comm c.args.product c.args.size in
    is_past (c.args.size * c.args.product) c.args.limit (2 ^ 128) c.ranges.limit.fits
    (omega (arith, same, reached (c.args.product * c.from.result) (2 ^ 128) c.in-None.ensures))
