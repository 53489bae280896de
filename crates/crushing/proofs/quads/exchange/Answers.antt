-- The images are those of a permutation.
use Rattle.std.proofs.Common.{[], ◌∷◌}
use Rattle.crushing.proofs.Exchanges.{exchange_permutes}
use Rattle.crushing.proofs.quads.exchange.Goals as goal

pub unwrap-requires : goal.unwrap-requires
unwrap-requires c =
    c.new.ensures.permutes.1
    (exchange_permutes c.args.v c.args.w c.requires.first c.requires.second (c.exchange_image.result ∷ c.exchange_image-2.result ∷ c.exchange_image-3.result ∷ c.exchange_image-4.result ∷ [])
    (λ i. c.exchange_image.ensures i ∷ c.exchange_image-2.ensures i ∷ c.exchange_image-3.ensures i ∷ c.exchange_image-4.ensures i ∷ []))
